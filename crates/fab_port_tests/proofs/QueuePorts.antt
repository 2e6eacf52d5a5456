-- Ports over queues: as they are made, and two as they are gathered.
use Rattle.std.proofs.Common.{◌≡◌, ℕ, List, [], ◌∷◌, ◌++◌, length, sym, refl, ap, ◌∙◌, subst, arith, Some}
use Rattle.std.specs.Prelude.{slice_get}
use Rattle.fab_link.specs.Plain.{Plain}
use Rattle.fab_queue.specs.Ports.{Queued, Lanes, number_of, peers_of, lanes_of, out_of}
use Rattle.fab_queue.specs.Made.{AreMade, AreJoined}
use Rattle.fab_queue.specs.Gather.{AreAll, Gathered, GoesOn}
use Rattle.fab_port_suite.specs.Lanes.{AreBetween, IsEnd}
use Rattle.fab_port_suite.proofs.Between.{fresh_between}
use Rattle.fab_port_suite.proofs.Lists.{last_two, of_pair}
use Rattle.fab_port_tests.specs.Pairs.{AreBoth, ArePaired}

pub queue_ready : (n peers room : ℕ) (ports : List Queued) → peers ≡ n → AreMade peers room ports → (k : ℕ) (p : Queued) → slice_get ports k ≡ Some p → (peers_of p ≡ n) × AreBetween (out_of p)
queue_ready n peers room ports is m k p at = ((m.sizes k p at).0 ∙ is, λ d. fresh_between (out_of p d) ((m.fresh k p at).1 d).frames refl)

pub queue_made : (peers room : ℕ) (ports rest left : List Queued) (a b : Queued) → peers ≡ 2 → AreMade peers room ports → ports ≡ rest ++ b ∷ [] → rest ≡ left ++ a ∷ []
    → IsEnd 0 (number_of a) (peers_of a) (out_of a) × IsEnd 1 (number_of b) (peers_of b) (out_of b) × ArePaired (lanes_of a) (lanes_of b)
queue_made peers room ports rest left a b two m is is' = let at = last_two ports rest left a b (m.count ∙ two) is is' in
    let ready = queue_ready 2 peers room ports two m in let za = ready 0 a at.0 in let zb = ready 1 b at.1 in (
      (m.numbers 0 a at.0, za.0, za.1),
      (m.numbers 1 b at.1, zb.0, zb.1),
      record { zero_zero = m.joined 0 0 a a at.0 at.0; zero_one = m.joined 0 1 a b at.0 at.1; one_zero = m.joined 1 0 b a at.1 at.0; one_one = m.joined 1 1 b b at.1 at.1 },
    )

queue_joined : (a b : Queued) → ArePaired (lanes_of a) (lanes_of b) → AreJoined (a ∷ b ∷ [])
queue_joined a b k s d x y at_s at_d =
    of_pair (λ i p. (j : ℕ) (q : Queued) → slice_get (a ∷ b ∷ []) j ≡ Some q → (lanes_of p).to j ≡ (lanes_of q).from i) a b
    (of_pair (λ j q. (lanes_of a).to j ≡ (lanes_of q).from 0) a b k.zero_zero k.zero_one)
    (of_pair (λ j q. (lanes_of b).to j ≡ (lanes_of q).from 1) a b k.one_zero k.one_one) s x at_s d y at_d

pub queue_all : (a b : Queued) (ports : List Queued) → ports ≡ a ∷ b ∷ [] → number_of a ≡ 0 → peers_of a ≡ 2 → number_of b ≡ 1 → peers_of b ≡ 2 → ArePaired (lanes_of a) (lanes_of b) → AreAll ports
queue_all a b ports is na pa nb pb k = subst AreAll (sym is) record {
  some = omega arith;
  numbers = of_pair (λ i p. number_of p ≡ i) a b na nb;
  sizes = of_pair (λ _ p. peers_of p ≡ 2) a b pa pb;
  joined = queue_joined a b k;
}

-- the two plain ports that these were gathered into
pub queue_goes : (a b : Queued) (ports : List Queued) (plain : List Plain) (p q : Plain) → ports ≡ a ∷ b ∷ [] → AreBoth plain p q → Gathered ports plain → GoesOn a p × GoesOn b q
queue_goes a b ports plain p q is both g = (g.goes_on 0 a p (ap (λ (l : List Queued). slice_get l 0) is) both.0, g.goes_on 1 b q (ap (λ (l : List Queued). slice_get l 1) is) both.1)

pub queue_count : (a b : Queued) (ports : List Queued) (plain : List Plain) → ports ≡ a ∷ b ∷ [] → Gathered ports plain → length plain ≡ 2
queue_count a b ports plain is g = g.count ∙ ap length is

-- the same lanes are between the same two
pub still_paired : (zero one zero' one' : Lanes) → zero' ≡ zero → one' ≡ one → ArePaired zero one → ArePaired zero' one'
still_paired zero one zero' one' z o paired = subst (λ (p : Lanes × Lanes). ArePaired p.0 p.1) (λ i. (sym z i, sym o i)) paired

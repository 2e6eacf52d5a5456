-- Ports of one table: as they are made, and two as they are gathered.
use Rattle.std.proofs.Common.{◌≡◌, ℕ, List, [], ◌∷◌, ◌++◌, length, sym, refl, ap, ◌∙◌, subst, Some}
use Rattle.std.specs.Prelude.{slice_get}
use Rattle.fab_link.specs.Plain.{Plain}
use Rattle.fab_table.specs.declared.lane_table.LaneTable.{LaneTable}
use Rattle.fab_ring.specs.declared.port.RingPort.{RingPort}
use Rattle.fab_ring.specs.Ports.{number_of, peers_of, table_of, out_of}
use Rattle.fab_ring.specs.Made.{AreMade}
use Rattle.fab_ring.specs.Gather.{AreAll, Gathered, GoesOn}
use Rattle.fab_port_suite.specs.Lanes.{AreBetween, IsEnd}
use Rattle.fab_port_suite.proofs.Between.{fresh_between}
use Rattle.fab_port_suite.proofs.Lists.{last_two, of_pair}
use Rattle.fab_port_tests.specs.Pairs.{IsFresh, AreBoth}

pub ring_ready : (n peers room pool : ℕ) (f : LaneTable) (ports : List RingPort) → peers ≡ n → AreMade peers room pool f ports → (k : ℕ) (p : RingPort) → slice_get ports k ≡ Some p → (peers_of p ≡ n) × AreBetween (out_of p)
ring_ready n peers room pool f ports is m k p at = ((m.sizes k p at).0 ∙ is, λ d. fresh_between (out_of p d) ((m.fresh k p at).1 d).frames refl)

pub ring_made : (peers room pool : ℕ) (f : LaneTable) (ports rest left : List RingPort) (a b : RingPort) → peers ≡ 2 → AreMade peers room pool f ports → ports ≡ rest ++ b ∷ [] → rest ≡ left ++ a ∷ []
    → IsEnd 0 (number_of a) (peers_of a) (out_of a) × IsEnd 1 (number_of b) (peers_of b) (out_of b) × (table_of b ≡ table_of a) × (IsFresh a × IsFresh b)
ring_made peers room pool f ports rest left a b two m is is' = let at = last_two ports rest left a b (m.count ∙ two) is is' in
    let ready = ring_ready 2 peers room pool f ports two m in let za = ready 0 a at.0 in let zb = ready 1 b at.1 in
    ((m.numbers 0 a at.0, za.0, za.1), (m.numbers 1 b at.1, zb.0, zb.1), m.tables 1 b at.1 ∙ sym (m.tables 0 a at.0), ((m.fresh 0 a at.0).1, (m.fresh 1 b at.1).1))

pub ring_all : (a b : RingPort) (ports : List RingPort) → ports ≡ a ∷ b ∷ [] → number_of a ≡ 0 → peers_of a ≡ 2 → number_of b ≡ 1 → table_of b ≡ table_of a → AreAll (table_of a) ports
ring_all a b ports is na pa nb same = subst (AreAll (table_of a)) (sym is) record {
  count = sym pa;
  numbers = of_pair (λ k p. number_of p ≡ k) a b na nb;
  tables = of_pair (λ _ p. table_of p ≡ table_of a) a b refl same;
}

-- the two plain ports that these were gathered into
pub ring_goes : (a b : RingPort) (ports : List RingPort) (plain : List Plain) (p q : Plain) → ports ≡ a ∷ b ∷ [] → AreBoth plain p q → Gathered ports plain → GoesOn a p × GoesOn b q
ring_goes a b ports plain p q is both g = (g.goes_on 0 a p (ap (λ (l : List RingPort). slice_get l 0) is) both.0, g.goes_on 1 b q (ap (λ (l : List RingPort). slice_get l 1) is) both.1)

pub ring_count : (a b : RingPort) (ports : List RingPort) (plain : List Plain) → ports ≡ a ∷ b ∷ [] → Gathered ports plain → length plain ≡ 2
ring_count a b ports plain is g = g.count ∙ ap length is

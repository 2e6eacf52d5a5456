-- Ports as they are made.
--     IsOpened              a port over these ends, which were not used
--     AreJoined             for each two ports, the lane at whose end the one posts is that at whose end the other takes
--     AreMade               new ports of all peers, in order
use Rattle.std.specs.Prelude.{◌≡◌, ℕ, ◌<◌, ◌≤◌, List, [], length, Some, slice_get, Vec}
use Rattle.std.specs.declared.alloc.Global.{Global}
use Rattle.fab_link.specs.Meaning.{AreFresh}
use Rattle.fab_queue.specs.Ends.{Out, In}
use Rattle.fab_queue.specs.Ports.{Queued, out_of, in_of, number_of, peers_of, room_of, moves_of, lanes_of}
use Rattle.fab_queue.specs.Laid.{members, out_in, in_in}

-- the lanes between so many peers, of so many frames each
pub record Between : Type 0 where
  pub peers : ℕ
  pub lane : ℕ

-- nothing was posted or taken at these ends
abbrev pub AreEmpty : List Out → List In → Type 0
AreEmpty outs ins = ((d : ℕ) → (out_in outs d).posted ≡ []) × ((s : ℕ) → (in_in ins s).taken ≡ [])

abbrev pub IsOpened : ℕ → List Out → List In → Queued → Type 0
IsOpened me outs ins p = p ≡ record { number = me; outs = outs; ins = ins; moves = [] }

-- what each of the first n ports is made of, and what is left for the others
pub record AreOpened (outs now_outs : List (Vec Out Global)) (ins now_ins : List (Vec In Global)) (ports : List Queued) (n : ℕ) : Type 0 where
  pub count : length ports ≡ n
  pub each : (k : ℕ) (p : Queued) → slice_get ports k ≡ Some p → IsOpened k (members outs k) (members ins k) p
  pub outs_count : length now_outs ≡ length outs
  pub ins_count : length now_ins ≡ length ins
  pub outs_left : (k : ℕ) → n ≤ k → members now_outs k ≡ members outs k
  pub ins_left : (k : ℕ) → n ≤ k → members now_ins k ≡ members ins k

abbrev pub AreJoined : List Queued → Type 0
AreJoined ports = (s d : ℕ) (a b : Queued) → slice_get ports s ≡ Some a → slice_get ports d ≡ Some b → (lanes_of a).to d ≡ (lanes_of b).from s

pub record AreMade (peers room : ℕ) (ports : List Queued) : Type 0 where
  pub count : length ports ≡ peers
  pub numbers : (k : ℕ) (p : Queued) → slice_get ports k ≡ Some p → number_of p ≡ k
  pub sizes : (k : ℕ) (p : Queued) → slice_get ports k ≡ Some p → (peers_of p ≡ peers) × ((d : ℕ) → d < peers → room_of p d ≡ room)
  pub joined : AreJoined ports
  pub fresh : (k : ℕ) (p : Queued) → slice_get ports k ≡ Some p → (moves_of p ≡ []) × ((d : ℕ) → AreFresh (out_of p d) (in_of p d))

-- What the suite asks of a port, and what it keeps.
--     AreBetween outs    what was posted to each peer ends with a whole item
--     IsEnd k ..         of the port of peer k, one of two: its number, its peers, and what was posted, which is so
--     IsReady M n p      a port of n peers, at which what was posted is so
--     AreReady M n ps    each of these is one
--     IsSame M old new   the port is that of the same peer, and what no call changes is as it was
use Rattle.std.specs.Prelude.{◌≡◌, ℕ, List, Some, slice_get}
use Rattle.fab_link.specs.Cut.{IsBetweenItems}
use Rattle.fab_link.specs.Meaning.{Outgoing, end_of}
use Rattle.fab_link.specs.declared.port.Port.{Ghosts}

abbrev pub AreBetween : (ℕ → Outgoing) → Type 0
AreBetween outs = (d : ℕ) → IsBetweenItems (end_of (outs d))

abbrev pub IsEnd : ℕ → ℕ → ℕ → (ℕ → Outgoing) → Type 0
IsEnd k number peers outs = (number ≡ k) × (peers ≡ 2) × AreBetween outs

abbrev pub IsReady : {P : Type 0} → (M : Ghosts P) → ℕ → P → Type 0
IsReady M n p = (M.peer_count p ≡ n) × AreBetween (M.outs p)

abbrev pub AreReady : {P : Type 0} → (M : Ghosts P) → ℕ → List P → Type 0
AreReady {P} M n ports = (k : ℕ) (p : P) → slice_get ports k ≡ Some p → IsReady M n p

abbrev pub IsSame : {P : Type 0} → (M : Ghosts P) → P → P → Type 0
IsSame M old new = (M.number new ≡ M.number old) × (M.peer_count new ≡ M.peer_count old) × (M.home new ≡ M.home old)

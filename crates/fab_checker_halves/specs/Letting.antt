-- How operations are let out, one after another.
--     going_out t o tx      the operation goes out
--     holding t held tx     these operations are held for the peer
use Rattle.std.specs.Prelude.{ℕ, List, [], ◌∷◌, ◌++◌, length, slice_set}
use Rattle.fab_base.specs.declared.operations.Held.{Held}
use Rattle.fab_model.specs.State.{Transmitting, accepted_for}
use Rattle.fab_model.specs.Sending.{operation_at}

-- its item joins those accepted for the peer, and it is live
abbrev pub going_out : ℕ → Held → Transmitting → Transmitting
going_out t o tx = record tx {
  accepted = slice_set tx.accepted t (accepted_for tx t ++ o.item ∷ []);
  live = tx.live ++ operation_at t (length (accepted_for tx t)) o ∷ [];
}

abbrev pub holding : ℕ → List Held → Transmitting → Transmitting
holding t held tx = record tx { held = slice_set tx.held t held }

-- the first member, if there is one, is so; and there is one
abbrev pub SomeFirst : List Held → (Held → Type 0) → Type 0
SomeFirst [] P = ⊥
SomeFirst (o ∷ held) P = P o

-- Which receive is meant by a cancel: the one of a context, or any.
--     is_meant ctx r            the receive is meant, where a context is named or none
--     is_meant_at ctx seat      the same of what is stored
--     may_leave_at              the receive under an id is meant and has no item under way
--     cancelling ctx v          the first that is meant and has no item under way leaves
use Rattle.std.specs.Prelude.{ℕ, ◌==◌, ◌&&◌, Bool, true, false, not, List, Option, Some, None}
use Rattle.std.specs.List.{list_any}
use Rattle.fab_base.specs.declared.operations.Receive.{Receive}
use Rattle.fab_model.specs.Receiving.{without_posted}
use Rattle.fab_rx.specs.declared.stored.Seat.{Seat}
use Rattle.fab_rx.specs.declared.stored.Waiting.{Waiting}
use Rattle.fab_rx.specs.declared.stored.Begun.{Begun}
use Rattle.fab_rx.specs.Table.{Cells, at}
use Rattle.fab_rx.specs.Arriving.{Arriving, with_receiving}
use Rattle.fab_rx.specs.Homes.{is_fed_by}

abbrev pub is_meant : Option ℕ → Receive → Bool
is_meant None = λ r. true
is_meant (Some ctx) = λ r. r.ctx == ctx

abbrev pub is_meant_seat : Option ℕ → Seat → Bool
is_meant_seat None = λ seat. true
is_meant_seat (Some ctx) = λ seat. seat.ctx == ctx

abbrev pub is_meant_at : Option ℕ → Option Waiting → Bool
is_meant_at ctx None = false
is_meant_at ctx (Some waiting) = is_meant_seat ctx waiting.seat

-- the receive under the id is meant, and no item is under way to it
abbrev pub may_leave_at : Option ℕ → Cells Waiting → List (Option Begun) → ℕ → Bool
may_leave_at ctx seats coming id = is_meant_at ctx (at seats id) && not (list_any (is_fed_by id) coming)

abbrev pub cancelling : Option ℕ → Arriving → Arriving
cancelling ctx v = with_receiving (without_posted (is_meant ctx) v.rx) v

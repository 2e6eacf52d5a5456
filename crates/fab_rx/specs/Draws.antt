-- Which multi-receive matches an unexpected message, by what is stored.
--     draws_at seats us id      the multi-receive under the id matches one of these messages
use Rattle.std.specs.Prelude.{ℕ, Bool, false, List, Option, Some, None, is_some}
use Rattle.fab_base.specs.declared.items.Sign.{Sign}
use Rattle.fab_match.specs.Signs.{fits}
use Rattle.fab_match.specs.Matcher.{first_id}
use Rattle.fab_rx.specs.declared.stored.Multi.{Multi}
use Rattle.fab_rx.specs.declared.stored.Waiting.{Waiting}
use Rattle.fab_rx.specs.Table.{Cells}
use Rattle.fab_rx.specs.Sharing.{multi_at}

abbrev pub draws_by : List (ℕ × Sign) → Option Multi → Bool
draws_by us None = false
draws_by us (Some m) = is_some (first_id (λ sign. fits m.want sign) us)

abbrev pub draws_at : Cells Waiting → List (ℕ × Sign) → ℕ → Bool
draws_at seats us id = draws_by us (multi_at seats id)

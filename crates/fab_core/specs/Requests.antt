-- What holds of requests at their target before they are whole (fi_rma(3), fi_atomic(3)).
--     IsServing begun target     what holds between calls
use Rattle.std.specs.Prelude.{◌≡◌, ℕ, ◌≤◌, true, List, length, Option, None, IfSome, slice_index, slice_index_or}
use Rattle.fab_base.specs.declared.items.Item.{Item}
use Rattle.fab_link.specs.Frames.{IsSound}
use Rattle.fab_rma.specs.Serving.{Serving, is_request, room_for}

-- a request that is begun makes sense, and there is room for what it hands back
abbrev pub IsAwaited : Serving → ℕ → Item → Type 0
IsAwaited target source item = is_request item.head.kind ≡ true → IsSound item.head × (room_for item.head ≤ slice_index target.rooms source)

pub record IsServing (begun : List (Option Item)) (target : Serving) : Type 0 where
  pub sources : length target.rooms ≡ length begun
  pub awaited : (s : ℕ) → IfSome (slice_index_or begun s None) (IsAwaited target s)

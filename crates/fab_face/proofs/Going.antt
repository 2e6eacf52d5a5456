-- What is held goes on: a draw leaves fewer unexpected messages, and a lane stays placed within its item.
use Rattle.std.proofs.Common.{◌≡◌, ◌<◌, ℕ, zero, suc, length, Option, Some, None, refl, sym, subst}
use Rattle.fab_base.specs.declared.frames.FrameHead.{FrameHead}
use Rattle.fab_base.specs.declared.items.Item.{Item}
use Rattle.fab_model.proofs.Unchanged.{draw_shorter}
use Rattle.fab_face.specs.Held.{Held, IsPlaced}
use Rattle.fab_face.specs.Acts.{Drew, Goes}

pub drew_shorter : (h k : Held) → Goes None h Drew k → length k.state.rx.unexpected < length h.state.rx.unexpected
drew_shorter h k goes = subst (λ (x : Held). length x.state.rx.unexpected < length h.state.rx.unexpected) (sym goes.2) (draw_shorter h.state goes.0)

pub placed_next : (end : Option FrameHead) (n : ℕ) (o o' : Option Item) → ((item : Item) → o ≡ Some item → o' ≡ Some item) → IsPlaced end n o → IsPlaced end n o'
placed_next end zero o o' stays placed = placed
placed_next end (suc k) None o' stays placed = absurd placed
placed_next end (suc k) (Some item) o' stays placed = rw (stays item refl) placed

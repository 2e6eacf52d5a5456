-- A lane grows at its end, and each of its frames follows those before it.
use Rattle.std.proofs.Common.{◌≡◌, ℕ, ◌<◌, List, [], ◌∷◌, ◌++◌, length, take, Some, None, get_or, refl, suc, zero, arith, inl, inr}
use Rattle.std.specs.Prelude.{Option, ◌⊎◌, IsNone}
use Rattle.fab_base.specs.declared.frames.FrameHead.{FrameHead}
use Rattle.fab_base.specs.declared.frames.Frame.{Frame}
use Rattle.fab_base.specs.declared.items.ItemHead.{ItemHead}
use Rattle.fab_base.specs.declared.items.Kind.{Kind}
use Rattle.fab_base.specs.declared.items.Kind.TheVariants.{Msg, TagMsg}
use Rattle.fab_link.specs.Frames.{last_head, IsSound, IsSoundAs, MayCome, IsLane}

pub last_head-push : (before : Option FrameHead) (xs : List Frame) (f : Frame) → last_head before (xs ++ f ∷ []) ≡ Some f.head
last_head-push before [] f = refl
last_head-push before (x ∷ xs) f = last_head-push (Some x.head) xs f

pub IsLane-push : (before : Option FrameHead) (xs : List Frame) (f : Frame) → IsLane before xs → MayCome (last_head before xs) f → IsLane before (xs ++ f ∷ [])
IsLane-push before [] f s n = (n, tt)
IsLane-push before (x ∷ xs) f s n = (s.0, IsLane-push (Some x.head) xs f s.1 n)

pub IsLane-at : (before : Option FrameHead) (xs : List Frame) (i : ℕ) (d : Frame) → IsLane before xs → i < length xs → MayCome (last_head before (take i xs)) (get_or xs i d)
IsLane-at before [] i d s l = absurd (omega arith)
IsLane-at before (x ∷ xs) zero d s l = s.0
IsLane-at before (x ∷ xs) (suc i) d s l = IsLane-at (Some x.head) xs i d s.1 (omega arith)

message_by : (kind : Kind) (item : ItemHead) → (kind ≡ Msg) ⊎ (kind ≡ TagMsg) → IsNone item.atom → IsSoundAs kind item
message_by kind item (inl h) n = rw h n
message_by kind item (inr h) n = rw h n

-- the head of a message is sound
pub IsSound-message : (item : ItemHead) → (item.kind ≡ Msg) ⊎ (item.kind ≡ TagMsg) → item.atom ≡ None → IsSound item
IsSound-message item h n = message_by item.kind item h (rw n refl)

-- ---- a lane and what goes on behind it

pub last_head-append : (before : Option FrameHead) (xs ys : List Frame) → last_head before (xs ++ ys) ≡ last_head (last_head before xs) ys
last_head-append before [] ys = refl
last_head-append before (x ∷ xs) ys = last_head-append (Some x.head) xs ys

pub IsLane-append : (before : Option FrameHead) (xs ys : List Frame) → IsLane before xs → IsLane (last_head before xs) ys → IsLane before (xs ++ ys)
IsLane-append before [] ys a b = b
IsLane-append before (x ∷ xs) ys a b = (a.0, IsLane-append (Some x.head) xs ys a.1 b)

pub lane_front : (before : Option FrameHead) (xs ys : List Frame) → IsLane before (xs ++ ys) → IsLane before xs
lane_front before [] ys lane = tt
lane_front before (x ∷ xs) ys lane = (lane.0, lane_front (Some x.head) xs ys lane.1)

-- the frames behind others are a lane that goes on behind these
pub lane_rest : (before : Option FrameHead) (xs ys : List Frame) → IsLane before (xs ++ ys) → IsLane (last_head before xs) ys
lane_rest before [] ys lane = lane
lane_rest before (x ∷ xs) ys lane = lane_rest (Some x.head) xs ys lane.1

-- What the heads of a lane's frames tell.
use Rattle.std.proofs.Common.{◌≡◌, ℕ, zero, suc, ◌+◌, ◌-◌, ◌<◌, ◌≤◌, Bool, true, false, eqb, List, [], ◌∷◌, ◌++◌, length, map, take, drop, min, Some, None, refl, sym, ap, ◌∙◌, arith, inl, inr, length-take-le, length-drop}
use Rattle.std.specs.Prelude.{Option, All, fold, is_none, IfSome}
use Rattle.std.proofs.lemmas.Bool.Decides.{nat_tests}
use Rattle.std.proofs.lemmas.List.Sums.{fold-append}
use Rattle.std.proofs.lemmas.List.Elements.{All-head, All-tail}
use Rattle.fab_base.specs.declared.frames.FrameHead.{FrameHead}
use Rattle.fab_base.specs.declared.frames.Frame.{Frame}
use Rattle.fab_base.specs.declared.items.Item.{Item}
use Rattle.fab_base.specs.declared.items.ItemHead.{ItemHead}
use Rattle.fab_link.specs.Frames.{IsLast, last_head, Follows, Continues, MayCome, IsSound, IsLane}
use Rattle.fab_link.specs.Cut.{frame_count, heads_from, frame_of, cut_all, IsBetweenItems, IsItem}
use Rattle.fab_link.specs.Joined.{is_last, part_of, begins, ends, Gathered, nothing, with_frame, joined, Tells}

-- the end of a lane and what its frames join to agree on whether an item is unfinished
abbrev Agrees : Option FrameHead → Option Item → Type 0
Agrees None u = is_none u ≡ true
Agrees (Some p) u = is_none u ≡ is_last p

agrees_by : (b : Bool) (g : Gathered) (f : Frame) → is_last f.head ≡ b → is_none (with_frame g f).unfinished ≡ b
agrees_by true g f e = rw e refl
agrees_by false g f e = rw e refl

agrees_next : (g : Gathered) (f : Frame) → is_none (with_frame g f).unfinished ≡ is_last f.head
agrees_next g f = agrees_by (is_last f.head) g f refl

agrees_after : (frames : List Frame) (before : Option FrameHead) (g : Gathered) → Agrees before g.unfinished → Agrees (last_head before frames) (fold with_frame g frames).unfinished
agrees_after [] before g a = a
agrees_after (f ∷ frames) before g a = agrees_after frames (Some f.head) (with_frame g f) (agrees_next g f)

-- the frame lies within its item, and is as long as a cut makes it
abbrev IsWithin : FrameHead → Type 0
IsWithin h = (h.from ≤ h.item.total) × (h.len ≡ min 4096 (h.item.total - h.from))

within_next : (before : Option FrameHead) (h : FrameHead) → IfSome before IsWithin → Continues before h → IsWithin h
within_next None h w c = (omega (arith, c.0), c.1)
within_next (Some p) h w c = elim c.0 [
  | inl new ↦ (omega (arith, new.1), c.1)
  | inr more ↦ let total : p.item.total ≡ h.item.total = ap (λ (i : ItemHead). i.total) more.0 in (omega (arith, w.0, w.1, more.2, total), c.1)
]

within_after : (frames : List Frame) (before : Option FrameHead) → IfSome before IsWithin → IsLane before frames → IfSome (last_head before frames) IsWithin
within_after [] before w l = w
within_after (f ∷ frames) before w l = within_after frames (Some f.head) (within_next before f.head w l.0.0) l.1

lane_last : (frames : List Frame) (before : Option FrameHead) (f : Frame) → IsLane before (frames ++ f ∷ []) → IsLane before frames × MayCome (last_head before frames) f
lane_last [] before f l = (tt, l.0)
lane_last (x ∷ frames) before f l = let r = lane_last frames (Some x.head) f l.1 in ((l.0, r.0), r.1)

begins_by : (b c : Bool) (h : FrameHead) → eqb h.from 0 ≡ b → is_last h ≡ c → begins (part_of h) ≡ b
begins_by true true h e d = rw (e, d) refl
begins_by true false h e d = rw (e, d) refl
begins_by false true h e d = rw (e, d) refl
begins_by false false h e d = rw (e, d) refl

begins_is : (h : FrameHead) → begins (part_of h) ≡ eqb h.from 0
begins_is h = begins_by (eqb h.from 0) (is_last h) h refl refl

ends_by : (b c : Bool) (h : FrameHead) → eqb h.from 0 ≡ b → is_last h ≡ c → ends (part_of h) ≡ c
ends_by true true h e d = rw (e, d) refl
ends_by true false h e d = rw (e, d) refl
ends_by false true h e d = rw (e, d) refl
ends_by false false h e d = rw (e, d) refl

ends_is : (h : FrameHead) → ends (part_of h) ≡ is_last h
ends_is h = ends_by (eqb h.from 0) (is_last h) h refl refl

-- a frame begins an item exactly where the lane ends with a whole one
begins_after : (before : Option FrameHead) (h : FrameHead) (u : Option Item) → IfSome before IsWithin → Continues before h → Agrees before u → eqb h.from 0 ≡ is_none u
begins_after None h u w c a = let e : eqb h.from 0 ≡ true = grind (arith, nat_tests, c.0) in e ∙ sym a
begins_after (Some p) h u w c a = elim c.0 [
  | inl new ↦ let e : eqb h.from 0 ≡ true = grind (arith, nat_tests, new.1) in let d : is_last p ≡ true = grind (arith, nat_tests, new.0) in e ∙ sym d ∙ sym a
  | inr more ↦
      let from : 0 < h.from = omega (arith, w.0, w.1, more.1, more.2) in
      let e : eqb h.from 0 ≡ false = grind (arith, nat_tests, from) in let d : is_last p ≡ false = grind (arith, nat_tests, more.1) in e ∙ sym d ∙ sym a
]

-- in a lane, the head of a frame tells whether an item begins and ends with it
pub parts_tell : (frames : List Frame) (f : Frame) → IsLane None (frames ++ f ∷ []) → Tells f.head (joined frames) (joined (frames ++ f ∷ []))
parts_tell frames f l =
    let s = lane_last frames None f l in
    let a : Agrees (last_head None frames) (joined frames).unfinished = agrees_after frames None nothing refl in
    let w = within_after frames None tt s.0 in
    let over : joined (frames ++ f ∷ []) ≡ with_frame (joined frames) f = fold-append with_frame nothing frames (f ∷ []) in (
      begins_is f.head ∙ begins_after (last_head None frames) f.head (joined frames).unfinished w s.1.0 a,
      ends_is f.head ∙ sym (agrees_next (joined frames) f) ∙ ap (λ (g : Gathered). is_none g.unfinished) (sym over),
    )

follows_new : (before : Option FrameHead) (h : FrameHead) → IsBetweenItems before → h.from ≡ 0 → Follows before h
follows_new None h b e = e
follows_new (Some p) h b e = inl (b, e)

-- a frame's bytes are as many as its head says
size_at : (item : Item) (from : ℕ) → IsItem item → from ≤ item.head.total
    → length (take (min 4096 (item.head.total - from)) (drop from item.bytes)) ≡ min 4096 (item.head.total - from)
size_at item from i w = length-take-le (min 4096 (item.head.total - from)) (drop from item.bytes) (omega (arith, i, length-drop from item.bytes))

-- the frames of an item from a byte on may come where the one before them may come
lane_from : (n : ℕ) (item : Item) (from : ℕ) (before : Option FrameHead) (rest : List Frame) → IsItem item → IsSound item.head → from ≤ item.head.total
    → frame_count (item.head.total - from) ≡ n
    → Follows before (record { item = item.head; from = from; len = min 4096 (item.head.total - from) })
    → ((p : FrameHead) → IsLast p → IsLane (Some p) rest)
    → IsLane before (map (frame_of item.bytes) (heads_from item.head from n) ++ rest)
lane_from zero item from before rest i s w e f r = absurd (omega arith)
lane_from (suc zero) item from before rest i s w e f r =
    let head : FrameHead = record { item = item.head; from = from; len = min 4096 (item.head.total - from) } in
    let last : IsLast head = omega (arith, e, w) in
    (((f, refl, s), size_at item from i w), r head last)
lane_from (suc (suc n)) item from before rest i s w e f r =
    let left : 4096 < item.head.total - from = omega (arith, e) in
    let count : frame_count (item.head.total - (from + 4096)) ≡ suc n = omega (arith, e) in
    let head : FrameHead = record { item = item.head; from = from; len = min 4096 (item.head.total - from) } in
    let next : Follows (Some head) (record { item = item.head; from = from + 4096; len = min 4096 (item.head.total - (from + 4096)) }) =
    inr (refl, (λ d. omega (arith, left, d)), omega (arith, left)) in
    (((f, refl, s), size_at item from i w), lane_from (suc n) item (from + 4096) (Some head) rest i s (omega (arith, left)) count next r)

-- the frames of sound items make a lane
pub lane_items : (items : List Item) (before : Option FrameHead) → IsBetweenItems before → All IsItem items → All (λ item. IsSound item.head) items → IsLane before (cut_all items)
lane_items [] before b all sound = tt
lane_items (item ∷ items) before b all sound =
    lane_from (frame_count item.head.total) item 0 before (cut_all items) (All-head IsItem item items all) (All-head (λ (x : Item). IsSound x.head) item items sound) (omega arith) (omega arith)
    (follows_new before _ b refl)
    (λ p last. lane_items items (Some p) last (All-tail IsItem item items all) (All-tail (λ (x : Item). IsSound x.head) item items sound))

-- Where all frames that a peer took and posted agree with what it holds, an endpoint may go on with it over a port that stands behind these frames.
use Rattle.std.proofs.Common.{◌≡◌, ◌<◌, ◌≤◌, ◌+◌, ◌⊎◌, inl, inr, ℕ, zero, suc, Bool, true, false, List, [], ◌∷◌, length, length-append, length-take-le, take, Option, Some, None, refl, sym, ap, ◌∙◌, subst, arith}
use Rattle.std.specs.Prelude.{slice_index, fold}
use Rattle.std.proofs.lemmas.Bool.{eqb-true}
use Rattle.fab_base.specs.declared.frames.Frame.{Frame}
use Rattle.fab_base.specs.declared.frames.FrameHead.{FrameHead}
use Rattle.fab_base.specs.declared.items.Item.{Item}
use Rattle.fab_base.specs.declared.items.ItemHead.{ItemHead}
use Rattle.fab_link.specs.Frames.{IsLane, MayCome, last_head}
use Rattle.fab_link.specs.Cut.{IsItem}
use Rattle.fab_link.specs.Joined.{is_last, grown, with_frame, joined, nothing, Gathered}
use Rattle.fab_face.specs.Held.{Held, IsGathered, IsPlaced, IsOut, AreItems, next_item, begun_of}
use Rattle.fab_face.proofs.Tied.{gathered_first, gathered_next, gathered_last, gathered_more}
use Rattle.fab_peer.specs.Turns.{part_at}
use Rattle.fab_peer.specs.Agreed.{Agrees}

-- ---- the end of a lane, and what its frames join to

-- how far the item of a frame that may come has come with it
came_to : (end : Option FrameHead) (u : Option Item) (f : Frame) → IsGathered end u → MayCome end f → (length (grown u f).bytes ≡ f.head.from + f.head.len) × (f.head.from ≤ f.head.item.total)
came_to end None f gathered comes =
    let first : f.head.from ≡ 0 = eqb-true _ _ (gathered_first end f gathered comes) in
    let filled = comes.1 in
    (omega (arith, first, filled), omega (arith, first))
came_to end (Some item) f gathered comes =
    let next = gathered_next end item f gathered comes in
    let filled = comes.1 in
    let more = gathered.more in
    let total : item.head.total ≡ f.head.item.total = ap (λ (h : ItemHead). h.total) next.1 in
    let from = next.2 in
    (omega (arith, from, filled, length-append item.bytes f.bytes), omega (arith, from, more, total))

gathered_with : (end : Option FrameHead) (g : Gathered) (f : Frame) → IsGathered end g.unfinished → MayCome end f → IsGathered (Some f.head) (with_frame g f).unfinished
gathered_with end g f gathered comes = by_last (is_last f.head) refl
  where
    by_last : (b : Bool) → is_last f.head ≡ b → IsGathered (Some f.head) (with_frame g f).unfinished
    by_last true e = rw e (gathered_last f e)
    by_last false e = let c = came_to end g.unfinished f gathered comes in rw e (gathered_more g.unfinished f e comes.1 comes.0.1 c.1 c.0)

gathered_from : (xs : List Frame) (end : Option FrameHead) (g : Gathered) → IsGathered end g.unfinished → IsLane end xs → IsGathered (last_head end xs) (fold with_frame g xs).unfinished
gathered_from [] end g gathered lane = gathered
gathered_from (f ∷ xs) end g gathered lane = gathered_from xs (Some f.head) (with_frame g f) (gathered_with end g f gathered lane.0) lane.1

pub gathered_all : (xs : List Frame) → IsLane None xs → IsGathered (last_head None xs) (joined xs).unfinished
gathered_all xs lane = gathered_from xs None nothing tt lane

-- ---- what is posted of the next item

placed_by : (end : Option FrameHead) (n : ℕ) (next : Option Item) → IsGathered end (part_at n next) → (n ≡ 0) ⊎ ((item : Item) × (next ≡ Some item) × (n < item.head.total)) → ((item : Item) → next ≡ Some item → IsItem item) → IsPlaced end n next
placed_by end zero next gathered out whole = gathered
placed_by end (suc k) None gathered (inl none) whole = absurd (omega (arith, none))
placed_by end (suc k) None gathered (inr (item, is, less)) whole = absurd (cc (is))
placed_by end (suc k) (Some item) gathered (inl none) whole = absurd (omega (arith, none))
placed_by end (suc k) (Some item) gathered (inr (other, is, less)) whole =
    let same : item ≡ other = cc in
    let less : suc k < item.head.total = subst (λ (x : Item). suc k < x.head.total) (sym same) less in
    let filled : item.head.total ≡ length item.bytes = whole item refl in
    let short : length (take (suc k) item.bytes) ≡ suc k = length-take-le (suc k) item.bytes (omega (arith, less, filled)) in
    record { last = gathered.last; is_end = gathered.is_end; is_of = gathered.is_of; up_to = gathered.up_to ∙ short; some = omega arith; more = less }

module _ (n : ℕ) (h : Held) (taken posted : ℕ → List Frame) (agrees : Agrees n h taken posted) where
  pub posted_ends : (d : ℕ) → d < n → IsOut h → AreItems h → IsPlaced (last_head None (posted d)) (slice_index h.places d) (next_item h.state d)
  posted_ends d below out items =
      placed_by (last_head None (posted d)) (slice_index h.places d) (next_item h.state d)
      (subst (λ (u : Option Item). IsGathered (last_head None (posted d)) u) (agrees.part d) (gathered_all (posted d) (agrees.cut d below))) (out d) (λ item is. (items d (slice_index h.state.tx.sent d) item is).0)

  pub taken_ends : (s : ℕ) → IsLane None (taken s) → IsGathered (last_head None (taken s)) (begun_of h s)
  taken_ends s lane = subst (λ (u : Option Item). IsGathered (last_head None (taken s)) u) (agrees.begun s) (gathered_all (taken s) lane)

-- What a turn adds to the frames taken and posted agrees with what the peer then holds; and what a receiver took of a sender, being among what the sender posted, is of what the sender accepted.
use Rattle.std.proofs.Common.{◌≡◌, ◌<◌, ◌≤◌, ◌+◌, inl, inr, ℕ, zero, suc, Bool, true, false, List, [], ◌∷◌, ◌++◌, length, length-append, drop, Option, Some, None, refl, sym, ap, ◌∙◌, subst, arith, append-nil, append_assoc}
use Rattle.std.specs.Prelude.{slice_get, slice_index, fold}
use Rattle.std.proofs.lemmas.Bool.{eqb-false}
use Rattle.std.proofs.lemmas.Grind.{fold-append}
use Rattle.std.proofs.lemmas.List.{take-append-drop}
use Rattle.std.proofs.Math.Seq.{drop-append_seam}
use Rattle.fab_base.specs.declared.frames.Frame.{Frame}
use Rattle.fab_base.specs.declared.frames.FrameHead.{FrameHead}
use Rattle.fab_base.specs.declared.items.Item.{Item}
use Rattle.fab_link.specs.Frames.{IsLane, MayCome, Follows, last_head}
use Rattle.fab_link.specs.Joined.{is_last, grown, with_frame, joined, nothing, Gathered, IsBegun, AreFirst}
use Rattle.fab_link.specs.Meaning.{end_of}
use Rattle.fab_model.specs.State.{accepted_for}
use Rattle.fab_model.proofs.Parts.{prefix_get}
use Rattle.fab_link.proofs.Lanes.{IsLane-append as lane_append, lane_front}
use Rattle.fab_face.specs.Held.{Held, next_item}
use Rattle.fab_face.specs.Acts.{Act, taken_of, posted_to}
use Rattle.fab_peer.specs.Turns.{Told, Turned, joined_from, part_at, posted_part}
use Rattle.fab_peer.specs.Agreed.{Agrees}
use Rattle.fab_peer.proofs.Showing.{joined_append}
use Rattle.fab_peer.proofs.Sending.{get_append}

-- ---- lanes

lane_at_end : (before : Option FrameHead) (xs : List Frame) (f : Frame) → IsLane before (xs ++ f ∷ []) → MayCome (last_head before xs) f
lane_at_end before [] f lane = lane.0
lane_at_end before (x ∷ xs) f lane = lane_at_end (Some x.head) xs f lane.1

-- ---- what more frames join to

pub whole_more : (xs ys : List Frame) → length (joined xs).whole + length (joined_from (joined xs).unfinished ys).whole ≡ length (joined (xs ++ ys)).whole
whole_more xs ys =
    let all = ap (λ (g : Gathered). length g.whole) (joined_append None xs ys) in
    omega (arith, all, length-append (joined xs).whole (joined_from (joined xs).unfinished ys).whole)

-- ---- a turn

pub agrees_turned : {Home : Type 0} (peers : ℕ) (a b : Told Home) (acts : List Act) (taken posted : ℕ → List Frame) → Turned a b acts → a.seen.lanes.peers ≡ peers
    → ((d : ℕ) → d < peers → end_of (a.seen.lanes.outs d) ≡ last_head None (posted d)) → Agrees peers a.seen.held taken posted
    → Agrees peers b.seen.held (λ s. taken s ++ taken_of s acts) (λ d. posted d ++ posted_to d acts)
agrees_turned peers a b acts taken posted turned count ends agrees = record {
  begun = λ s.
      ap (λ (g : Gathered). g.unfinished) (joined_append None (taken s) (taken_of s acts)) ∙ ap (λ u. (joined_from u (taken_of s acts)).unfinished) (agrees.begun s)
      ∙ sym (turned.joins.begun s);
  tails = λ s. (
      let more = whole_more (taken s) (taken_of s acts) in
      let same = ap (λ u. length (joined_from u (taken_of s acts)).whole) (agrees.begun s) in
      let before = agrees.tails s in
      let now = turned.joins.tails s in
      omega (arith, more, same, before, now));
  items = λ d i item e. items_at d i item e;
  sent = λ d. (
      let more = whole_more (posted d) (posted_to d acts) in
      let same = ap (λ u. length (joined_from u (posted_to d acts)).whole) (agrees.part d) in
      let before = agrees.sent d in
      let now = turned.transmits.sent d in
      omega (arith, more, same, before, now));
  part = λ d.
      ap (λ (g : Gathered). g.unfinished) (joined_append None (posted d) (posted_to d acts)) ∙ ap (λ u. (joined_from u (posted_to d acts)).unfinished) (agrees.part d)
      ∙ sym (turned.transmits.part d);
  cut = λ d below. lane_append None (posted d) (posted_to d acts) (agrees.cut d below)
      (subst (λ (x : Option FrameHead). IsLane x (posted_to d acts)) (ends d below) (turned.cut d (omega (arith, below, count))));
}
  where
    items_at : (d i : ℕ) (item : Item) → slice_get (joined (posted d ++ posted_to d acts)).whole i ≡ Some item → slice_get (accepted_for b.seen.held.state.tx d) i ≡ Some item
    items_at d i item e =
        let first = (joined (posted d)).whole in
        let then = (joined_from (posted_part a.seen.held d) (posted_to d acts)).whole in
        let split : slice_get (first ++ then) i ≡ Some item =
        ap (λ u. slice_get (first ++ (joined_from u (posted_to d acts)).whole) i) (sym (agrees.part d)) ∙ sym (ap (λ (g : Gathered). slice_get g.whole i) (joined_append None (posted d) (posted_to d acts))) ∙ e in
        let r = turned.ready d in
        elim (get_append first then i item split) [
          | inl l ↦ ap (λ zs. slice_get zs i) (sym r.1) ∙ prefix_get (accepted_for a.seen.held.state.tx d) r.0 i item (agrees.items d i item l)
          | inr (j, where_is, l) ↦ (
              let at = turned.transmits.items d j item l in
              let s = agrees.sent d in
              let same : i ≡ slice_index a.seen.held.state.tx.sent d + j = omega (arith, s, where_is) in
              ap (slice_get (accepted_for b.seen.held.state.tx d)) same ∙ at)
        ]

-- ---- what was posted is of what was accepted

-- where each member is there, all are there first
front_is : {X : Type 0} (xs ys : List X) → ((i : ℕ) (x : X) → slice_get xs i ≡ Some x → slice_get ys i ≡ Some x) → ys ≡ xs ++ drop (length xs) ys
front_is [] ys there = refl
front_is (x ∷ xs) [] there = absurd (let e = there 0 x refl in cc)
front_is {X} (x ∷ xs) (y ∷ ys) there =
    let e : Some y ≡ Some x = there 0 x refl in
    let is : y ≡ x = cc in
    ap (λ (z : X). z ∷ ys) is ∙ ap (λ zs. x ∷ zs) (front_is xs ys (λ i z has. there (suc i) z has))

first_of_rest : {X : Type 0} (n : ℕ) (xs : List X) → slice_get (drop n xs) 0 ≡ slice_get xs n
first_of_rest zero xs = refl
first_of_rest (suc n) [] = refl
first_of_rest (suc n) (x ∷ xs) = first_of_rest n xs

begun_part : (n : ℕ) (o : Option Item) (rest : List Item) → slice_get rest 0 ≡ o → IsBegun (part_at n o) rest
begun_part zero o rest e = tt
begun_part (suc k) None rest e = tt
begun_part (suc k) (Some item) [] e = absurd (cc)
begun_part (suc k) (Some item) (x ∷ rest) e =
    let is : x ≡ item = cc in
    (x, rest, refl, ap (λ (y : Item). y.head) (sym is), (drop (suc k) item.bytes, take-append-drop (suc k) item.bytes ∙ ap (λ (y : Item). y.bytes) (sym is)))

pub posted_first : (peers : ℕ) (h : Held) (taken posted : ℕ → List Frame) (d : ℕ) → Agrees peers h taken posted → AreFirst (joined (posted d)) (accepted_for h.state.tx d)
posted_first peers h taken posted d agrees =
    let n = length (joined (posted d)).whole in
    let all = accepted_for h.state.tx d in
    let next : slice_get (drop n all) 0 ≡ next_item h.state d = first_of_rest n all ∙ ap (slice_get all) (agrees.sent d) in
    (drop n all, front_is (joined (posted d)).whole all (agrees.items d), subst (λ (u : Option Item). IsBegun u (drop n all)) (sym (agrees.part d)) (begun_part (slice_index h.places d) (next_item h.state d) (drop n all) next))

pub sent_within : (peers : ℕ) (h : Held) (taken posted : ℕ → List Frame) (d : ℕ) → Agrees peers h taken posted → slice_index h.state.tx.sent d ≤ length (accepted_for h.state.tx d)
sent_within peers h taken posted d agrees =
    let first = posted_first peers h taken posted d agrees in
    let whole = (joined (posted d)).whole in
    let all = ap length first.1 in
    omega (arith, all, length-append whole first.0, agrees.sent d)

-- ---- fewer frames

-- the part that is unfinished is of the item of the last frame
abbrev IsOf : Option FrameHead → Option Item → Type 0
IsOf end None = Unit {0}
IsOf end (Some u) = (p : FrameHead) × (end ≡ Some p) × (p.item ≡ u.head) × (is_last p ≡ false)

of_next : (g : Gathered) (f : Frame) → IsOf (Some f.head) (with_frame g f).unfinished
of_next g f = by_last (is_last f.head) refl
  where
    by_last : (b : Bool) → is_last f.head ≡ b → IsOf (Some f.head) (with_frame g f).unfinished
    by_last true e = rw e tt
    by_last false e = rw e (f.head, refl, refl, e)

of_after : (xs : List Frame) (before : Option FrameHead) (g : Gathered) → IsOf before g.unfinished → IsOf (last_head before xs) (fold with_frame g xs).unfinished
of_after [] before g is = is
of_after (f ∷ xs) before g is = of_after xs (Some f.head) (with_frame g f) (of_next g f)

-- the next frame of a lane is of the item that is unfinished
same_item : (end : Option FrameHead) (u : Item) (f : Frame) → IsOf end (Some u) → Follows end f.head → u.head ≡ f.head.item
same_item None u f (p, is, of, more) follows = absurd (cc)
same_item (Some q) u f (p, is, of, more) follows =
    let same : q ≡ p = cc in
    elim follows [
      | inl whole ↦ absurd (eqb-false _ _ more (subst (λ (h : FrameHead). h.from + h.len ≡ h.item.total) same whole.0))
      | inr next ↦ sym of ∙ ap (λ (h : FrameHead). h.item) (sym same) ∙ next.0
    ]

begun_less : (u : Option Item) (f : Frame) (next : Item) (later : List Item) → ((w : Item) → u ≡ Some w → w.head ≡ f.head.item) → f.head.item ≡ next.head → (rest : List ℕ) → (grown u f).bytes ++ rest ≡ next.bytes
    → IsBegun u (next ∷ later)
begun_less None f next later same head rest bytes = tt
begun_less (Some w) f next later same head rest bytes = (next, later, refl, same w refl ∙ head, (f.bytes ++ rest, sym (append_assoc w.bytes f.bytes rest) ∙ bytes))

first_less_one : (xs : List Frame) (f : Frame) (items : List Item) → IsLane None (xs ++ f ∷ []) → AreFirst (joined (xs ++ f ∷ [])) items → AreFirst (joined xs) items
first_less_one xs f items lane first = by_last (is_last f.head) refl (subst (λ (g : Gathered). AreFirst g items) over first)
  where
    u : Option Item
    u = (joined xs).unfinished

    over : joined (xs ++ f ∷ []) ≡ with_frame (joined xs) f
    over = fold-append with_frame nothing xs (f ∷ [])

    same : (w : Item) → (joined xs).unfinished ≡ Some w → w.head ≡ f.head.item
    same w is = same_item (last_head None xs) w f (subst (λ (x : Option Item). IsOf (last_head None xs) x) is (of_after xs None nothing tt)) (lane_at_end None xs f lane).0.0

    by_last : (b : Bool) → is_last f.head ≡ b → AreFirst (with_frame (joined xs) f) items → AreFirst (joined xs) items
    by_last true e a =
        let r : AreFirst (record { whole = (joined xs).whole ++ grown (joined xs).unfinished f ∷ []; unfinished = None }) items = rw e at a in (
          grown (joined xs).unfinished f ∷ r.0,
          r.1 ∙ append_assoc (joined xs).whole (grown (joined xs).unfinished f ∷ []) r.0,
          begun_less (joined xs).unfinished f (grown (joined xs).unfinished f) r.0 same refl [] (append-nil _),
        )
    by_last false e a =
        let r : AreFirst (record { whole = (joined xs).whole; unfinished = Some (grown (joined xs).unfinished f) }) items = rw e at a in
        let next = r.2.0 in
        let later = r.2.1 in
        (r.0, r.1, subst (λ (zs : List Item). IsBegun (joined xs).unfinished zs) (sym r.2.2) (begun_less (joined xs).unfinished f next later same r.2.3 r.2.4.0 r.2.4.1))

-- the first frames of a lane are of the same items
first_less : (ys xs : List Frame) (items : List Item) → IsLane None (xs ++ ys) → AreFirst (joined (xs ++ ys)) items → AreFirst (joined xs) items
first_less [] xs items lane first = subst (λ zs. AreFirst (joined zs) items) (append-nil xs) first
first_less (f ∷ ys) xs items lane first =
    let over : xs ++ f ∷ ys ≡ (xs ++ f ∷ []) ++ ys = sym (append_assoc xs (f ∷ []) ys) in
    let lane_on = subst (λ zs. IsLane None zs) over lane in
    first_less_one xs f items (lane_front None (xs ++ f ∷ []) ys lane_on) (first_less ys (xs ++ f ∷ []) items lane_on (subst (λ zs. AreFirst (joined zs) items) over first))

-- What a receiver took of a sender, and takes now, is among what the sender posted. So what it takes now is of what the sender accepted, behind what is whole, and what is whole then is transmitted.
pub shown_of : (accepted : List Item) (sent : ℕ) (out taken more rest : List Frame) (u : Option Item) (t : ℕ) → IsLane None out → AreFirst (joined out) accepted → length (joined out).whole ≡ sent → (taken ++ more) ++ rest ≡ out
    → (joined taken).unfinished ≡ u → length (joined taken).whole ≡ t → AreFirst (joined_from u more) (drop t accepted) × (t + length (joined_from u more).whole ≤ sent)
shown_of accepted sent out taken more rest u t lane first count is begun tails = (behind, within)
  where
    whole : List Item
    whole = (joined taken).whole

    two : joined (taken ++ more) ≡ record { whole = (joined taken).whole ++ (joined_from u more).whole; unfinished = (joined_from u more).unfinished }
    two = joined_append None taken more ∙ ap (λ (x : Option Item). let g : Gathered = record { whole = (joined taken).whole ++ (joined_from x more).whole; unfinished = (joined_from x more).unfinished } in g) begun

    behind : AreFirst (joined_from u more) (drop t accepted)
    behind =
        let a = first_less rest (taken ++ more) accepted (subst (λ zs. IsLane None zs) (sym is) lane) (subst (λ zs. AreFirst (joined zs) accepted) (sym is) first) in
        let b = subst (λ (g : Gathered). AreFirst g accepted) two a in (
          b.0,
          ap (drop t) (b.1 ∙ append_assoc (joined taken).whole (joined_from u more).whole b.0) ∙ ap (λ n. drop n ((joined taken).whole ++ ((joined_from u more).whole ++ b.0))) (sym tails)
              ∙ drop-append_seam (joined taken).whole ((joined_from u more).whole ++ b.0),
          b.2,
        )

    within : t + length (joined_from u more).whole ≤ sent
    within =
        let one = whole_more taken more in
        let all = whole_more (taken ++ more) rest in
        let same = ap (λ x. length (joined_from x more).whole) begun in
        let of_out = ap (λ zs. length (joined zs).whole) is in
        omega (arith, one, all, same, of_out, count, tails)

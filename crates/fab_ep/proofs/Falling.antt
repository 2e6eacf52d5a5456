-- With each frame posted to a peer, less waits for it.
use Rattle.std.proofs.Common.{◌≡◌, ◌≢◌, ◌<◌, ◌+◌, ◌-◌, min, ℕ, Bool, true, false, [], ◌∷◌, length, drop, get_or-set_same, Option, Some, None, refl, sym, ap, ◌∙◌, subst, arith}
use Rattle.std.specs.Prelude.{slice_index}
use Rattle.std.specs.List.{sum_by}
use Rattle.std.proofs.lemmas.List.Sums.{sum_by-cons}
use Rattle.std.proofs.lemmas.Bool.{eqb-false}
use Rattle.fab_base.specs.declared.frames.Frame.{Frame}
use Rattle.fab_base.specs.declared.items.Item.{Item}
use Rattle.fab_link.specs.Joined.{is_last}
use Rattle.fab_model.specs.State.{accepted_for, held_for}
use Rattle.fab_model.specs.Sending.{items_of, do_sent, items_for}
use Rattle.fab_face.specs.Machine.{IsSteady}
use Rattle.fab_face.specs.Held.{Held, piece, next_item, next_frame}
use Rattle.fab_face.specs.Acts.{Departs, Goes, Posted, Went}
use Rattle.fab_face.specs.Held.{Seen}
use Rattle.std.proofs.Common.{Ok}
use Rattle.fab_base.proofs.Lists.{prefix_get as get_append, drop_here}
use Rattle.fab_model.proofs.Unchanged.{sent_raised as sent_sent}
use Rattle.fab_ep.specs.declared.endpoint.Tried.{Tried}
use Rattle.fab_ep.specs.declared.endpoint.Tried.TheVariants.{Moved, Nothing, Held as HeldBack, Short}
use Rattle.fab_ep.specs.Tries.{PushesOut, has_moved, left_of, left_for}
use Rattle.fab_ep.proofs.Sent.{sent_whole}
use Rattle.fab_ep.proofs.Posting.{place_within}

-- the item that the frame is of
of_next : (h : Held) (d : ℕ) (f : Frame) → next_frame h d ≡ Some f → (item : Item) × (next_item h.state d ≡ Some item) × (piece item (slice_index h.places d) ≡ f)
of_next h d f next = by (next_item h.state d) refl
  where
    by : (o : Option Item) → next_item h.state d ≡ o → (item : Item) × (next_item h.state d ≡ Some item) × (piece item (slice_index h.places d) ≡ f)
    by None none = absurd (cc (rw none at next))
    by (Some item) some = (item, some, (let same : Some (piece item (slice_index h.places d)) ≡ Some f = (rw some at next) in cc))

-- what waits, where this item is the first
left_here : (h : Held) (d : ℕ) (item : Item) (place : ℕ) → next_item h.state d ≡ Some item
    → left_of (drop (slice_index h.state.tx.sent d) (items_for h.state.tx d)) place ≡ item.head.total + 1 + sum_by (λ i. i.head.total + 1) (drop (slice_index h.state.tx.sent d + 1) (items_for h.state.tx d)) - place
left_here h d item place next =
    ap (λ items. left_of items place) (drop_here (items_for h.state.tx d) (slice_index h.state.tx.sent d) item (get_append (accepted_for h.state.tx d) (items_of (held_for h.state.tx d)) (slice_index h.state.tx.sent d) item next))
    ∙ ap (λ n. n - place) (sum_by-cons (λ (i : Item). i.head.total + 1) item (drop (slice_index h.state.tx.sent d + 1) (items_for h.state.tx d)))

falls : (last : Bool) (h t : Held) (d : ℕ) (item : Item) → IsSteady h → d < length h.places → d < length h.state.tx.sent → next_item h.state d ≡ Some item
    → is_last (piece item (slice_index h.places d)).head ≡ last
    → Departs last h d ((piece item (slice_index h.places d)).head.from + (piece item (slice_index h.places d)).head.len) t → left_for t d < left_for h d
falls true h t d item steady in_places in_sent next is (room, at) =
    let place = slice_index h.places d in
    let within = place_within h d item place refl steady.out next in
    let old = left_here h d item place next in
    let all = sent_whole h.state d (let a = steady.accepted in omega (arith, in_places, a)) (let b = steady.held in omega (arith, in_places, b)) in
    let sent : slice_index (do_sent h.state d).tx.sent d ≡ slice_index h.state.tx.sent d + 1 = rw (sent_sent h.state d) (get_or-set_same h.state.tx.sent d (slice_index h.state.tx.sent d + 1) 0 in_sent) in
    let new : left_for t d ≡ sum_by (λ (i : Item). i.head.total + 1) (drop (slice_index h.state.tx.sent d + 1) (items_for h.state.tx d)) - 0 =
    ap (λ (x : Held). left_for x d) at ∙ rw (all, sent, get_or-set_same h.places d 0 0 in_places) refl in
    omega (arith, old, new, within)
falls false h t d item steady in_places in_sent next is at =
    let place = slice_index h.places d in
    let within = place_within h d item place refl steady.out next in
    let unlike : place + min 4096 (item.head.total - place) ≢ item.head.total = eqb-false _ _ is in
    let old = left_here h d item place next in
    let new : left_for t d ≡ item.head.total + 1 + sum_by (λ (i : Item). i.head.total + 1) (drop (slice_index h.state.tx.sent d + 1) (items_for h.state.tx d)) - (place + min 4096 (item.head.total - place)) =
    ap (λ (x : Held). left_for x d) at ∙ rw (get_or-set_same h.places d (place + min 4096 (item.head.total - place)) 0 in_places) (left_here h d item (place + min 4096 (item.head.total - place)) next) in
    omega (arith, old, new, within, unlike)

pub left_falls : {Home : Type 0} (a b : Seen Home) (d : ℕ) (f : Frame) → IsSteady a.held → Went None a b (Posted d f ∷ []) → left_for b.held d < left_for a.held d
left_falls a b d f steady went =
    let goes = went.goes in
    let step : Goes None a.held (Posted d f) goes.0 = goes.1 in
    let item = of_next a.held d f step.2 in
    let to : goes.0 ≡ b.held = goes.2 in
    subst (λ (x : Held). left_for x d < left_for a.held d) to
    (falls (is_last f.head) a.held goes.0 d item.0 steady step.0 step.1 item.1 (ap (λ (x : Frame). is_last x.head) item.2)
    (subst (λ (x : Frame). Departs (is_last f.head) a.held d (x.head.from + x.head.len) goes.0) (sym item.2) step.3))

pub falls_pushed : {Home : Type 0} (a b : Seen Home) (d : ℕ) (t : Tried) → IsSteady a.held → PushesOut a b d (Ok t) → has_moved t ≡ true → left_for b.held d < left_for a.held d
falls_pushed a b d Moved steady (f, went) is = left_falls a b d f steady went
falls_pushed a b d Nothing steady tries is = absurd (cc)
falls_pushed a b d HeldBack steady tries is = absurd (cc)
falls_pushed a b d Short steady tries is = absurd (cc)

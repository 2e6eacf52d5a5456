-- A draw is the machine's, and leaves the parts together.
use Rattle.std.proofs.Common.{◌≡◌, ℕ, ◌+◌, ◌-◌, ◌<◌, ◌≤◌, Bool, true, false, List, length, length-set, get_or-set_same, Option, Some, None, refl, sym, ap, ◌∙◌, arith}
use Rattle.std.specs.Prelude.{find, nat_le, slice_index, slice_set}
use Rattle.std.proofs.lemmas.Bool.{and_parts as and_two}
use Rattle.std.specs.List.{list_any}
use Rattle.std.specs.Option.{option_map}
use Rattle.fab_base.specs.declared.items.ItemHead.{ItemHead}
use Rattle.fab_base.specs.declared.operations.Arrival.{Arrival}
use Rattle.fab_base.specs.declared.operations.Coming.TheVariants.{Into, Keep}
use Rattle.fab_base.specs.declared.operations.Receive.{Receive}
use Rattle.std.proofs.lemmas.List.Folds.{list_any_at}
use Rattle.fab_base.proofs.Numbers.{same_number as same_eq}
use Rattle.fab_base.proofs.Options.{some_there as least_there}
use Rattle.fab_base.proofs.Lists.{some_within as in_row}
use Rattle.fab_model.proofs.Firsts.{list_any-not_found}
use Rattle.fab_model.specs.Arrivals.{do_draw}
use Rattle.fab_model.specs.Complete.{filling, is_made_by, release, release_multi}
use Rattle.fab_base.specs.Kinds.{at_match}
use Rattle.fab_model.specs.Matching.{remove_first, takes}
use Rattle.fab_model.specs.Receiving.{draw_due, draws, give, goes}
use Rattle.fab_model.specs.State.{State, coming_from, fits, is_into, under_way}
use Rattle.fab_cq.specs.Queues.{has_room}
use Rattle.fab_rx.proofs.Plain.{shared_besides}
use Rattle.fab_rx.specs.Arriving.{Arriving, IsArriving, IsPartly, PartlyIn, begun_of, shared, with_receiving}
use Rattle.fab_rx.specs.Claims.{seen}
use Rattle.fab_rx.specs.Drawing.{drawer, drawing, drawn, drawn_last, entries_drawn, set_apart}
use Rattle.fab_rx.specs.Results.{closed_if, completed, released}
use Rattle.fab_rx.specs.Stored.{turned}
use Rattle.fab_rx.specs.declared.results.Completed.{Completed}
use Rattle.fab_rx.specs.declared.results.Drawn.{Drawn}
use Rattle.fab_rx.specs.declared.results.Drawn.TheVariants.{GoesOn, Part, Last}
use Rattle.fab_rx.specs.declared.results.Released.{Released}
use Rattle.fab_tx.specs.Transit.{IsTransit}
use Rattle.fab_face.specs.Acts.{Drew, Goes}
use Rattle.fab_face.specs.Machine.{StayNext}
use Rattle.fab_core.specs.Parts.{IsTogether, Parts, held_of, state_of}
use Rattle.fab_settling.specs.Ends.{booked}
use Rattle.fab_core.specs.Doing.{let_back, received, with_arriving}
use Rattle.fab_core.specs.Draws.{call_drawn, drew, drew_as}
use Rattle.fab_settling.specs.Looks.{is_due_now}
use Rattle.fab_core.proofs.Departing.{Leaves, count_found, into_way, left_by, left_room, left_together, partly_found}
use Rattle.fab_core.proofs.Doing.{completed_is, is_released, passes}
use Rattle.fab_core.proofs.Fits.{fits_writing, fits_two}
use Rattle.fab_core.proofs.Handed.{back_call_if}
use Rattle.fab_core.proofs.Next.{booked_next, booked_places}

-- ---- who draws what

module _ {X : Type 0} (test : X → Bool) (xs : List X) (due : list_any test xs ≡ true) where
  any_found : (x : X) × (find test xs ≡ Some x)
  any_found = by (find test xs) refl
    where
      by : (o : Option X) → find test xs ≡ o → (x : X) × (find test xs ≡ Some x)
      by None e = absurd (let no : list_any test xs ≡ false = list_any-not_found test xs e in cc)
      by (Some x) e = (x, e)

-- the receive, and the message that it takes
pub record IsDrawn (v : Arriving) : Type 0 where
  pub r : Receive
  pub first : drawer v.rx ≡ Some r
  pub a : Arrival
  pub found : find (takes r.want) v.rx.unexpected ≡ Some a
  pub least : ℕ
  pub multi : r.least ≡ Some least

pub who_draws : (v : Arriving) → draw_due v.rx ≡ true → IsDrawn v
who_draws v due =
    let first = any_found (draws v.rx.unexpected) v.rx.posted due in
    let both = and_two _ _ (passes (draws v.rx.unexpected) v.rx.posted first.0 first.1) in
    let message = any_found (takes first.0.want) v.rx.unexpected both.1 in
    let least = least_there first.0.least both.0 in
    record { r = first.0; first = first.1; a = message.0; found = message.1; least = least.0; multi = least.1 }

-- ---- the rest of a message goes on into the receive

busy_stays : (r : Receive) (s : State) (least : ℕ) → r.least ≡ Some least → under_way s.rx r.call ≡ true → release r s ≡ s
unfolding release_multi
busy_stays r s least multi busy = is_released r least multi s ∙ by (find (is_made_by r.call) s.rx.closing) refl
  where
    by : (o : Option Receive) → find (is_made_by r.call) s.rx.closing ≡ o → release_multi r.call s ≡ s
    by None e = rw (e, release_multi) refl
    by (Some x) e = rw (e, busy, release_multi) refl

-- ---- the machine's

module _ (p : Parts) (rx : IsArriving p.rx) (d : IsDrawn p.rx) where
  -- the message is apart
  abbrev apart : Parts
  apart = with_arriving (with_receiving (set_apart d.r d.a p.rx.rx) p.rx) p

  partly : PartlyIn p.rx d.a
  partly = partly_found p.rx rx d.r.want d.a d.found

  drawn_none : d.a.bytes ≡ None → do_draw (state_of p) ≡ state_of (drew p)
  unfolding do_draw give
  drawn_none none =
      let is : IsPartly d.a (coming_from p.rx.rx d.a.source) (begun_of p.rx d.a.source) = partly none in
      let within = in_row p.rx.rx.coming d.a.source Keep is.way in
      let busy : under_way (goes d.a.source (Into d.r d.r.used) (set_apart d.r d.a p.rx.rx)) d.r.call ≡ true =
      list_any_at (is_into d.r.call) (slice_set p.rx.rx.coming d.a.source (Some (Into d.r d.r.used))) d.a.source None (let l = length-set p.rx.rx.coming d.a.source (Some (Into d.r d.r.used)) in omega (arith, l, within))
      (rw (get_or-set_same p.rx.rx.coming d.a.source (Some (Into d.r d.r.used)) None within) (same_eq d.r.call)) in
      rw (d.first, d.found, none, do_draw, give) (busy_stays d.r (state_of (with_arriving (with_receiving (goes d.a.source (Into d.r d.r.used) (set_apart d.r d.a p.rx.rx)) p.rx) p)) d.least d.multi busy)

  pub handed_by : (bytes : List ℕ) (q : Parts) → q.rx.multis ≡ p.rx.multis → (o : Option Receive) → closed_if d.r.least d.r.call (filling d.r d.r.used bytes (set_apart d.r d.a p.rx.rx)) ≡ o
      → let_back o (received (Some d.r.call) (at_match d.a.head.ack) (completed d.r d.r.used d.a.source d.a.head bytes) q) ≡ drew_as (drawn_last (option_map (released p.rx) o) (completed d.r d.r.used d.a.source d.a.head bytes)) (Some d.r.call) q
  handed_by bytes q known None e = refl
  handed_by bytes q known (Some l) e = (let same = back_call_if d.r.least d.r (filling d.r d.r.used bytes (set_apart d.r d.a p.rx.rx)) l e in rw (known, same) refl)

  drawn_some : (bytes : List ℕ) → d.a.bytes ≡ Some bytes → do_draw (state_of p) ≡ state_of (drew p)
  unfolding do_draw give
  drawn_some bytes some =
      let q = with_arriving (with_receiving (shared d.r.least d.r d.r.used bytes (set_apart d.r d.a p.rx.rx)) p.rx) p in
      rw (d.first, d.found, some, do_draw, give) (completed_is d.r d.r.used d.a.source d.a.head bytes (at_match d.a.head.ack) d.r.least refl apart ∙ ap state_of (handed_by bytes q refl (closed_if d.r.least d.r.call (filling d.r d.r.used bytes (set_apart d.r d.a p.rx.rx))) refl))

  pub drew_is : do_draw (state_of p) ≡ state_of (drew p)
  drew_is = by d.a.bytes refl
    where
      by : (o : Option (List ℕ)) → d.a.bytes ≡ o → do_draw (state_of p) ≡ state_of (drew p)
      by None none = drawn_none none
      by (Some bytes) some = drawn_some bytes some

-- ---- what is written

fits_as : (p : Parts) → p.cq.taken_out ≤ length p.cq.written → fits p.cq ≡ true → (d : Drawn) (call : Option ℕ) (q : Parts) → q.cq ≡ p.cq → fits (drew_as d call q).cq ≡ has_room (entries_drawn d) p.cq
fits_as p read now GoesOn call q same = rw same (let e : length p.cq.written - p.cq.taken_out + 0 ≡ length p.cq.written - p.cq.taken_out = omega arith in sym (ap (λ n. nat_le n p.cq.size) e))
fits_as p read now (Part x) call q same = rw same (fits_writing p.cq read now call x.entry)
fits_as p read now (Last x y) call q same = rw same (fits_two p.cq read now call call x.entry _)

pub fits_drew : (p : Parts) → p.cq.taken_out ≤ length p.cq.written → fits p.cq ≡ true → fits (drew p).cq ≡ has_room (entries_drawn (drawn p.rx)) p.cq
fits_drew p read now = fits_as p read now (drawn p.rx) (call_drawn p.rx.rx) (with_arriving (drawing p.rx) p) refl

-- ---- what else is held

as_held : (d : Drawn) (call : Option ℕ) (p : Parts) → record (held_of p) { state = state_of (drew_as d call p) } ≡ held_of (drew_as d call p)
as_held GoesOn call p = refl
as_held (Part x) call p = rw (booked_places (at_match x.head.ack) x.source x.head p.tx) refl
as_held (Last x y) call p = rw (booked_places (at_match x.head.ack) x.source x.head p.tx) refl

as_next : (d : Drawn) (call : Option ℕ) (p : Parts) → StayNext (state_of p) (state_of (drew_as d call p))
as_next GoesOn call p = λ d item is. is
as_next (Part x) call p = booked_next (at_match x.head.ack) x.source x.head p.tx
as_next (Last x y) call p = booked_next (at_match x.head.ack) x.source x.head p.tx

pub drew_next : (p : Parts) → StayNext (state_of p) (state_of (drew p))
drew_next p = as_next (drawn p.rx) (call_drawn p.rx.rx) (with_arriving (drawing p.rx) p)

module _ (p : Parts) (rx : IsArriving p.rx) (due : draw_due p.rx.rx ≡ true) (read : p.cq.taken_out ≤ length p.cq.written) (now : fits p.cq ≡ true) where
  is : do_draw (state_of p) ≡ state_of (drew p)
  is = drew_is p rx (who_draws p.rx due)

  pub draw_goes : (q : Parts) → q ≡ drew p → has_room (entries_drawn (drawn p.rx)) p.cq ≡ true → Goes None (held_of p) Drew (held_of q)
  draw_goes q same room = (
    due,
    ap (λ (s : State). fits s.cq) is ∙ fits_drew p read now ∙ room,
    ap held_of same ∙ sym (as_held (drawn p.rx) (call_drawn p.rx.rx) (with_arriving (drawing p.rx) p)) ∙ ap (λ (s : State). record (held_of p) { state = s }) (sym is),
  )

  pub draw_lacks : has_room (entries_drawn (drawn p.rx)) p.cq ≡ false → fits (do_draw (state_of p)).cq ≡ false
  draw_lacks full = ap (λ (s : State). fits s.cq) is ∙ fits_drew p read now ∙ full

-- ---- the parts belong together

module _ (v : Arriving) (ok : IsArriving v) (d : IsDrawn v) where
  same_coming : (o : Option (List ℕ)) → d.a.bytes ≡ o → (drawing v).rx.coming ≡ turned (λ x. Some (Into d.r d.r.used)) o d.a.source v.rx.coming
  same_coming None none = rw (d.first, d.found, none) refl
  same_coming (Some bytes) some = rw (d.first, d.found, some) (shared_besides d.r.least d.r d.r.used bytes (set_apart d.r d.a v.rx)).coming

  same_rest : (o : Option (List ℕ)) → d.a.bytes ≡ o → ((drawing v).rx.unexpected ≡ remove_first (takes d.r.want) v.rx.unexpected) × ((drawing v).rx.claimed ≡ v.rx.claimed)
  same_rest None none = rw (d.first, d.found, none) (refl, refl)
  same_rest (Some bytes) some = (let same = shared_besides d.r.least d.r d.r.used bytes (set_apart d.r d.a v.rx) in rw (d.first, d.found, some) (same.unexpected, same.claimed))

  pub draw_leaves : Leaves v (drawing v) d.a
  draw_leaves =
      let rest = same_rest d.a.bytes refl in
      left_by v (drawing v) d.a (partly_found v ok d.r.want d.a d.found) (Into d.r d.r.used) (into_way d.r d.r.used) refl (same_coming d.a.bytes refl)
      (λ s. rw (rest.0, rest.1) (count_found v s d.r.want d.a d.found))

-- what is handed out is of the message
pub record IsOf (d : Drawn) (a : Arrival) (x : Completed) : Type 0 where
  pub bytes : List ℕ
  pub whole : a.bytes ≡ Some bytes
  pub source : x.source ≡ a.source
  pub head : x.head ≡ a.head

abbrev pub message_in : Drawn → Option Completed
message_in GoesOn = None
message_in (Part x) = Some x
message_in (Last x y) = Some x

last_message : (o : Option Released) (x : Completed) → message_in (drawn_last o x) ≡ Some x
last_message None x = refl
last_message (Some y) x = refl

module _ (p : Parts) (ok : IsTogether p) (rx : IsArriving p.rx) (tx : IsTransit p.tx) (due : draw_due p.rx.rx ≡ true) where
  abbrev d : IsDrawn p.rx
  d = who_draws p.rx due

  leaves : Leaves p.rx (drawing p.rx) d.a
  leaves = draw_leaves p.rx rx d

  handed_of : (o : Option (List ℕ)) → d.a.bytes ≡ o → message_in (drawn p.rx) ≡ option_map (λ bytes. completed d.r d.r.used d.a.source d.a.head bytes) o
  handed_of None none = rw (d.first, d.found, none) refl
  handed_of (Some bytes) some = rw (d.first, d.found, some) (last_message _ (completed d.r d.r.used d.a.source d.a.head bytes))

  -- a completion is handed out of a message that is whole
  of_message : (x : Completed) → message_in (drawn p.rx) ≡ Some x → IsOf (drawn p.rx) d.a x
  of_message x out = by d.a.bytes refl
    where
      by : (o : Option (List ℕ)) → d.a.bytes ≡ o → IsOf (drawn p.rx) d.a x
      by None none = absurd (let e = sym out ∙ handed_of None none in cc)
      by (Some bytes) some = (let same : x ≡ completed d.r d.r.used d.a.source d.a.head bytes = (let e = sym out ∙ handed_of (Some bytes) some in cc) in
          record { bytes = bytes; whole = some; source = ap (λ (x : Completed). x.source) same; head = ap (λ (x : Completed). x.head) same })

  pub draw_room : (x : Completed) → message_in (drawn p.rx) ≡ Some x → at_match x.head.ack ≡ true → (x.source < length p.tx.tx.sent) × (0 < slice_index p.tx.rooms x.source)
  draw_room x out at = (let of = of_message x out in rw of.source (left_room p ok tx.rooms (drawing p.rx) d.a leaves (rw of.whole (ap (λ (h : ItemHead). at_match h.ack) (sym of.head) ∙ at))))

  pub draw_together : (x : Completed) → message_in (drawn p.rx) ≡ Some x → (q : Parts) → q.cq.size ≡ p.cq.size → q.av ≡ p.av → q.rx ≡ drawing p.rx → q.calls ≡ p.calls → q.tx ≡ booked (at_match x.head.ack) x.source x.head p.tx → IsTogether q
  draw_together x out q size av rx' calls tx' =
      let of = of_message x out in
      let same : booked (at_match x.head.ack) x.source x.head p.tx ≡ booked (is_due_now (seen d.a)) d.a.source d.a.head p.tx = rw (of.source, of.head, of.whole) refl in
      left_together p ok tx.rooms (drawing p.rx) d.a leaves q size av rx' (rw calls ok.earlier) (tx' ∙ same)

  pub draw_going : message_in (drawn p.rx) ≡ None → (q : Parts) → q.cq.size ≡ p.cq.size → q.av ≡ p.av → q.rx ≡ drawing p.rx → q.calls ≡ p.calls → q.tx ≡ p.tx → IsTogether q
  draw_going out q size av rx' calls tx' = by d.a.bytes refl
    where
      by : (o : Option (List ℕ)) → d.a.bytes ≡ o → IsTogether q
      by None none = left_together p ok tx.rooms (drawing p.rx) d.a leaves q size av rx' (rw calls ok.earlier) (let same : booked (is_due_now (seen d.a)) d.a.source d.a.head p.tx ≡ p.tx = rw none refl in tx' ∙ sym same)
      by (Some bytes) some = absurd (let e = sym out ∙ handed_of (Some bytes) some in cc)

-- ---- what is handed out makes the parts

module _ (p : Parts) where
  -- the parts but for what is named
  abbrev pub with_drawn : Drawn → Parts
  with_drawn d = drew_as d (call_drawn p.rx.rx) (with_arriving (drawing p.rx) p)

  pub drew_by : (d : Drawn) → d ≡ drawn p.rx → with_drawn d ≡ drew p
  drew_by d is = ap (λ (d : Drawn). with_drawn d) is

  pub message_of : (d : Drawn) → d ≡ drawn p.rx → (e : Drawn) → d ≡ e → message_in (drawn p.rx) ≡ message_in e
  message_of d is e same = ap message_in (sym is ∙ same)

  pub room_of : (d : Drawn) → d ≡ drawn p.rx → (e : Drawn) → d ≡ e → has_room (entries_drawn (drawn p.rx)) p.cq ≡ true → has_room (entries_drawn e) p.cq ≡ true
  room_of d is e same room = ap (λ (d : Drawn). has_room (entries_drawn d) p.cq) (sym same ∙ is) ∙ room

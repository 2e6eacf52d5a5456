-- A multi-receive that has given room to a message and gets its bytes: whether it is closing then, and whether its buffer comes back.
use Rattle.std.proofs.Common.{◌≡◌, ◌==◌, ◌&&◌, ℕ, ◌<◌, Bool, true, false, not, List, [], ◌∷◌, ◌++◌, length, get_or, set, Option, Some, None, refl, sym, ap, ◌∙◌, arith}
use Rattle.std.specs.Prelude.{find, is_some, IsSomeAnd}
use Rattle.std.specs.List.{AllZip, list_any}
use Rattle.std.proofs.lemmas.List.{get_or-set_same, set-get_or, set-set}
use Rattle.fab_base.specs.declared.items.ItemHead.{ItemHead}
use Rattle.fab_base.specs.declared.items.Want.{Want}
use Rattle.fab_base.specs.declared.items.Sign.{Sign}
use Rattle.fab_base.specs.declared.operations.Coming.{Coming}
use Rattle.fab_base.specs.declared.operations.Coming.TheVariants.{Into, Keep}
use Rattle.fab_match.specs.Signs.{fits}
use Rattle.fab_match.specs.Matcher.{first_id, has_id}
use Rattle.fab_match.proofs.Pairs.{has_id-first}
use Rattle.fab_rx.specs.declared.stored.Waiting.{Waiting}
use Rattle.fab_rx.specs.declared.stored.Multi.{Multi}
use Rattle.fab_rx.specs.declared.stored.Parcel.{Parcel}
use Rattle.fab_rx.specs.declared.stored.Begun.{Begun}
use Rattle.fab_rx.specs.Table.{Cells, at}
use Rattle.fab_rx.specs.Stored.{IsKept, waiting_of}
use Rattle.fab_rx.specs.Homes.{AreMulti, GoesHome, IsPart, Rests, is_fed_by}
use Rattle.fab_rx.specs.Sharing.{IsUsable, is_closed, is_spent, left_by, multi_at, multi_in, used_up_by}
use Rattle.std.proofs.lemmas.Bool.{eq-eqb}
use Rattle.std.proofs.lemmas.List.{append-nil}
use Rattle.fab_base.specs.declared.operations.Receive.{Receive}
use Rattle.fab_model.specs.Matching.{change_first, matches, remove_first}
use Rattle.fab_base.specs.Kinds.{is_message}
use Rattle.fab_model.specs.State.{Receiving, coming_from, is_into, under_way}
use Rattle.fab_model.specs.Complete.{filled, filling, is_made_by}
use Rattle.fab_model.specs.Arrivals.{heading_message, heading_other, is_wanted, made_whole, shut, stays, taker, used_up, way_of}
use Rattle.fab_rx.specs.Arriving.{Arriving, arriving, begun_of, bytes_come, shared, without_closed}
use Rattle.fab_rx.specs.Results.{closed_by, closed_if, last_by, last_of}
use Rattle.fab_rx.proofs.Ending.{closed_now, closed_still, eqb_alike, fed_alike, found_last, last_other, last_single, last_some, none_last, shared_some}
use Rattle.fab_rx.proofs.Onces.{change_last, change_none, find_last, remove_last}
use Rattle.fab_rx.proofs.Taking.{least_some, shut_off, shut_on, stays_by, usable_of}
use Rattle.fab_rx.proofs.Keeping.{idle, least_none}
use Rattle.fab_rx.proofs.Apart.{not_claimed}
use Rattle.fab_rx.proofs.Changing.{missed_at}
use Rattle.fab_rx.proofs.Sharing.{any_alike}
use Rattle.fab_rx.proofs.Tying.{IsTaken}
use Rattle.fab_rx.proofs.Moving.{Both, both_agree, taken_home}
use Rattle.fab_model.proofs.Firsts.{list_any-not_found, remove_first-none}

module _ (r : Receive) (least : ℕ) (some : r.least ≡ Some least) (total place : ℕ) (bytes : List ℕ) (closing : List Receive) (none : find (is_made_by r.call) closing ≡ None) (rx : Receiving) (are : rx.closing ≡ closing ++ shut total r) where
  abbrev made : Receive → Bool
  made = is_made_by r.call

  -- the receive as it is then
  abbrev pub last : Receive
  last = filled place bytes (used_up total r)

  made_used : made (used_up total r) ≡ true
  made_used = eq-eqb r.call r.call refl

  made_last : made last ≡ true
  made_last = eq-eqb r.call r.call refl

  abbrev then_by : List Receive → Receiving
  then_by xs = record rx { posted = change_first made (filled place bytes) rx.posted; closing = xs }

  abbrev changed : List Receive
  changed = change_first made (filled place bytes) rx.closing

  -- it stays posted

  module _ (on : stays total r ≡ true) where
    changed_on : changed ≡ closing
    changed_on = ap (change_first made (filled place bytes)) (are ∙ ap (λ xs. closing ++ xs) (shut_on total r least some on) ∙ append-nil closing) ∙ change_none made (filled place bytes) closing none

    pub open_if : closed_if r.least r.call (filling r place bytes rx) ≡ None
    open_if = last_some r least some place bytes rx ∙ by (under_way rx r.call) refl
      where
        by : (b : Bool) → under_way rx r.call ≡ b → closed_by r.call (then_by changed) ≡ None
        by true e = none_last r.call (then_by changed) e
        by false e = found_last r.call (then_by changed) e ∙ ap (find made) changed_on ∙ none

    pub shared_on : shared r.least r place bytes rx ≡ then_by closing
    shared_on = shared_some r least some place bytes rx ∙ by (under_way rx r.call) refl
      where
        by : (b : Bool) → under_way rx r.call ≡ b → without_closed r.call (then_by changed) ≡ then_by closing
        by true e = closed_still r.call (then_by changed) e ∙ ap then_by changed_on
        by false e =
            closed_now r.call (then_by changed) e ∙ ap (λ xs. then_by (remove_first made xs)) changed_on ∙ ap then_by (remove_first-none made closing (list_any-not_found made closing none))

  -- it is closing

  module _ (off : stays total r ≡ false) where
    changed_off : changed ≡ closing ++ last ∷ []
    changed_off =
        ap (change_first made (filled place bytes)) (are ∙ ap (λ xs. closing ++ xs) (shut_off total r least some off)) ∙ change_last made (filled place bytes) (used_up total r) made_used closing none

    pub shared_fed : under_way rx r.call ≡ true → shared r.least r place bytes rx ≡ then_by (closing ++ last ∷ [])
    shared_fed e = shared_some r least some place bytes rx ∙ closed_still r.call (then_by changed) e ∙ ap then_by changed_off

    pub shared_last : under_way rx r.call ≡ false → shared r.least r place bytes rx ≡ then_by closing
    shared_last e = shared_some r least some place bytes rx ∙ closed_now r.call (then_by changed) e ∙ ap (λ xs. then_by (remove_first made xs)) changed_off ∙ ap then_by (remove_last made last made_last closing none)

    pub last_if : under_way rx r.call ≡ false → closed_if r.least r.call (filling r place bytes rx) ≡ Some last
    last_if e = last_some r least some place bytes rx ∙ found_last r.call (then_by changed) e ∙ ap (find made) changed_off ∙ find_last made last made_last closing none

  pub fed_if : under_way rx r.call ≡ true → closed_if r.least r.call (filling r place bytes rx) ≡ None
  fed_if e = last_some r least some place bytes rx ∙ none_last r.call (then_by changed) e

  -- the buffer comes back exactly where it is over by what is stored
  pub closes_as : (fed : Bool) → under_way rx r.call ≡ fed → (is_some (left_by total (Some (waiting_of r))) && not fed) ≡ is_some (closed_if r.least r.call (filling r place bytes rx))
  closes_as fed under = by (is_spent (used_up_by total (waiting_of r))) refl fed under
    where
      by : (b : Bool) → is_spent (used_up_by total (waiting_of r)) ≡ b → (d : Bool) → under_way rx r.call ≡ d → (is_some (left_by total (Some (waiting_of r))) && not d) ≡ is_some (closed_if r.least r.call (filling r place bytes rx))
      by false e d f = rw (e, left_by) (sym (ap is_some (open_if (stays_by total r least some ∙ ap not e))))
      by true e true f = rw (e, left_by) (sym (ap is_some (fed_if f)))
      by true e false f = rw (e, left_by) (sym (ap is_some (last_if (stays_by total r least some ∙ ap not e) f)))

-- ---- a posted multi-receive is none of those that are closing

module _ (homes : ℕ → Option ℕ) (calls : ℕ → ℕ) (seats : Cells Waiting) (id : ℕ) (r : Receive) (part : IsPart homes calls seats id r) where
  pub none_made : (cs : List (ℕ × ℕ)) (closing : List Receive) → AllZip (Rests homes calls seats) cs closing → has_id id cs ≡ false → find (is_made_by r.call) closing ≡ None
  none_made cs closing rests lacks = missed_at (Rests homes calls seats) (is_made_by r.call) id agrees cs closing rests lacks
    where
      agrees : (c : ℕ × ℕ) (y : Receive) → Rests homes calls seats c y → is_made_by r.call y ≡ (c.0 == id)
      agrees c y t = eqb_alike y.call r.call c.0 id (λ same. sym t.call ∙ ap calls same ∙ part.call) (λ same. (let both : Some c.0 ≡ Some id = sym t.home ∙ ap homes same ∙ part.home in cc))

  pub fed_as : (coming : List (Option Begun)) (comes : List (Option Coming)) → length comes ≡ length coming → ((s : ℕ) → GoesHome homes calls seats (get_or coming s None) (get_or comes s None)) → list_any (is_into r.call) comes ≡ list_any (is_fed_by id) coming
  fed_as coming comes long ways = any_alike (is_into r.call) (is_fed_by id) comes coming long (λ s. fed_alike homes calls seats id r part (get_or coming s None) (get_or comes s None) (ways s))

-- ---- an item that comes with its first frame

module _ (ps : List (ℕ × Want)) (us : List (ℕ × Sign)) (room : ℕ) (seats : Cells Waiting) (parcels : Cells Parcel) (coming : List (Option Begun)) (v : Arriving) (kept : IsKept ps us room seats parcels coming v)
    (cs : List (ℕ × ℕ)) (m : AreMulti ps cs seats coming v.rx.posted v.rx.closing v.rx.coming v.next v.multis v.most) (source : ℕ) (head : ItemHead) (within : source < length v.begun) (nothing : begun_of v source ≡ None) where
  below : source < length v.rx.coming
  below = let same = kept.comings in omega arith

  last_at : (w : Arriving) (c : Coming) → coming_from w.rx source ≡ Some c → last_of source w ≡ last_by (Some c) (bytes_come (begun_of w source)) (made_whole source w.rx)
  last_at w c e = rw e refl

  pub first_other : is_message head.kind ≡ false → is_some (last_of source (arriving source head v)) ≡ false
  unfolding heading_other
  first_other other =
      let comes : coming_from (arriving source head v).rx source ≡ Some (way_of head.kind) = rw (other, heading_other) (get_or-set_same v.rx.coming source (Some (way_of head.kind)) None below) in
      ap is_some (last_at (arriving source head v) (way_of head.kind) comes ∙ last_other head.kind (bytes_come (begun_of (arriving source head v) source)) (made_whole source (arriving source head v).rx))

  module _ (message : is_message head.kind ≡ true) where
    pub first_kept : taker source head v.rx ≡ None → is_some (last_of source (arriving source head v)) ≡ false
    unfolding heading_message
    first_kept none =
        let comes : coming_from (arriving source head v).rx source ≡ Some Keep = rw (message, heading_message, none) (get_or-set_same v.rx.coming source (Some Keep) None below) in
        ap is_some (last_at (arriving source head v) Keep comes)

    module _ (sign : Sign) (agree : (want : Want) → fits want sign ≡ matches want source head) (id : ℕ) (e : first_id (λ want. fits want sign) ps ≡ Some id) where
      abbrev t : IsTaken (Both ps us room seats parcels coming v kept cs m source head within nothing message sign agree) (λ want. fits want sign) (is_wanted source head) (both_agree ps us room seats parcels coming v kept cs m source head within nothing message sign agree) id ps v.rx.posted
      t = taken_home ps us room seats parcels coming v kept cs m source head within nothing message sign agree id e

      abbrev r : Receive
      r = t.member

      there : at seats id ≡ Some (waiting_of r)
      there = ap (at seats) (sym t.is) ∙ t.tie.0.seat

      comes : coming_from (arriving source head v).rx source ≡ Some (Into r r.used)
      unfolding heading_message
      comes = rw (message, heading_message, t.found) (get_or-set_same v.rx.coming source (Some (Into r r.used)) None below)

      abbrev rx : Receiving
      rx = made_whole source (arriving source head v).rx

      abbrev bytes : List ℕ
      bytes = bytes_come (begun_of (arriving source head v) source)

      pub first_usable : IsSomeAnd (at seats id) IsUsable
      first_usable = rw there (usable_of r t.tie.0.fit)

      pub first_single : multi_at seats id ≡ None → is_some (last_of source (arriving source head v)) ≡ false
      first_single alone = ap is_some (last_at (arriving source head v) (Into r r.used) comes ∙ last_single r r.used bytes rx (least_none r (sym (ap multi_in there) ∙ alone)))

      module _ (q : Multi) (shared : multi_at seats id ≡ Some q) where
        some : (least : ℕ) × (r.least ≡ Some least) × (q.used ≡ r.used)
        some = least_some r q (sym (ap multi_in there) ∙ shared)

        multi : is_some r.least ≡ true
        multi = rw some.1 refl

        part : IsPart m.homes m.calls seats id r
        part = record {
          multi = multi;
          home = t.tie.1.home ∙ rw some.1 (ap (λ (k : ℕ). Some k) t.is);
          call = ap m.calls (sym t.is) ∙ t.tie.1.call multi;
          there = waiting_of r;
          seat = there;
          shared = rw some.1 refl;
          ctx = refl;
          long = refl;
        }

        same_coming : rx.coming ≡ v.rx.coming
        unfolding heading_message made_whole
        same_coming =
            rw (message, heading_message, t.found, made_whole) (set-set v.rx.coming source (Some (Into r r.used)) None ∙ ap (set v.rx.coming source) (sym idle_there) ∙ set-get_or v.rx.coming source None)
          where
            idle_there : get_or v.rx.coming source None ≡ None
            idle_there = (idle ps us room seats parcels coming v kept source head within nothing).1

        closes_then : rx.closing ≡ v.rx.closing ++ shut head.total r
        unfolding heading_message made_whole
        closes_then = rw (message, heading_message, t.found, made_whole) refl

        pub first_multi : is_closed coming id head.total (at seats id) ≡ is_some (last_of source (arriving source head v))
        first_multi =
            let unclosed = not_claimed ps cs id (has_id-first (λ want. fits want sign) id ps e) m.apart in
            let none = none_made m.homes m.calls seats id r part cs v.rx.closing m.closing_rest unclosed in
            let fed = ap (list_any (is_into r.call)) same_coming ∙ fed_as m.homes m.calls seats id r part coming v.rx.coming (kept.comings ∙ sym kept.peers) m.ways in
            ap (λ o. is_closed coming id head.total o) there
            ∙ closes_as r some.0 some.1 head.total r.used bytes v.rx.closing none rx closes_then (list_any (is_fed_by id) coming) fed
            ∙ sym (ap is_some (last_at (arriving source head v) (Into r r.used) comes))

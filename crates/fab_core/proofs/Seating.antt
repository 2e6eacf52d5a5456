-- A draw keeps what holds of multi-receives.
use Rattle.std.proofs.Common.{◌≡◌, ℕ, ◌≤◌, Bool, true, false, List, [], ◌∷◌, ◌++◌, append-nil, get_or, Option, Some, None, refl, sym, ap, subst, ◌∙◌}
use Rattle.std.specs.Prelude.{find, unwrap_or}
use Rattle.std.proofs.lemmas.Bool.{eq-eqb}
use Rattle.fab_base.specs.declared.entries.Entry.TheVariants.{Released}
use Rattle.fab_base.specs.declared.entries.Taken.TheVariants.{Success}
use Rattle.fab_base.specs.declared.operations.Coming.TheVariants.{Into}
use Rattle.fab_base.specs.declared.operations.Receive.{Receive}
use Rattle.fab_model.specs.Matching.{change_first, remove_first}
use Rattle.fab_model.specs.State.{Receiving, coming_from, writing}
use Rattle.fab_model.specs.Complete.{entry_of, filled, filling, fill_multi, is_made_by}
use Rattle.fab_base.specs.Kinds.{at_match}
use Rattle.fab_model.specs.Receiving.{draw_due, draws, goes}
use Rattle.fab_model.specs.Arrivals.{seated, shut, stays, used_up}
use Rattle.fab_rx.specs.Arriving.{IsArriving, id_in, shared, with_receiving, without_closed}
use Rattle.fab_rx.specs.Drawing.{set_apart}
use Rattle.fab_rx.specs.Results.{closed_by, closed_if, completed}
use Rattle.fab_rx.specs.Opened.{AreOpened, is_multi, opened, sized}
use Rattle.fab_rx.proofs.Numbering.{closed_coming}
use Rattle.fab_rx.proofs.Onces.{change_last, others_none, remove_last}
use Rattle.fab_rx.proofs.Taking.{seated_off, shut_off, shut_on}
use Rattle.fab_core.specs.Parts.{Parts}
use Rattle.fab_settling.specs.Ends.{unread_of}
use Rattle.fab_core.specs.Doing.{let_back, received, with_arriving}
use Rattle.fab_settling.specs.Members.{let_go}
use Rattle.fab_core.specs.Draws.{drew}
use Rattle.fab_core.specs.Lent.{GoesInto, IsLent, IsLentBy}
use Rattle.fab_core.proofs.Drawing.{IsDrawn, handed_by, who_draws}
use Rattle.fab_core.proofs.Lending.{lent_moved}
use Rattle.fab_core.proofs.Opening.{closed_seek, coming_moved, coming_set, distinct_left, fill_same, filling_same, others_other, seated_same, seek, seek_gone, seek_none, unclosed_same}
use Rattle.fab_core.proofs.Standing.{booked_lent, taken_into}
use Rattle.fab_core.proofs.Stepping.{lent_closed, lent_received}

module _ (p : Parts) (ok : IsLentBy p) (is : AreOpened p.rx) (earlier : p.rx.next ≤ p.calls) (d : IsDrawn p.rx) where
  -- the message is apart
  abbrev apart : Receiving
  apart = set_apart d.r d.a p.rx.rx

  apart_same : (c : ℕ) → is_multi p.rx.multis c ≡ true → opened apart c ≡ opened p.rx.rx c
  apart_same c k = seated_same p.rx.rx p.rx.multis is.posted is.once (draws p.rx.rx.unexpected) d.a.head.total d.r d.first c k

  goes_on : (next : Receiving) → ((c : ℕ) → is_multi p.rx.multis c ≡ true → opened next c ≡ opened p.rx.rx c) → GoesInto next p.rx.multis p.calls d.r.least d.r d.r.used
  goes_on next same = taken_into p ok is earlier (draws p.rx.rx.unexpected) d.a.head.total d.r d.first next same

  -- the rest of a message that is not whole goes there
  going_lent : IsLent (goes d.a.source (Into d.r d.r.used) apart) p.rx.multis p.tx.tx p.cq p.calls p.multis
  going_lent =
      lent_moved p.rx.rx p.rx.multis p.tx.tx p.cq p.calls p.multis ok (goes d.a.source (Into d.r d.r.used) apart) apart_same
      (coming_set (goes d.a.source (Into d.r d.r.used) apart) p.rx.multis p.calls p.rx.rx.coming d.a.source (Some (Into d.r d.r.used))
      (λ s. coming_moved p.rx.rx (goes d.a.source (Into d.r d.r.used) apart) p.rx.multis p.calls (coming_from p.rx.rx s) apart_same (ok.coming s)) (goes_on (goes d.a.source (Into d.r d.r.used) apart) apart_same))

  module _ (bytes : List ℕ) where
    abbrev full : Receiving
    full = filling d.r d.r.used bytes apart

    full_same : (c : ℕ) → is_multi p.rx.multis c ≡ true → opened full c ≡ opened p.rx.rx c
    full_same c k = filling_same d.r d.r.used bytes apart c ∙ apart_same c k

    received_full : IsLent full p.rx.multis p.tx.tx (writing (Some d.r.call) (entry_of d.r d.r.used d.a.source d.a.head bytes) p.cq) p.calls p.multis
    received_full =
        lent_received p.rx.rx p.rx.multis p.tx.tx p.cq p.calls p.multis ok full full_same (λ s. coming_moved p.rx.rx full p.rx.multis p.calls (coming_from p.rx.rx s) full_same (ok.coming s))
        d.r d.r.used d.a.source d.a.head bytes (goes_on p.rx.rx (λ c k. refl))

    fill_is : (xs : List Receive) → fill_multi d.r d.r.used bytes xs ≡ change_first (is_made_by d.r.call) (filled d.r.used bytes) xs
    fill_is xs = by (Some d.least) d.multi
      where
        by : (o : Option ℕ) → d.r.least ≡ o → fill_multi d.r d.r.used bytes xs ≡ change_first (is_made_by d.r.call) (filled d.r.used bytes) xs
        by None none = let no : None ≡ Some d.least = sym none ∙ d.multi in absurd (cc)
        by (Some least) e = rw (e, fill_multi) refl

    -- it is over
    module _ (x : Receive) (last : closed_by d.r.call full ≡ Some x) where
      none_closing : seek d.r.call p.rx.rx.closing ≡ None
      none_closing = seek_none d.r.call p.rx.rx.closing (others_other (draws p.rx.rx.unexpected) p.rx.rx.posted p.rx.rx.closing d.r is.once d.first)

      there : seek d.r.call (p.rx.rx.closing ++ shut d.a.head.total d.r) ≡ Some (sized x)
      there = sym (fill_same d.r d.r.used bytes d.r.call (p.rx.rx.closing ++ shut d.a.head.total d.r)) ∙ closed_seek d.r.call full x last

      off : stays d.a.head.total d.r ≡ false
      off = by (stays d.a.head.total d.r) refl
        where
          by : (b : Bool) → stays d.a.head.total d.r ≡ b → stays d.a.head.total d.r ≡ false
          by true on =
              let empty : p.rx.rx.closing ++ shut d.a.head.total d.r ≡ p.rx.rx.closing = ap (λ xs. p.rx.rx.closing ++ xs) (shut_on d.a.head.total d.r d.least d.multi on) ∙ append-nil p.rx.rx.closing in
              let no : Some (sized x) ≡ None = sym there ∙ ap (λ xs. seek d.r.call xs) empty ∙ none_closing in absurd (cc)
          by false e = e

      none_posted : seek d.r.call full.posted ≡ None
      none_posted =
          fill_same d.r d.r.used bytes d.r.call (seated (draws p.rx.rx.unexpected) d.a.head.total d.r p.rx.rx.posted)
          ∙ ap (λ xs. seek d.r.call xs) (seated_off (draws p.rx.rx.unexpected) d.a.head.total d.r p.rx.rx.posted off)
          ∙ seek_gone (draws p.rx.rx.unexpected) p.rx.rx.posted d.r (distinct_left p.rx.rx.posted p.rx.rx.closing is.once) d.first

      no_other : find (is_made_by d.r.call) p.rx.rx.closing ≡ None
      no_other = others_none d.r.call p.rx.rx.closing (others_other (draws p.rx.rx.unexpected) p.rx.rx.posted p.rx.rx.closing d.r is.once d.first)

      only : full.closing ≡ p.rx.rx.closing ++ filled d.r.used bytes (used_up d.a.head.total d.r) ∷ []
      only =
          ap (λ xs. fill_multi d.r d.r.used bytes (p.rx.rx.closing ++ xs)) (shut_off d.a.head.total d.r d.least d.multi off)
          ∙ fill_is (p.rx.rx.closing ++ used_up d.a.head.total d.r ∷ [])
          ∙ change_last (is_made_by d.r.call) (filled d.r.used bytes) (used_up d.a.head.total d.r) (eq-eqb d.r.call d.r.call refl) p.rx.rx.closing no_other

      rest_none : seek d.r.call (remove_first (is_made_by d.r.call) full.closing) ≡ None
      rest_none =
          ap (λ xs. seek d.r.call (remove_first (is_made_by d.r.call) xs)) only
          ∙ ap (λ xs. seek d.r.call xs) (remove_last (is_made_by d.r.call) (filled d.r.used bytes (used_up d.a.head.total d.r)) (eq-eqb d.r.call d.r.call refl) p.rx.rx.closing no_other)
          ∙ none_closing

      known_multi : is_multi p.rx.multis d.r.call ≡ true
      known_multi = (subst (λ (o : Option ℕ). GoesInto p.rx.rx p.rx.multis p.calls o d.r d.r.used) d.multi (goes_on p.rx.rx (λ c k. refl))).0

      over_lent : IsLent (without_closed d.r.call full) p.rx.multis p.tx.tx (writing (Some x.call) (Success (Released x.ctx x.used x.buf)) (writing (Some d.r.call) (entry_of d.r d.r.used d.a.source d.a.head bytes) p.cq)) p.calls
          (let_go (unwrap_or (id_in p.rx.multis x.call) 0) (unread_of (writing (Some d.r.call) (entry_of d.r d.r.used d.a.source d.a.head bytes) p.cq)) p.multis)
      over_lent = lent_closed full p.rx.multis p.tx.tx (writing (Some d.r.call) (entry_of d.r d.r.used d.a.source d.a.head bytes) p.cq) p.calls p.multis received_full d.r.call x last none_posted rest_none known_multi (λ s. ap (λ xs. get_or xs s None) (closed_coming d.r.call full))

    abbrev with_message : Receiving → Parts
    with_message rx = received (Some d.r.call) (at_match d.a.head.ack) (completed d.r d.r.used d.a.source d.a.head bytes) (with_arriving (with_receiving rx p.rx) p)

    into_by : (o : Option ℕ) → d.r.least ≡ o → IsLentBy (let_back (closed_if o d.r.call full) (with_message (shared o d.r d.r.used bytes apart)))
    into_by None none = let no : None ≡ Some d.least = sym none ∙ d.multi in absurd (cc)
    into_by (Some least) e = by (closed_by d.r.call full) refl
      where
        by : (c : Option Receive) → closed_by d.r.call full ≡ c → IsLentBy (let_back (closed_by d.r.call full) (with_message (without_closed d.r.call full)))
        by None none = subst (λ (c : Option Receive). IsLentBy (let_back c (with_message (without_closed d.r.call full)))) (sym none)
            (subst (λ (rx : Receiving). IsLentBy (with_message rx)) (sym (unclosed_same d.r.call full none)) (booked_lent (at_match d.a.head.ack) d.a.source d.a.head full p.rx.multis p.tx (writing (Some d.r.call) (entry_of d.r d.r.used d.a.source d.a.head bytes) p.cq) p.calls p.multis received_full))
        by (Some x) last = subst (λ (c : Option Receive). IsLentBy (let_back c (with_message (without_closed d.r.call full)))) (sym last)
            (booked_lent (at_match d.a.head.ack) d.a.source d.a.head (without_closed d.r.call full) p.rx.multis p.tx (writing (Some x.call) (Success (Released x.ctx x.used x.buf)) (writing (Some d.r.call) (entry_of d.r d.r.used d.a.source d.a.head bytes) p.cq)) p.calls
            (let_go (unwrap_or (id_in p.rx.multis x.call) 0) (unread_of (writing (Some d.r.call) (entry_of d.r d.r.used d.a.source d.a.head bytes) p.cq)) p.multis) (over_lent x last))

pub drew_lent : (p : Parts) → IsLentBy p → IsArriving p.rx → AreOpened p.rx → p.rx.next ≤ p.calls → draw_due p.rx.rx ≡ true → IsLentBy (drew p)
drew_lent p ok rx is earlier due = by (who_draws p.rx due).a.bytes refl
  where
    by : (o : Option (List ℕ)) → (who_draws p.rx due).a.bytes ≡ o → IsLentBy (drew p)
    by None none = let d = who_draws p.rx due in rw (d.first, d.found, none) (going_lent p ok is earlier d)
    by (Some bytes) some =
        let d = who_draws p.rx due in
        let q = with_arriving (with_receiving (shared d.r.least d.r d.r.used bytes (set_apart d.r d.a p.rx.rx)) p.rx) p in
        rw (d.first, d.found, some) (subst IsLentBy (handed_by p rx d bytes q refl (closed_if d.r.least d.r.call (filling d.r d.r.used bytes (set_apart d.r d.a p.rx.rx))) refl) (into_by p ok is earlier d bytes d.r.least refl))

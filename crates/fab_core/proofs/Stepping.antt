-- What holds of multi-receives is kept where messages come into receives.
use Rattle.std.proofs.Common.{◌≡◌, ◌≢◌, inl, inr, ℕ, ◌+◌, ◌-◌, ◌<◌, ◌≤◌, ◌==◌, Bool, true, false, List, length, map, Option, Some, None, refl, sym, ap, subst, ◌∙◌, arith}
use Rattle.std.specs.Prelude.{is_some, unwrap_or, Contains}
use Rattle.std.proofs.lemmas.Bool.{eqb-true, eq-eqb, leb-true}
use Rattle.fab_base.specs.declared.entries.Entry.TheVariants.{Released}
use Rattle.fab_base.specs.declared.entries.ErrEntry.{ErrEntry}
use Rattle.fab_base.specs.declared.entries.ErrKind.TheVariants.{Canceled}
use Rattle.fab_base.specs.declared.entries.Taken.{Taken}
use Rattle.fab_base.specs.declared.entries.Taken.TheVariants.{Success, Failure}
use Rattle.fab_base.specs.declared.items.ItemHead.{ItemHead}
use Rattle.fab_base.specs.declared.operations.Coming.{Coming}
use Rattle.fab_base.specs.declared.operations.Receive.{Receive}
use Rattle.fab_base.specs.declared.operations.Written.{Written}
use Rattle.fab_model.specs.Matching.{remove_first}
use Rattle.fab_model.specs.State.{Completions, Receiving, Transmitting, coming_from, writing}
use Rattle.fab_model.specs.Complete.{entry_of, has_space, is_made_by, received, truncated}
use Rattle.fab_model.specs.Peers.{part_of, released_buf, same_ctx}
use Rattle.fab_cq.specs.Queues.{buffer_in}
use Rattle.fab_rx.specs.Arriving.{call_in, id_in, without_closed}
use Rattle.fab_rx.specs.Results.{closed_by}
use Rattle.fab_rx.specs.Opened.{is_multi, opened, sized}
use Rattle.fab_settling.specs.declared.places.Place.{Place}
use Rattle.fab_settling.specs.declared.places.Place.TheVariants.{Open, Ended}
use Rattle.fab_settling.specs.Ends.{unread_of}
use Rattle.fab_settling.specs.Members.{Members, let_any_go, let_go, let_one_go}
use Rattle.fab_core.specs.Lent.{GoesInto, IsAt, IsComingIn, IsLent, IsPlaced, IsUnread, back_of, is_ending, size_by, size_of}
use Rattle.fab_core.proofs.Lending.{Becomes, lent_written, other_back, places_kept, places_turned}
use Rattle.fab_core.proofs.Placing.{zip_there}
use Rattle.fab_core.proofs.Opening.{closed_call, closed_gone, closed_idle, closed_open, closed_others, coming_left, seek}

-- ---- entries that are of no multi-receive

cancel_ends : (e : ErrEntry) → e.kind ≡ Canceled → is_ending (Failure e) ≡ true
cancel_ends e kind = rw kind refl

module _ (rx : Receiving) (known : List (ℕ × ℕ)) (cq : Completions) (multis : List (ℕ × ℕ)) (w : Written) where
  pub plain_unread : part_of w.entry ≡ None → is_ending w.entry ≡ false → IsUnread rx known cq multis w
  plain_unread none goes_on = record {
    parts = λ ctx at len e. (let no : None ≡ Some (ctx, at, len) = sym none ∙ e in absurd (cc));
    ends = λ ctx used buf e. (let no : true ≡ false = sym (ap is_ending e) ∙ goes_on in absurd (cc));
    cancels = λ e is kind. (let no : true ≡ false = sym (ap is_ending is ∙ cancel_ends e kind) ∙ goes_on in absurd (cc));
    back = λ call is there ending. (let no : true ≡ false = sym ending ∙ goes_on in absurd (cc));
  }

-- ---- the entry of a receive

keeps_buf : (call : ℕ) (w : Written) → buffer_in w.entry ≡ None → released_buf (Some call) w ≡ None
keeps_buf call w none = by (same_ctx (Some call) w.call) refl
  where
    by : (b : Bool) → same_ctx (Some call) w.call ≡ b → released_buf (Some call) w ≡ None
    by true is = rw (is, released_buf) none
    by false is = rw (is, released_buf) refl

pub record IsPartOf (r : Receive) (place : ℕ) (e : Taken) : Type 0 where
  pub len : ℕ
  pub part : part_of e ≡ Some (r.ctx, place, len)
  pub within : place + len ≤ length r.buf
  pub goes_on : is_ending e ≡ false
  pub keeps : buffer_in e ≡ None

pub record IsOfSingle (e : Taken) : Type 0 where
  pub part : part_of e ≡ None
  pub goes_on : is_ending e ≡ false

module _ (r : Receive) (place source : ℕ) (head : ItemHead) (bytes : List ℕ) where
  pub multi_entry : place ≤ length r.buf → (least : ℕ) → r.least ≡ Some least → IsPartOf r place (entry_of r place source head bytes)
  unfolding entry_of received truncated
  multi_entry within least multi = by (has_space r place head) refl
    where
      by : (b : Bool) → has_space r place head ≡ b → IsPartOf r place (entry_of r place source head bytes)
      by true is = let le = leb-true _ _ is in rw (is, entry_of, received, multi) (record { len = head.total; part = refl; within = omega (arith, le, within); goes_on = refl; keeps = refl })
      by false is = rw (is, entry_of, truncated, multi) (record { len = length r.buf - place; part = refl; within = omega (arith, within); goes_on = refl; keeps = refl })

  pub single_entry : r.least ≡ None → IsOfSingle (entry_of r place source head bytes)
  unfolding entry_of received truncated
  single_entry single = by (has_space r place head) refl
    where
      by : (b : Bool) → has_space r place head ≡ b → IsOfSingle (entry_of r place source head bytes)
      by true is = rw (is, entry_of, received, single) (record { part = refl; goes_on = refl })
      by false is = rw (is, entry_of, truncated, single) (record { part = refl; goes_on = refl })

module _ (rx : Receiving) (known : List (ℕ × ℕ)) (tx : Transmitting) (cq : Completions) (calls : ℕ) (multis : Members) (ok : IsLent rx known tx cq calls multis) where
  -- ---- an entry of a call that posted no multi-receive

  module _ (next : Receiving) (same : (c : ℕ) → is_multi known c ≡ true → opened next c ≡ opened rx c) (coming : (s : ℕ) → IsComingIn next known calls (coming_from next s)) where
    pub lent_other : (call : Option ℕ) (entry : Taken) → ((c : ℕ) → call ≡ Some c → (c < calls) × (is_multi known c ≡ false)) → part_of entry ≡ None → is_ending entry ≡ false → IsLent next known tx (writing call entry cq) calls multis
    lent_other call entry other none goes_on =
        lent_written rx known tx cq calls multis ok next call entry (λ c is. inl (same c is, other_back c (record { call = call; entry = entry }) (λ of. (let no : true ≡ false = sym is ∙ (other c of).1 in absurd (cc)))))
        (λ c of. (other c of).0) (λ c of is. (let no : true ≡ false = sym is ∙ (other c of).1 in absurd (cc))) (plain_unread rx known cq multis.list (record { call = call; entry = entry }) none goes_on) coming
        multis.places (places_kept rx known tx cq calls multis ok next call entry same)

    -- ---- the entry of a receive into which a message came

    module _ (r : Receive) (place source : ℕ) (head : ItemHead) (bytes : List ℕ) where
      pub lent_received : GoesInto rx known calls r.least r place → IsLent next known tx (writing (Some r.call) (entry_of r place source head bytes) cq) calls multis
      lent_received goes = by r.least refl goes
        where
          this : Written
          this = record { call = Some r.call; entry = entry_of r place source head bytes }

          by : (o : Option ℕ) → r.least ≡ o → GoesInto rx known calls o r place → IsLent next known tx (writing (Some r.call) (entry_of r place source head bytes) cq) calls multis
          by None single goes =
              let e = single_entry r place source head bytes single in
              lent_other (Some r.call) (entry_of r place source head bytes) (λ c of. (let same : r.call ≡ c = cc in (subst (λ (k : ℕ). k < calls) same goes.1, ap (is_multi known) (sym same) ∙ goes.0))) e.part e.goes_on
          by (Some least) multi goes =
              let e = multi_entry r place source head bytes goes.2 least multi in
              let there = ok.stands r.call (sized r) goes.0 goes.1 in
              let size : size_of rx cq r.call ≡ length r.buf = ap (λ o. size_by o (back_of cq r.call)) goes.1 in
              lent_written rx known tx cq calls multis ok next (Some r.call) (entry_of r place source head bytes) (λ c is. inl (same c is, keeps_buf c this e.keeps))
              (λ c of. (let same : r.call ≡ c = cc in subst (λ (k : ℕ). k < calls) same (ok.early r.call goes.0)))
              (λ c of is. (let same : r.call ≡ c = cc in ap (back_of cq) (sym same) ∙ there.1))
              (record {
                parts = λ ctx at len is.
                    (let both : Some (r.ctx, place, e.len) ≡ Some (ctx, at, len) = sym e.part ∙ is in
                    let triple : (r.ctx, place, e.len) ≡ (ctx, at, len) = cc in
                    let c : r.ctx ≡ ctx = ap (λ (t : ℕ × ℕ × ℕ). t.0) triple in
                    let a : place ≡ at = ap (λ (t : ℕ × ℕ × ℕ). t.1) triple in
                    let l : e.len ≡ len = ap (λ (t : ℕ × ℕ × ℕ). t.2) triple in
                    let le = e.within in
                    (r.call, refl, subst (λ (k : ℕ). Contains multis.list (k, r.call)) c there.0, omega (arith, a, l, le, size)));
                ends = λ ctx used buf is. (let no : true ≡ false = sym (ap is_ending is) ∙ e.goes_on in absurd (cc));
                cancels = λ x is kind. (let no : true ≡ false = sym (ap is_ending is ∙ cancel_ends x kind) ∙ e.goes_on in absurd (cc));
                back = λ call is there ending. (let no : true ≡ false = sym ending ∙ e.goes_on in absurd (cc));
              }) coming multis.places (places_kept rx known tx cq calls multis ok next (Some r.call) (entry_of r place source head bytes) same)

  -- ---- the buffer of a multi-receive comes back

  module _ (next : Receiving) (r : Receive) (entry : Taken) (gone : opened next r.call ≡ None) (open_now : opened rx r.call ≡ Some (sized r)) (others : (c : ℕ) → c ≢ r.call → opened next c ≡ opened rx c) (is_known : is_multi known r.call ≡ true) where
    abbrev at_end : Written
    at_end = record { call = Some r.call; entry = entry }

    brings : buffer_in entry ≡ Some r.buf → released_buf (Some r.call) at_end ≡ Some r.buf
    brings is = rw (eq-eqb r.call r.call refl, released_buf) is

    -- it has an id, and is the last one under it
    its_home : (id : ℕ) × (id_in known r.call ≡ Some id) × (call_in known id ≡ Some r.call)
    its_home = let there = ok.stands r.call (sized r) is_known open_now in
        let placed = zip_there (IsPlaced rx known cq) multis.places multis.list ok.placed (r.ctx, r.call) there.0 in by placed.0.place placed.1.place there.1
      where
        by : (p : Place) → IsAt rx known cq r.call p → back_of cq r.call ≡ None → (id : ℕ) × (id_in known r.call ≡ Some id) × (call_in known id ≡ Some r.call)
        by (Open id) h none = (id, h.0, h.1)
        by (Ended n) h none = let no : Some h.1 ≡ None = sym h.6 ∙ none in absurd (cc)

    back_under : (id : ℕ) → id_in known r.call ≡ Some id → call_in known id ≡ Some r.call → is_ending entry ≡ true → buffer_in entry ≡ Some r.buf → part_of entry ≡ None → ((ctx used : ℕ) (buf : List ℕ) → entry ≡ Success (Released ctx used buf) → r.ctx ≡ ctx)
        → ((e : ErrEntry) → entry ≡ Failure e → e.at ≡ None) → ((s : ℕ) → IsComingIn next known calls (coming_from next s)) → IsLent next known tx (writing (Some r.call) entry cq) calls (let_go id (unread_of cq) multis)
    back_under id home mine ends has none same_context no_place coming =
        let there = ok.stands r.call (sized r) is_known open_now in
        lent_written rx known tx cq calls multis ok next (Some r.call) entry (λ c is. becomes c (c == r.call) refl)
        (λ c of. (let same : r.call ≡ c = cc in subst (λ (k : ℕ). k < calls) same (ok.early r.call is_known)))
        (λ c of is. (let same : r.call ≡ c = cc in ap (back_of cq) (sym same) ∙ there.1))
        (record {
          parts = λ ctx at len is. (let no : None ≡ Some (ctx, at, len) = sym none ∙ is in absurd (cc));
          ends = λ ctx used buf is. (r.call, refl, subst (λ (k : ℕ). Contains multis.list (k, r.call)) (same_context ctx used buf is) there.0);
          cancels = λ e is kind. no_place e is;
          back = λ call of is ending. (let same : r.call ≡ call = cc in subst (λ (k : ℕ). is_some (released_buf (Some k) at_end) ≡ true) same (ap is_some (brings has)));
        }) coming (map (let_one_go id (unread_of cq)) multis.places)
        (places_turned rx known tx cq calls multis ok next (Some r.call) entry id r.call r.buf home mine refl ends has there.1 others)
      where
        becomes : (c : ℕ) (b : Bool) → (c == r.call) ≡ b → Becomes rx known tx cq calls multis ok next (Some r.call) entry c
        becomes c true is = let same : r.call ≡ c = sym (eqb-true c r.call is) in
            subst (λ (k : ℕ). Becomes rx known tx cq calls multis ok next (Some r.call) entry k) same (inr (sized r, r.buf, gone, open_now, brings has, refl))
        becomes c false is =
            let other : c ≢ r.call = λ same. (let no : true ≡ false = sym (eq-eqb c r.call same) ∙ is in absurd (cc)) in
            inl (others c other, other_back c at_end (λ of. (let same : r.call ≡ c = cc in absurd (other (sym same)))))

    module _ (ends : is_ending entry ≡ true) (has : buffer_in entry ≡ Some r.buf) (none : part_of entry ≡ None) (same_context : (ctx used : ℕ) (buf : List ℕ) → entry ≡ Success (Released ctx used buf) → r.ctx ≡ ctx) (no_place : (e : ErrEntry) → entry ≡ Failure e → e.at ≡ None)
        (coming : (s : ℕ) → IsComingIn next known calls (coming_from next s)) where
      pub lent_back : IsLent next known tx (writing (Some r.call) entry cq) calls (let_go (unwrap_or (id_in known r.call) 0) (unread_of cq) multis)
      lent_back = let h = its_home in
          subst (λ (o : Option ℕ). IsLent next known tx (writing (Some r.call) entry cq) calls (let_go (unwrap_or o 0) (unread_of cq) multis)) (sym h.1) (back_under h.0 h.1 h.2 ends has none same_context no_place coming)

      pub lent_left : IsLent next known tx (writing (Some r.call) entry cq) calls (let_any_go (id_in known r.call) (unread_of cq) multis)
      lent_left = let h = its_home in
          subst (λ (o : Option ℕ). IsLent next known tx (writing (Some r.call) entry cq) calls (let_any_go o (unread_of cq) multis)) (sym h.1) (back_under h.0 h.1 h.2 ends has none same_context no_place coming)

  -- one that is closing has no item under way any more
  module _ (call : ℕ) (x : Receive) (last : closed_by call rx ≡ Some x) (none : seek call rx.posted ≡ None) (rest : seek call (remove_first (is_made_by call) rx.closing) ≡ None) (is_known : is_multi known call ≡ true)
      (coming : (s : ℕ) → coming_from (without_closed call rx) s ≡ coming_from rx s) where
    same_call : x.call ≡ call
    same_call = closed_call call rx x last

    pub lent_closed : IsLent (without_closed call rx) known tx (writing (Some x.call) (Success (Released x.ctx x.used x.buf)) cq) calls (let_go (unwrap_or (id_in known x.call) 0) (unread_of cq) multis)
    lent_closed =
        lent_back (without_closed call rx) x (Success (Released x.ctx x.used x.buf))
        (ap (opened (without_closed call rx)) same_call ∙ closed_gone call rx x last none rest)
        (ap (opened rx) same_call ∙ closed_open call rx x last none)
        (λ c other. closed_others call rx x last c (λ same. other (same ∙ sym same_call)))
        (ap (is_multi known) same_call ∙ is_known) refl refl refl (λ ctx used buf is. refl_ctx ctx used buf is) (λ e is. absurd (cc))
        (λ s. subst (λ (c : Option Coming). IsComingIn (without_closed call rx) known calls c) (sym (coming s)) (coming_left rx (without_closed call rx) known calls call (closed_idle call rx x last) (closed_others call rx x last) s (ok.coming s)))
      where
        refl_ctx : (ctx used : ℕ) (buf : List ℕ) → Success (Released x.ctx x.used x.buf) ≡ Success (Released ctx used buf) → x.ctx ≡ ctx
        refl_ctx ctx used buf is = cc

-- What the steps of an endpoint make of its parts keeps what holds of multi-receives.
use Rattle.std.proofs.Common.{◌≡◌, ℕ, ◌+◌, ◌<◌, ◌≤◌, Bool, true, false, List, [], ◌∷◌, ◌++◌, get_or, set, Option, Some, None, refl, sym, ap, subst, ◌∙◌, arith}
use Rattle.std.specs.Prelude.{find, is_some, unwrap_or, slice_index, slice_set}
use Rattle.fab_base.specs.declared.entries.Entry.TheVariants.{Released, RemoteData}
use Rattle.fab_base.specs.declared.entries.ErrKind.TheVariants.{NoKey, Access, Range}
use Rattle.fab_base.specs.declared.entries.Taken.{Taken}
use Rattle.fab_base.specs.declared.entries.Taken.TheVariants.{Success}
use Rattle.fab_base.specs.declared.items.Item.{Item}
use Rattle.fab_base.specs.declared.items.ItemHead.{ItemHead}
use Rattle.fab_base.specs.declared.items.Kind.{Kind}
use Rattle.fab_base.specs.declared.items.Kind.TheVariants.{Msg, TagMsg, WriteReq, ReadReq, AtomicReq, Reply}
use Rattle.fab_base.specs.declared.items.Outcome.{Outcome}
use Rattle.fab_base.specs.declared.items.Outcome.TheVariants.{Done, BadKey, BadAccess, BadRange}
use Rattle.fab_base.specs.declared.operations.Coming.{Coming}
use Rattle.fab_base.specs.declared.operations.Coming.TheVariants.{Into, Keep, Throw, Request, Answer}
use Rattle.fab_base.specs.declared.operations.Held.{Held}
use Rattle.fab_base.specs.declared.operations.Operation.{Operation}
use Rattle.fab_base.specs.declared.operations.Receive.{Receive}
use Rattle.fab_model.specs.Matching.{remove_first}
use Rattle.fab_base.specs.Kinds.{at_delivery, is_answered, is_message}
use Rattle.fab_model.specs.State.{Completions, Receiving, Transmitting, coming_from, raise, writing}
use Rattle.fab_model.specs.Complete.{entry_of, error, filled, filling, fill_multi, is_made_by, joining}
use Rattle.fab_base.specs.Replies.{at_either}
use Rattle.fab_model.specs.Sending.{accepting, is_answered_by, is_of_item, success_of}
use Rattle.fab_model.specs.Target.{perform}
use Rattle.fab_model.specs.Arrivals.{heading_message, heading_other, is_wanted, keeping, made_whole, newcomer, seated, shut, taker, way_of}
use Rattle.fab_rx.specs.Arriving.{bytes_come, begun_of, id_in, shared, without_closed}
use Rattle.fab_rx.specs.Results.{closed_by, closed_if, completed}
use Rattle.fab_rx.specs.Numbers.{AreDistinct}
use Rattle.fab_rx.specs.Opened.{AreOpened, IsPosted, is_multi, opened, sized}
use Rattle.fab_rx.proofs.Numbering.{below_found, closed_coming, distinct_changed}
use Rattle.fab_rma.specs.Serving.{outcome_at}
use Rattle.fab_tx.specs.Transit.{Transit, answered, ended, transmitted}
use Rattle.fab_tx.specs.declared.results.Ended.{Ended}
use Rattle.fab_core.specs.Parts.{Parts}
use Rattle.fab_settling.specs.Ends.{as_operation, booked, cq_after, entry_at_end, reply_to, unread_of, well_entry, written_if}
use Rattle.fab_core.specs.Doing.{heading, let_back, received, sent, tail, with_arriving}
use Rattle.fab_settling.specs.Members.{Members, let_go}
use Rattle.fab_settling.specs.Served.{data_of, reply_of}
use Rattle.fab_core.specs.Lent.{AreApart, GoesInto, IsComingIn, IsLent, IsLentBy, IsOther}
use Rattle.fab_core.proofs.Apart.{accepting_apart, answered_apart, other_found, transmitted_apart}
use Rattle.fab_core.proofs.Lending.{lent_called, lent_moved}
use Rattle.fab_core.proofs.Opening.{closed_call, closed_found, closed_seek, coming_moved, coming_set, distinct_right, filling_same, fill_same, seated_same, seek, seek_apart, seek_gone, taker_is, taker_open, unclosed_same}
use Rattle.fab_core.proofs.Stepping.{IsOfSingle, lent_closed, lent_other, lent_received}

-- ---- operations and their entries

of_some : (x entry : Taken) → Some x ≡ Some entry → IsOfSingle x → IsOfSingle entry
of_some x entry e single = let same : x ≡ entry = cc in subst IsOfSingle same single

success_single : (o : Operation) (bytes : List ℕ) → IsOfSingle (Success (success_of o bytes))
unfolding success_of
success_single o bytes = by o.head.kind refl (is_answered o.head) refl
  where
    by : (k : Kind) → o.head.kind ≡ k → (b : Bool) → is_answered o.head ≡ b → IsOfSingle (Success (success_of o bytes))
    by Msg e b is = rw (success_of, e) (record { part = refl; goes_on = refl })
    by TagMsg e b is = rw (success_of, e) (record { part = refl; goes_on = refl })
    by WriteReq e b is = rw (success_of, e) (record { part = refl; goes_on = refl })
    by ReadReq e b is = rw (success_of, e) (record { part = refl; goes_on = refl })
    by AtomicReq e true is = rw (success_of, e, is) (record { part = refl; goes_on = refl })
    by AtomicReq e false is = rw (success_of, e, is) (record { part = refl; goes_on = refl })
    by Reply e b is = rw (success_of, e) (record { part = refl; goes_on = refl })

data_single : (outcome : Outcome) (source : ℕ) (head : ItemHead) (entry : Taken) → data_of outcome source head ≡ Some entry → IsOfSingle entry
data_single BadKey source head entry e = absurd (cc)
data_single BadAccess source head entry e = absurd (cc)
data_single BadRange source head entry e = absurd (cc)
data_single Done source head entry e = by head.kind refl head.imm refl
  where
    by : (k : Kind) → head.kind ≡ k → (o : Option ℕ) → head.imm ≡ o → IsOfSingle entry
    by Msg is o imm = let no : None ≡ Some entry = rw is at e in absurd (cc)
    by TagMsg is o imm = let no : None ≡ Some entry = rw is at e in absurd (cc)
    by ReadReq is o imm = let no : None ≡ Some entry = rw is at e in absurd (cc)
    by AtomicReq is o imm = let no : None ≡ Some entry = rw is at e in absurd (cc)
    by Reply is o imm = let no : None ≡ Some entry = rw is at e in absurd (cc)
    by WriteReq is None imm = let no : None ≡ Some entry = rw (is, imm) at e in absurd (cc)
    by WriteReq is (Some n) imm = of_some (Success (RemoteData source n)) entry (rw (is, imm) at e) (record { part = refl; goes_on = refl })

-- a reply is booked
joined_lent : (source : ℕ) (reply : Item) (rx : Receiving) (known : List (ℕ × ℕ)) (tx : Transmitting) (cq : Completions) (calls : ℕ) (multis : Members) → IsLent rx known tx cq calls multis → IsLent rx known (joining source reply tx) cq calls multis
joined_lent source reply rx known tx cq calls multis ok = lent_called rx known tx cq calls multis ok calls (joining source reply tx) (omega arith) ok.others

pub booked_lent : (due : Bool) (source : ℕ) (head : ItemHead) (rx : Receiving) (known : List (ℕ × ℕ)) (tx : Transit) (cq : Completions) (calls : ℕ) (multis : Members) → IsLent rx known tx.tx cq calls multis → IsLent rx known (booked due source head tx).tx cq calls multis
booked_lent true source head rx known tx cq calls multis ok = joined_lent source (reply_to head) rx known tx.tx cq calls multis ok
booked_lent false source head rx known tx cq calls multis ok = ok

module _ (rx : Receiving) (known : List (ℕ × ℕ)) (tx : Transmitting) (cq : Completions) (calls : ℕ) (multis : Members) (ok : IsLent rx known tx cq calls multis) where
  written_lent : (call : Option ℕ) (o : Option Taken) → ((c : ℕ) → call ≡ Some c → (c < calls) × (is_multi known c ≡ false)) → ((entry : Taken) → o ≡ Some entry → IsOfSingle entry) → IsLent rx known tx (written_if call o cq) calls multis
  written_lent call None other single = ok
  written_lent call (Some entry) other single = (let s = single entry refl in lent_other rx known tx cq calls multis ok rx (λ c is. refl) ok.coming call entry other s.part s.goes_on)

  -- the entry of an operation that ends
  end_lent : (outcome : Outcome) (bytes : List ℕ) (o : Operation) → IsOther known calls o.call → IsLent rx known tx (written_if (Some o.call) (entry_at_end outcome bytes (ended o)) cq) calls multis
  end_lent outcome bytes o other = written_lent (Some o.call) (entry_at_end outcome bytes (ended o)) (λ c of. (let same : o.call ≡ c = cc in (subst (λ (k : ℕ). k < calls) same other.0, ap (is_multi known) (sym same) ∙ other.1))) (single outcome)
    where
      well : (b : Bool) (x : Ended) (entry : Taken) → well_entry b bytes x ≡ Some entry → IsOfSingle entry
      well true x entry e = absurd (cc)
      well false x entry e = of_some (Success (success_of (as_operation x) bytes)) entry e (success_single (as_operation x) bytes)

      single : (outcome : Outcome) (entry : Taken) → entry_at_end outcome bytes (ended o) ≡ Some entry → IsOfSingle entry
      single Done entry e = well o.silent (ended o) entry e
      single BadKey entry e = of_some (error o.ctx NoKey (ended o).buf) entry e (record { part = refl; goes_on = refl })
      single BadAccess entry e = of_some (error o.ctx Access (ended o).buf) entry e (record { part = refl; goes_on = refl })
      single BadRange entry e = of_some (error o.ctx Range (ended o).buf) entry e (record { part = refl; goes_on = refl })

  -- an operation ends, where there is one, and those that waited for it go on
  pub ended_lent : (outcome : Outcome) (bytes : List ℕ) (test : Operation → Bool) (after : Transmitting) → AreApart known calls after → IsLent rx known after (cq_after outcome bytes (find test tx.live) cq) calls multis
  ended_lent outcome bytes test after others = by (find test tx.live) refl
    where
      goes_on : (cq : Completions) → IsLent rx known tx cq calls multis → IsLent rx known after cq calls multis
      goes_on cq ok = lent_called rx known tx cq calls multis ok calls after (omega arith) others

      by : (o : Option Operation) → find test tx.live ≡ o → IsLent rx known after (cq_after outcome bytes o cq) calls multis
      by None e = goes_on cq ok
      by (Some o) e = goes_on _ (end_lent outcome bytes o (other_found known calls test tx.live o ok.others.0 e))

-- ---- an item arrives

module _ (p : Parts) (ok : IsLentBy p) (is : AreOpened p.rx) (earlier : p.rx.next ≤ p.calls) where
  -- the receive that takes a message has room for it
  pub taken_into : (test : Receive → Bool) (total : ℕ) (r : Receive) → find test p.rx.rx.posted ≡ Some r → (next : Receiving) → ((c : ℕ) → is_multi p.rx.multis c ≡ true → opened next c ≡ opened p.rx.rx c) → GoesInto next p.rx.multis p.calls r.least r r.used
  taken_into test total r found next same = by r.least refl
    where
      it : IsPosted p.rx.multis r
      it = taker_is p.rx.rx p.rx.multis is.posted is.once test total r found

      by : (o : Option ℕ) → r.least ≡ o → GoesInto next p.rx.multis p.calls o r r.used
      by None single = (it.multi ∙ ap is_some single, let lt = below_found test p.rx.next p.rx.rx.posted r is.below found in omega (arith, lt, earlier))
      by (Some least) multi =
          let yes : is_multi p.rx.multis r.call ≡ true = it.multi ∙ ap is_some multi in
          (yes, same r.call yes ∙ taker_open p.rx.rx p.rx.multis is.posted is.once test total r found, it.within)

  module _ (source : ℕ) (head : ItemHead) where
    -- no receive takes the message, or this one does
    abbrev untaken : Receiving
    untaken = record {
      posted = p.rx.rx.posted;
      closing = p.rx.rx.closing;
      coming = slice_set p.rx.rx.coming source (Some Keep);
      unexpected = p.rx.rx.unexpected ++ newcomer source (slice_index p.rx.rx.heads source) head ∷ [];
      claimed = p.rx.rx.claimed;
      heads = raise p.rx.rx.heads source;
      tails = p.rx.rx.tails;
    }

    abbrev taken : Receive → Receiving
    taken r = record {
      posted = seated (is_wanted source head) head.total r p.rx.rx.posted;
      closing = p.rx.rx.closing ++ shut head.total r;
      coming = slice_set p.rx.rx.coming source (Some (Into r r.used));
      unexpected = p.rx.rx.unexpected;
      claimed = p.rx.rx.claimed;
      heads = raise p.rx.rx.heads source;
      tails = p.rx.rx.tails;
    }

    message_lent : IsLent (heading_message source head p.rx.rx) p.rx.multis p.tx.tx p.cq p.calls p.multis
    unfolding heading_message
    message_lent = by (taker source head p.rx.rx) refl
      where
        by : (o : Option Receive) → taker source head p.rx.rx ≡ o → IsLent (heading_message source head p.rx.rx) p.rx.multis p.tx.tx p.cq p.calls p.multis
        by None e = rw (heading_message, e) (
            lent_moved p.rx.rx p.rx.multis p.tx.tx p.cq p.calls p.multis ok untaken (λ c k. refl)
            (coming_set untaken p.rx.multis p.calls p.rx.rx.coming source (Some Keep) (λ s. coming_moved p.rx.rx untaken p.rx.multis p.calls (coming_from p.rx.rx s) (λ c k. refl) (ok.coming s)) tt))
        by (Some r) e =
            let same : (c : ℕ) → is_multi p.rx.multis c ≡ true → opened (taken r) c ≡ opened p.rx.rx c = seated_same p.rx.rx p.rx.multis is.posted is.once (is_wanted source head) head.total r e in
            rw (heading_message, e) (
            lent_moved p.rx.rx p.rx.multis p.tx.tx p.cq p.calls p.multis ok (taken r) same
            (coming_set (taken r) p.rx.multis p.calls p.rx.rx.coming source (Some (Into r r.used)) (λ s. coming_moved p.rx.rx (taken r) p.rx.multis p.calls (coming_from p.rx.rx s) same (ok.coming s)) (taken_into (is_wanted source head) head.total r e (taken r) same)))

    other_comes : (kind : Kind) → IsComingIn (heading_other source head.kind p.rx.rx) p.rx.multis p.calls (Some (way_of kind))
    other_comes Msg = tt
    other_comes TagMsg = tt
    other_comes WriteReq = tt
    other_comes ReadReq = tt
    other_comes AtomicReq = tt
    other_comes Reply = tt

    other_lent : IsLent (heading_other source head.kind p.rx.rx) p.rx.multis p.tx.tx p.cq p.calls p.multis
    unfolding heading_other
    other_lent =
        lent_moved p.rx.rx p.rx.multis p.tx.tx p.cq p.calls p.multis ok (heading_other source head.kind p.rx.rx) (λ c k. refl)
        (coming_set (heading_other source head.kind p.rx.rx) p.rx.multis p.calls p.rx.rx.coming source (Some (way_of head.kind)) (λ s. coming_moved p.rx.rx (heading_other source head.kind p.rx.rx) p.rx.multis p.calls (coming_from p.rx.rx s) (λ c k. refl) (ok.coming s)) (other_comes head.kind))

    pub heading_lent : IsLentBy (heading source head p)
    heading_lent = by (is_message head.kind) refl
      where
        by : (b : Bool) → is_message head.kind ≡ b → IsLentBy (heading source head p)
        by true message = rw message message_lent
        by false other = rw other other_lent

-- ---- it is whole

module _ (p : Parts) (ok : IsLentBy p) (is : AreOpened p.rx) (source : ℕ) (item : Item) where
  abbrev gone : Receiving
  gone = made_whole source p.rx.rx

  gone_coming : (next : Receiving) → ((c : ℕ) → is_multi p.rx.multis c ≡ true → opened next c ≡ opened p.rx.rx c) → (s : ℕ) → IsComingIn next p.rx.multis p.calls (get_or (set p.rx.rx.coming source None) s None)
  gone_coming next same = coming_set next p.rx.multis p.calls p.rx.rx.coming source None (λ s. coming_moved p.rx.rx next p.rx.multis p.calls (coming_from p.rx.rx s) same (ok.coming s)) tt

  gone_lent : IsLent gone p.rx.multis p.tx.tx p.cq p.calls p.multis
  unfolding made_whole
  gone_lent = lent_moved p.rx.rx p.rx.multis p.tx.tx p.cq p.calls p.multis ok gone (λ c k. refl) (gone_coming gone (λ c k. refl))

  kept_lent : (bytes : List ℕ) → IsLent (keeping source bytes gone) p.rx.multis p.tx.tx p.cq p.calls p.multis
  unfolding made_whole keeping
  kept_lent bytes = lent_moved p.rx.rx p.rx.multis p.tx.tx p.cq p.calls p.multis ok (keeping source bytes gone) (λ c k. refl) (gone_coming (keeping source bytes gone) (λ c k. refl))

  module _ (r : Receive) (place : ℕ) (bytes : List ℕ) (goes : GoesInto p.rx.rx p.rx.multis p.calls r.least r place) where
    -- the message is in the receive
    abbrev full : Receiving
    full = filling r place bytes gone

    received_single : IsLent gone p.rx.multis p.tx.tx (writing (Some r.call) (entry_of r place source item.head item.bytes) p.cq) p.calls p.multis
    unfolding made_whole
    received_single = lent_received p.rx.rx p.rx.multis p.tx.tx p.cq p.calls p.multis ok gone (λ c k. refl) (gone_coming gone (λ c k. refl)) r place source item.head item.bytes goes

    full_same : (c : ℕ) → opened full c ≡ opened p.rx.rx c
    unfolding made_whole
    full_same c = filling_same r place bytes gone c

    received_full : IsLent full p.rx.multis p.tx.tx (writing (Some r.call) (entry_of r place source item.head item.bytes) p.cq) p.calls p.multis
    unfolding made_whole
    received_full = lent_received p.rx.rx p.rx.multis p.tx.tx p.cq p.calls p.multis ok full (λ c k. full_same c) (gone_coming full (λ c k. full_same c)) r place source item.head item.bytes goes

    -- the last one of a multi-receive that is closing
    module _ (least : ℕ) (multi : r.least ≡ Some least) (x : Receive) (last : closed_by r.call full ≡ Some x) where
      some_there : seek r.call p.rx.rx.closing ≡ Some (sized x)
      unfolding made_whole
      some_there = sym (fill_same r place bytes r.call p.rx.rx.closing) ∙ closed_seek r.call full x last

      none_posted : seek r.call full.posted ≡ None
      unfolding made_whole
      none_posted = fill_same r place bytes r.call p.rx.rx.posted ∙ seek_apart r.call (sized x) p.rx.rx.posted p.rx.rx.closing is.once some_there

      distinct_full : AreDistinct full.closing
      unfolding made_whole
      distinct_full = by (Some least) multi
        where
          by : (o : Option ℕ) → r.least ≡ o → AreDistinct (fill_multi r place bytes p.rx.rx.closing)
          by None single = rw (single, fill_multi) (distinct_right p.rx.rx.posted p.rx.rx.closing is.once)
          by (Some least) multi = rw (multi, fill_multi) (distinct_changed (is_made_by r.call) (filled place bytes) (λ q. refl) p.rx.rx.closing (distinct_right p.rx.rx.posted p.rx.rx.closing is.once))

      rest_none : seek r.call (remove_first (is_made_by r.call) full.closing) ≡ None
      rest_none = subst (λ (k : ℕ). seek k (remove_first (is_made_by r.call) full.closing) ≡ None) (closed_call r.call full x last) (seek_gone (is_made_by r.call) full.closing x distinct_full (closed_found r.call full x last))

      known_multi : is_multi p.rx.multis r.call ≡ true
      known_multi = (subst (λ (o : Option ℕ). GoesInto p.rx.rx p.rx.multis p.calls o r place) multi goes).0

      closed_lent : IsLent (without_closed r.call full) p.rx.multis p.tx.tx (writing (Some x.call) (Success (Released x.ctx x.used x.buf)) (writing (Some r.call) (entry_of r place source item.head item.bytes) p.cq)) p.calls
          (let_go (unwrap_or (id_in p.rx.multis x.call) 0) (unread_of (writing (Some r.call) (entry_of r place source item.head item.bytes) p.cq)) p.multis)
      closed_lent = lent_closed full p.rx.multis p.tx.tx (writing (Some r.call) (entry_of r place source item.head item.bytes) p.cq) p.calls p.multis received_full r.call x last none_posted rest_none known_multi (λ s. ap (λ xs. get_or xs s None) (closed_coming r.call full))

    -- the parts, with the message in the receive
    abbrev with_message : Receiving → Parts
    with_message rx = received (Some r.call) (at_either item.head.ack) (completed r place source item.head item.bytes) (with_arriving (record { rx = rx; begun = slice_set p.rx.begun source None; most = p.rx.most; next = p.rx.next; multis = p.rx.multis }) p)

    into_by : (o : Option ℕ) → r.least ≡ o → IsLentBy (let_back (closed_if o r.call (filling r place bytes gone)) (with_message (shared o r place bytes gone)))
    into_by None single = booked_lent (at_either item.head.ack) source item.head gone p.rx.multis p.tx (writing (Some r.call) (entry_of r place source item.head item.bytes) p.cq) p.calls p.multis received_single
    into_by (Some least) multi = by (closed_by r.call full) refl
      where
        by : (c : Option Receive) → closed_by r.call full ≡ c → IsLentBy (let_back (closed_by r.call full) (with_message (without_closed r.call full)))
        by None none = subst (λ (c : Option Receive). IsLentBy (let_back c (with_message (without_closed r.call full)))) (sym none)
            (subst (λ (rx : Receiving). IsLentBy (with_message rx)) (sym (unclosed_same r.call full none)) (booked_lent (at_either item.head.ack) source item.head full p.rx.multis p.tx (writing (Some r.call) (entry_of r place source item.head item.bytes) p.cq) p.calls p.multis received_full))
        by (Some x) last = subst (λ (c : Option Receive). IsLentBy (let_back c (with_message (without_closed r.call full)))) (sym last)
            (booked_lent (at_either item.head.ack) source item.head (without_closed r.call full) p.rx.multis p.tx (writing (Some x.call) (Success (Released x.ctx x.used x.buf)) (writing (Some r.call) (entry_of r place source item.head item.bytes) p.cq)) p.calls
            (let_go (unwrap_or (id_in p.rx.multis x.call) 0) (unread_of (writing (Some r.call) (entry_of r place source item.head item.bytes) p.cq)) p.multis) (closed_lent least multi x last))

  tail_by : (c : Option Coming) → coming_from p.rx.rx source ≡ c → IsLentBy (tail source item p)
  tail_by None e = rw e (booked_lent (at_either item.head.ack) source item.head gone p.rx.multis p.tx p.cq p.calls p.multis gone_lent)
  tail_by (Some (Into r place)) e =
      let goes : GoesInto p.rx.rx p.rx.multis p.calls r.least r place = subst (λ (c : Option Coming). IsComingIn p.rx.rx p.rx.multis p.calls c) e (ok.coming source) in
      rw e (into_by r place (bytes_come (begun_of p.rx source)) goes r.least refl)
  tail_by (Some Keep) e = rw e (booked_lent (at_delivery item.head.ack) source item.head (keeping source (bytes_come (begun_of p.rx source)) gone) p.rx.multis p.tx p.cq p.calls p.multis (kept_lent (bytes_come (begun_of p.rx source))))
  tail_by (Some Throw) e = rw e (booked_lent (at_either item.head.ack) source item.head gone p.rx.multis p.tx p.cq p.calls p.multis gone_lent)
  tail_by (Some Request) e = rw e (joined_lent source (reply_of item.head (perform p.target.regions item.head item.bytes)) gone p.rx.multis p.tx.tx _ p.calls p.multis
      (written_lent gone p.rx.multis p.tx.tx p.cq p.calls p.multis gone_lent None (data_of (outcome_at p.target.regions item.head) source item.head) (λ c of. absurd (cc)) (data_single (outcome_at p.target.regions item.head) source item.head)))
  tail_by (Some Answer) e = rw e (ended_lent gone p.rx.multis p.tx.tx p.cq p.calls p.multis gone_lent item.head.outcome item.bytes (is_answered_by p.tx.tx source item.head) (answered source item.head p.tx.tx) (answered_apart p.rx.multis p.calls source item.head p.tx.tx ok.others))

  pub tail_lent : IsLentBy (tail source item p)
  tail_lent = tail_by (coming_from p.rx.rx source) refl

-- ---- an item is transmitted

pub sent_lent : (p : Parts) → IsLentBy p → (dest : ℕ) → IsLentBy (sent dest p)
sent_lent p ok dest = ended_lent p.rx.rx p.rx.multis p.tx.tx p.cq p.calls p.multis ok Done [] (is_of_item dest (slice_index p.tx.tx.sent dest)) (transmitted dest p.tx.tx) (transmitted_apart p.rx.multis p.calls dest p.tx.tx ok.others)

-- ---- a call is accepted

module _ (rx : Receiving) (known : List (ℕ × ℕ)) (tx : Transmitting) (cq : Completions) (calls : ℕ) (multis : Members) (ok : IsLent rx known tx cq calls multis) where
  pub this_other : is_multi known calls ≡ false
  this_other = by (is_multi known calls) refl
    where
      by : (b : Bool) → is_multi known calls ≡ b → is_multi known calls ≡ false
      by true is = let lt = ok.early calls is in absurd (omega (arith, lt))
      by false is = is

  others_more : AreApart known (calls + 1) tx
  others_more = (λ k d lt. later _ (ok.others.0 k d lt), λ t k d lt. later _ (ok.others.1 t k d lt))
    where
      later : (call : ℕ) → IsOther known calls call → IsOther known (calls + 1) call
      later call other = (let below = other.0 in omega (arith, below), other.1)

  -- a call that transmits nothing, and one that does
  pub called_lent : IsLent rx known tx cq (calls + 1) multis
  called_lent = lent_called rx known tx cq calls multis ok (calls + 1) tx (omega arith) others_more

  pub accepted_lent : (t : ℕ) (h : Held) → h.call ≡ calls → IsLent rx known (accepting t h tx) cq (calls + 1) multis
  accepted_lent t h this = lent_called rx known tx cq calls multis ok (calls + 1) (accepting t h tx) (omega arith)
      (accepting_apart known (calls + 1) t h tx (omega (arith, this), ap (is_multi known) this ∙ this_other) others_more)

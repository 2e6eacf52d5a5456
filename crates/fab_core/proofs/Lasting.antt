-- What holds of multi-receives, as the calls of a core find it and leave it.
use Rattle.std.proofs.Common.{◌≡◌, ℕ, ◌+◌, ◌≤◌, List, [], length, Option, Some, None, refl, sym, ap, subst, ◌∙◌, arith}
use Rattle.std.specs.Prelude.{is_some, slice_index, OnErr, OnOk, Result, Ok, Err}
use Rattle.std.specs.Option.{option_map}
use Rattle.std.proofs.lemmas.List.Elements.{All-nil}
use Rattle.fab_base.specs.declared.entries.Entry.{Entry}
use Rattle.fab_base.specs.declared.entries.ErrEntry.{ErrEntry}
use Rattle.fab_base.specs.declared.entries.ErrKind.TheVariants.{Canceled}
use Rattle.fab_base.specs.declared.entries.Taken.{Taken}
use Rattle.fab_base.specs.declared.entries.Taken.TheVariants.{Success, Failure}
use Rattle.fab_base.specs.declared.faults.Fault.{Fault}
use Rattle.fab_base.specs.declared.faults.Fault.TheVariants.{Avail, NoEntry}
use Rattle.fab_base.specs.declared.faults.NoMemory.{NoMemory}
use Rattle.fab_base.specs.declared.items.ItemHead.{ItemHead}
use Rattle.fab_base.specs.declared.items.Outcome.TheVariants.{Done}
use Rattle.fab_base.specs.declared.operations.Arrival.{Arrival}
use Rattle.fab_base.specs.declared.operations.Coming.{Coming}
use Rattle.fab_base.specs.declared.operations.Held.{Held}
use Rattle.fab_base.specs.declared.operations.Operation.{Operation}
use Rattle.fab_base.specs.declared.operations.Receive.{Receive}
use Rattle.fab_base.specs.declared.operations.Written.{Written}
use Rattle.fab_model.specs.State.{Completions, Receiving, Transmitting, coming_from, writing}
use Rattle.fab_model.specs.Complete.{error}
use Rattle.fab_base.specs.Kinds.{at_match}
use Rattle.fab_model.specs.Receiving.{cancellable, without_posted}
use Rattle.fab_model.specs.Peers.{unread}
use Rattle.fab_model.specs.Sending.{accepting, ending}
use Rattle.fab_cq.specs.Queues.{error_of, nothing_written, success_of, taking_out}
use Rattle.fab_rx.specs.Arriving.{Arriving, arriving, begun_of, nothing_arrived, with_receiving}
use Rattle.fab_rx.specs.Results.{cancelled, completed, posted_as}
use Rattle.fab_rx.specs.Leaving.{is_meant}
use Rattle.fab_rx.specs.declared.results.Cancelled.{Cancelled}
use Rattle.fab_rx.specs.Opened.{AreOpened}
use Rattle.fab_rx.specs.declared.results.Completed.{Completed}
use Rattle.fab_rx.specs.declared.results.Posted.TheVariants.{GoesOn, Whole}
use Rattle.fab_rx.proofs.Known.{none_in_row}
use Rattle.fab_tx.specs.Transit.{Transit, ended, finishing, nothing_accepted}
use Rattle.fab_tx.specs.declared.results.Ended.{Ended}
use Rattle.fab_tx.proofs.Answering.{replicate_get}
use Rattle.fab_face.specs.Acts.{has_read}
use Rattle.fab_face.specs.Answers.{PopsNot}
use Rattle.fab_core.specs.Parts.{IsFitting, IsTogether, Parts, held_of, owed}
use Rattle.fab_settling.specs.Ends.{entry_at_end, unread_of, written_if}
use Rattle.fab_core.specs.Doing.{given_found, received}
use Rattle.fab_settling.specs.Members.{Members, let_any_go, nobody, read_by}
use Rattle.fab_core.specs.Lent.{IsLent, IsLentBy, IsOther}
use Rattle.fab_core.proofs.Lending.{lent_read}
use Rattle.fab_core.proofs.Together.{together_with}
use Rattle.fab_core.proofs.Posting.{left_lent}
use Rattle.fab_core.proofs.Standing.{accepted_lent, heading_lent, sent_lent}

-- ---- nothing has happened

pub lent_begins : (rx : Arriving) (tx : Transit) (cq : Completions) (calls : ℕ) (multis : Members) (peers most_rx most_tx size room : ℕ) → rx ≡ nothing_arrived peers most_rx → tx ≡ nothing_accepted peers most_tx → cq ≡ nothing_written size → calls ≡ 0 → multis ≡ nobody room
    → IsLent rx.rx rx.multis tx.tx cq calls multis
lent_begins rx tx cq calls multis peers most_rx most_tx size room is_rx is_tx is_cq is_calls is_multis = rw (is_rx, is_tx, is_cq, is_calls, is_multis) (record {
  made = λ i w call e of. absurd (cc);
  early = λ call e. absurd (cc);
  others = (All-nil (λ (o : Operation). IsOther [] 0 o.call), λ t. rw (replicate_get {X = List Held} peers t []) (All-nil (λ (h : Held). IsOther [] 0 h.call)));
  posted = λ m there. (let lt = there.1 in absurd (omega (arith, lt)));
  once = λ c d call there other. (let lt = there.1 in absurd (omega (arith, lt)));
  stands = λ call x e is. absurd (cc);
  coming = λ s. rw (none_in_row {X = Coming} peers s) tt;
  unread = λ i w le e. absurd (cc);
  last = λ i j w u call le lt e. absurd (cc);
  taken = omega arith;
  placed = tt;
  single = tt;
})

-- ---- calls

pub accepting_lent : (rx : Receiving) (known : List (ℕ × ℕ)) (tx : Transmitting) (cq : Completions) (calls : ℕ) (multis : Members) → IsLent rx known tx cq calls multis → (t : ℕ) (h : Held) → h.call ≡ calls → IsLent rx known (accepting t h tx) cq (calls + 1) multis
accepting_lent rx known tx cq calls multis ok t h this = accepted_lent rx known tx cq calls multis ok t h this

module _ (p : Parts) (ok : IsLentBy p) where
  -- an item is transmitted
  pub transmitted_some : (dest : ℕ) (e : Ended) → Some e ≡ option_map ended (ending dest p.tx.tx) → IsLent p.rx.rx p.rx.multis (finishing dest p.tx).tx (written_if (option_map (λ o. o.call) (ending dest p.tx.tx)) (entry_at_end Done [] e) p.cq) p.calls p.multis
  transmitted_some dest e is = by (ending dest p.tx.tx) refl
    where
      by : (o : Option Operation) → ending dest p.tx.tx ≡ o → IsLent p.rx.rx p.rx.multis (finishing dest p.tx).tx (written_if (option_map (λ o. o.call) (ending dest p.tx.tx)) (entry_at_end Done [] e) p.cq) p.calls p.multis
      by None none = let no : Some e ≡ None = is ∙ ap (option_map ended) none in absurd (cc)
      by (Some o) some =
          let both : Some e ≡ Some (ended o) = is ∙ ap (option_map ended) some in
          let same : e ≡ ended o = cc in
          rw (some, same) (rw some at (sent_lent p ok dest))

  pub transmitted_none : (dest : ℕ) (e : Option Ended) → e ≡ option_map ended (ending dest p.tx.tx) → ((x : Ended) → e ≡ Some x → ⊥) → IsLent p.rx.rx p.rx.multis (finishing dest p.tx).tx p.cq p.calls p.multis
  transmitted_none dest e is none = by (ending dest p.tx.tx) refl
    where
      by : (o : Option Operation) → ending dest p.tx.tx ≡ o → IsLent p.rx.rx p.rx.multis (finishing dest p.tx).tx p.cq p.calls p.multis
      by None nothing = rw nothing at (sent_lent p ok dest)
      by (Some o) some = absurd (none (ended o) (is ∙ ap (option_map ended) some))

  -- an item arrives, where there is memory
  pub arrives_lent : AreOpened p.rx → p.rx.next ≤ p.calls → (source : ℕ) (head : ItemHead) (r : Result (Unit {0}) NoMemory) (v : Arriving) → OnOk r (v ≡ arriving source head p.rx) → OnErr r (v ≡ p.rx) → IsLent v.rx v.multis p.tx.tx p.cq p.calls p.multis
  arrives_lent is earlier source head (Ok u) v done same = rw done (heading_lent p ok is earlier source head)
  arrives_lent is earlier source head (Err why) v done same = rw same ok

  -- a posted receive leaves
  pub left_some : AreOpened p.rx → p.rx.next ≤ p.calls → (ctx : Option ℕ) (x : Cancelled) → Some x ≡ option_map (cancelled p.rx) (cancellable (is_meant ctx) p.rx.rx)
      → IsLent (without_posted (is_meant ctx) p.rx.rx) p.rx.multis p.tx.tx (writing (option_map (λ r. r.call) (cancellable (is_meant ctx) p.rx.rx)) (error (Some x.ctx) Canceled (Some x.buf)) p.cq) (p.calls + 1) (let_any_go x.id (unread_of p.cq) p.multis)
  left_some is earlier ctx x left = by (cancellable (is_meant ctx) p.rx.rx) refl
    where
      by : (o : Option Receive) → cancellable (is_meant ctx) p.rx.rx ≡ o
          → IsLent (without_posted (is_meant ctx) p.rx.rx) p.rx.multis p.tx.tx (writing (option_map (λ r. r.call) (cancellable (is_meant ctx) p.rx.rx)) (error (Some x.ctx) Canceled (Some x.buf)) p.cq) (p.calls + 1) (let_any_go x.id (unread_of p.cq) p.multis)
      by None none = let no : Some x ≡ None = left ∙ ap (option_map (cancelled p.rx)) none in absurd (cc)
      by (Some r) some =
          let both : Some x ≡ Some (cancelled p.rx r) = left ∙ ap (option_map (cancelled p.rx)) some in
          let same : x ≡ cancelled p.rx r = cc in
          rw (some, same) (rw some at (left_lent p ok is ctx earlier (ap is_some some)))

  -- the first unread entry is read
  read_lent : (w : Written) → unread p.cq ≡ Some w → IsLent p.rx.rx p.rx.multis p.tx.tx (taking_out p.cq) p.calls (read_by (unread p.cq) p.multis)
  read_lent w first = subst (λ (o : Option Written). IsLent p.rx.rx p.rx.multis p.tx.tx (taking_out p.cq) p.calls (read_by o p.multis)) (sym first) (lent_read p.rx.rx p.rx.multis p.tx.tx p.cq p.calls p.multis ok w first)

  pub popped_lent : (entry : Entry) → Ok entry ≡ success_of (unread p.cq) → IsLent p.rx.rx p.rx.multis p.tx.tx (taking_out p.cq) p.calls (read_by (unread p.cq) p.multis)
  popped_lent entry is = by (unread p.cq) refl
    where
      by : (o : Option Written) → unread p.cq ≡ o → IsLent p.rx.rx p.rx.multis p.tx.tx (taking_out p.cq) p.calls (read_by (unread p.cq) p.multis)
      by None none = let no = is ∙ ap success_of none in absurd (cc)
      by (Some w) first = read_lent w first

  pub popped_error_lent : (entry : ErrEntry) → Ok entry ≡ error_of (unread p.cq) → IsLent p.rx.rx p.rx.multis p.tx.tx (taking_out p.cq) p.calls (read_by (unread p.cq) p.multis)
  popped_error_lent entry is = by (unread p.cq) refl
    where
      by : (o : Option Written) → unread p.cq ≡ o → IsLent p.rx.rx p.rx.multis p.tx.tx (taking_out p.cq) p.calls (read_by (unread p.cq) p.multis)
      by None none = let no = is ∙ ap error_of none in absurd (cc)
      by (Some w) first = read_lent w first

  -- what is left of it
  abbrev read_from : Parts
  read_from = record p { cq = taking_out p.cq; multis = read_by (unread p.cq) p.multis }

  read_is : (entry : Taken) (w : Written) → unread p.cq ≡ Some w → w.entry ≡ entry → (w : Written) × (unread p.cq ≡ Some w) × (w.entry ≡ entry) × (held_of read_from ≡ has_read w (held_of p))
  read_is entry w first is = (w, first, is, ap (λ (o : Option Written). held_of (record p { cq = taking_out p.cq; multis = read_by o p.multis })) first)

  pub popped_is : (entry : Entry) → Ok entry ≡ success_of (unread p.cq) → (w : Written) × (unread p.cq ≡ Some w) × (w.entry ≡ Success entry) × (held_of read_from ≡ has_read w (held_of p))
  popped_is entry is = by (unread p.cq) refl
    where
      of : (w : Written) (e : Taken) → w.entry ≡ e → Ok entry ≡ success_of (Some w) → w.entry ≡ Success entry
      of w (Success x) e same = let both : Ok entry ≡ Ok x = rw e at same in let one : entry ≡ x = cc in e ∙ ap (λ (x : Entry). Success x) (sym one)
      of w (Failure x) e same = let no = rw e at same in absurd (cc)

      by : (o : Option Written) → unread p.cq ≡ o → (w : Written) × (unread p.cq ≡ Some w) × (w.entry ≡ Success entry) × (held_of read_from ≡ has_read w (held_of p))
      by None none = let no = is ∙ ap success_of none in absurd (cc)
      by (Some w) first = read_is (Success entry) w first (of w w.entry refl (is ∙ ap success_of first))

  pub popped_error_is : (entry : ErrEntry) → Ok entry ≡ error_of (unread p.cq) → (w : Written) × (unread p.cq ≡ Some w) × (w.entry ≡ Failure entry) × (held_of read_from ≡ has_read w (held_of p))
  popped_error_is entry is = by (unread p.cq) refl
    where
      of : (w : Written) (e : Taken) → w.entry ≡ e → Ok entry ≡ error_of (Some w) → w.entry ≡ Failure entry
      of w (Failure x) e same = let both : Ok entry ≡ Ok x = rw e at same in let one : entry ≡ x = cc in e ∙ ap (λ (x : ErrEntry). Failure x) (sym one)
      of w (Success x) e same = let no = rw e at same in absurd (cc)

      by : (o : Option Written) → unread p.cq ≡ o → (w : Written) × (unread p.cq ≡ Some w) × (w.entry ≡ Failure entry) × (held_of read_from ≡ has_read w (held_of p))
      by None none = let no = is ∙ ap error_of none in absurd (cc)
      by (Some w) first = read_is (Failure entry) w first (of w w.entry refl (is ∙ ap error_of first))

pub pops_not : (cq : Completions) (why : Fault) → Err why ≡ success_of (unread cq) → PopsNot cq why
pops_not cq why is = by (unread cq) refl
  where
    of : (w : Written) → unread cq ≡ Some w → (e : Taken) → w.entry ≡ e → Err why ≡ success_of (Some w) → PopsNot cq why
    of w first (Success x) e same = let no = rw e at same in absurd (cc)
    of w first (Failure x) e same = let both : Err why ≡ Err Avail = rw e at same in let one : why ≡ Avail = cc in subst (PopsNot cq) (sym one) (w, first, (x, e))

    by : (o : Option Written) → unread cq ≡ o → PopsNot cq why
    by None none = let both : Err why ≡ Err NoEntry = is ∙ ap success_of none in let one : why ≡ NoEntry = cc in subst (PopsNot cq) (sym one) none
    by (Some w) first = of w first w.entry refl (is ∙ ap success_of first)

-- a posted receive leaves, and the parts belong together
pub left_together : (p q : Parts) → IsTogether p → (ctx : Option ℕ) → q.rx ≡ with_receiving (without_posted (is_meant ctx) p.rx.rx) p.rx → q.cq.size ≡ p.cq.size → q.tx ≡ p.tx → q.av ≡ p.av → q.calls ≡ p.calls + 1 → IsTogether q
left_together p q ok ctx rx size tx av calls =
    let earlier = ok.earlier in
    let next : q.rx.next ≡ p.rx.next = ap (λ (v : Arriving). v.next) rx in
    together_with p q ok size (ap (λ (t : Transit). length t.tx.sent) tx) av (ap (λ (v : Arriving). length v.begun) rx) (omega (arith, earlier, next, calls))
    (λ s. subst (λ (v : Arriving). IsFitting (coming_from v.rx s) (begun_of v s)) (sym rx) (ok.fitting s))
    (λ s. subst (λ (v : Arriving). owed s v ≤ slice_index q.tx.rooms s) (sym rx) (subst (λ (t : Transit). owed s p.rx ≤ slice_index t.rooms s) (sym tx) (ok.rooms s)))

-- ---- a receive gets a message

module _ (r : Receive) (q : Parts) where
  pub whole_given : (o : Option Arrival) (x : Completed) → posted_as r o ≡ Whole x → given_found o r q ≡ received (Some r.call) (at_match x.head.ack) x q
  whole_given None x is = absurd (cc)
  whole_given (Some a) x is = by a.bytes refl
    where
      by : (b : Option (List ℕ)) → a.bytes ≡ b → given_found (Some a) r q ≡ received (Some r.call) (at_match x.head.ack) x q
      by None e = let no : GoesOn ≡ Whole x = rw e at is in absurd (cc)
      by (Some bytes) e =
          let both : Whole (completed r 0 a.source a.head bytes) ≡ Whole x = rw e at is in
          let same : completed r 0 a.source a.head bytes ≡ x = cc in
          rw e (ap (λ (x : Completed). received (Some r.call) (at_match x.head.ack) x q) same)

  pub going_given : (o : Option Arrival) → ((x : Completed) → posted_as r o ≡ Whole x → ⊥) → given_found o r q ≡ q
  going_given None never = refl
  going_given (Some a) never = by a.bytes refl
    where
      by : (b : Option (List ℕ)) → a.bytes ≡ b → given_found (Some a) r q ≡ q
      by None e = rw e refl
      by (Some bytes) e = absurd (never (completed r 0 a.source a.head bytes) (rw e refl))

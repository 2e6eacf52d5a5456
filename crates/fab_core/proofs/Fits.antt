-- Whether the completions of a step have room.
use Rattle.std.proofs.Common.{◌≡◌, ℕ, ◌≤◌, Bool, true, false, not, ◌&&◌, ◌||◌, List, [], ◌∷◌, ◌++◌, length, length-append, Option, Some, None, refl, ap, ◌∙◌, arith}
use Rattle.std.specs.Prelude.{is_some, nat_le}
use Rattle.std.proofs.lemmas.Bool.{le-leb, leb-true}
use Rattle.fab_base.specs.declared.entries.ErrKind.{ErrKind}
use Rattle.fab_base.specs.declared.entries.Taken.{Taken}
use Rattle.fab_base.specs.declared.items.Item.{Item}
use Rattle.fab_base.specs.declared.items.Outcome.{Outcome}
use Rattle.fab_base.specs.declared.items.Outcome.TheVariants.{Done}
use Rattle.fab_base.specs.declared.operations.Coming.{Coming}
use Rattle.fab_base.specs.declared.operations.Coming.TheVariants.{Into, Keep, Throw, Request, Answer}
use Rattle.fab_base.specs.declared.operations.Operation.{Operation}
use Rattle.fab_model.specs.State.{Completions, State, coming_from, fits, writing}
use Rattle.fab_model.specs.Sending.{do_sent, ending}
use Rattle.fab_base.specs.Kinds.{refusal_of}
use Rattle.fab_cq.specs.Queues.{has_room}
use Rattle.fab_base.specs.declared.operations.Receive.{Receive}
use Rattle.fab_model.specs.Arrivals.{made_whole}
use Rattle.fab_rx.specs.Arriving.{begun_of, bytes_come, finishing}
use Rattle.fab_rx.specs.Results.{last_by, last_of}
use Rattle.fab_tx.specs.Transit.{ended, finds_answered, writes_when_sent}
use Rattle.fab_tx.specs.declared.results.Ended.{Ended}
use Rattle.fab_rma.specs.Serving.{outcome_at}
use Rattle.fab_core.specs.Parts.{Parts, state_of}
use Rattle.fab_core.proofs.Doing.{sent_is}
use Rattle.fab_settling.specs.Ends.{answer_writes, cq_after, entry_at_end, writes_end, written_if}
use Rattle.fab_core.specs.Doing.{answered, lacks_at_tail, sent, tail, whole, with_arriving, writes_at_tail}
use Rattle.fab_settling.specs.Served.{data_of}
use Rattle.fab_core.proofs.Serves.{writes_told}

-- an end writes a completion unless it is silent and a success
pub writes_entry : (outcome : Outcome) (bytes : List ℕ) (e : Ended) → is_some (entry_at_end outcome bytes e) ≡ writes_end outcome e.silent
writes_entry outcome bytes e = by (refusal_of outcome) refl e.silent refl
  where
    by : (k : Option ErrKind) → refusal_of outcome ≡ k → (b : Bool) → e.silent ≡ b → is_some (entry_at_end outcome bytes e) ≡ writes_end outcome e.silent
    by (Some kind) is true silent = rw (is, silent, entry_at_end) refl
    by (Some kind) is false silent = rw (is, silent, entry_at_end) refl
    by None is true silent = rw (is, silent, entry_at_end) refl
    by None is false silent = rw (is, silent, entry_at_end) refl

module _ (cq : Completions) (read : cq.taken_out ≤ length cq.written) (now : fits cq ≡ true) where
  pub fits_writing : (call : Option ℕ) (entry : Taken) → fits (writing call entry cq) ≡ has_room 1 cq
  fits_writing call entry = ap (λ n. nat_le n cq.size) (let l = length-append cq.written (record { call = call; entry = entry } ∷ []) in omega (arith, l, read))

  pub fits_two : (a b : Option ℕ) (x y : Taken) → fits (writing b y (writing a x cq)) ≡ has_room 2 cq
  fits_two a b x y = ap (λ n. nat_le n cq.size) (
      let l = length-append cq.written (record { call = a; entry = x } ∷ []) in
      let m = length-append (cq.written ++ record { call = a; entry = x } ∷ []) (record { call = b; entry = y } ∷ []) in
      omega (arith, l, m, read))

  fits_if : (call : Option ℕ) (o : Option Taken) → fits (written_if call o cq) ≡ not (is_some o) || has_room 1 cq
  fits_if call None = now
  fits_if call (Some entry) = fits_writing call entry

  -- the end of an operation, where there is one
  fits_end : (outcome : Outcome) (bytes : List ℕ) (o : Operation) → fits (cq_after outcome bytes (Some o) cq) ≡ not (writes_end outcome o.silent) || has_room 1 cq
  fits_end outcome bytes o = fits_if (Some o.call) (entry_at_end outcome bytes (ended o)) ∙ ap (λ b. not b || has_room 1 cq) (writes_entry outcome bytes (ended o))

module _ (p : Parts) (read : p.cq.taken_out ≤ length p.cq.written) (now : fits p.cq ≡ true) where
  pub fits_sent : (dest : ℕ) → fits (sent dest p).cq ≡ not (writes_when_sent (ending dest p.tx.tx)) || has_room 1 p.cq
  fits_sent dest = by (ending dest p.tx.tx) refl
    where
      by : (o : Option Operation) → ending dest p.tx.tx ≡ o → fits (sent dest p).cq ≡ not (writes_when_sent (ending dest p.tx.tx)) || has_room 1 p.cq
      by None e = rw e now
      by (Some o) e = rw e (fits_end p.cq read now Done [] o ∙ ap (λ b. not b || has_room 1 p.cq) (loud o.silent))
        where
          loud : (b : Bool) → writes_end Done b ≡ not b
          loud true = refl
          loud false = refl

  -- the transmission of the next item for a peer
  pub fits_do_sent : (dest : ℕ) → fits (do_sent (state_of p) dest).cq ≡ not (writes_when_sent (ending dest p.tx.tx)) || has_room 1 p.cq
  fits_do_sent dest = ap (λ (s : State). fits s.cq) (sent_is p dest) ∙ fits_sent dest

  fits_answered : (source : ℕ) (item : Item) → fits (answered source item p).cq ≡ not (answer_writes source item.head p.tx.tx) || has_room 1 p.cq
  fits_answered source item = by (finds_answered source item.head p.tx.tx) refl
    where
      by : (o : Option Operation) → finds_answered source item.head p.tx.tx ≡ o → fits (answered source item p).cq ≡ not (answer_writes source item.head p.tx.tx) || has_room 1 p.cq
      by None e = rw (e, answer_writes) now
      by (Some o) e = rw (e, answer_writes) (fits_end p.cq read now item.head.outcome item.bytes o)

  -- what the item writes besides the buffer that comes back
  fits_whole : (source : ℕ) (item : Item) → fits (whole (coming_from p.rx.rx source) source item (with_arriving (finishing source p.rx) p)).cq ≡ not (writes_at_tail (coming_from p.rx.rx source) source item.head p.tx.tx p.target.regions) || has_room 1 p.cq
  fits_whole source item = by (coming_from p.rx.rx source) refl
    where
      by : (c : Option Coming) → coming_from p.rx.rx source ≡ c → fits (whole (coming_from p.rx.rx source) source item (with_arriving (finishing source p.rx) p)).cq ≡ not (writes_at_tail (coming_from p.rx.rx source) source item.head p.tx.tx p.target.regions) || has_room 1 p.cq
      by None e = rw e now
      by (Some (Into r place)) e = rw e (fits_writing p.cq read now (Some r.call) _)
      by (Some Keep) e = rw e now
      by (Some Throw) e = rw e now
      by (Some Request) e = rw e (fits_if p.cq read now None (data_of (outcome_at p.target.regions item.head) source item.head) ∙ ap (λ b. not b || has_room 1 p.cq) (writes_told (outcome_at p.target.regions item.head) source item.head))
      by (Some Answer) e = rw e (fits_answered source item)

  -- where a buffer comes back, one entry is written before it
  fits_last : (source : ℕ) (item : Item) (r : Receive) → last_of source p.rx ≡ Some r → fits (tail source item p).cq ≡ has_room 2 p.cq
  fits_last source item r last = by (coming_from p.rx.rx source) refl
    where
      none : (c : Option Coming) → coming_from p.rx.rx source ≡ c → last_by c (bytes_come (begun_of p.rx source)) (made_whole source p.rx.rx) ≡ None → ⊥
      none c e without = (let f : last_of source p.rx ≡ None = rw e without in absurd (cc))

      by : (c : Option Coming) → coming_from p.rx.rx source ≡ c → fits (tail source item p).cq ≡ has_room 2 p.cq
      by None e = absurd (none None e refl)
      by (Some (Into x place)) e = rw (last, e) (fits_two p.cq read now (Some x.call) (Some r.call) _ _)
      by (Some Keep) e = absurd (none (Some Keep) e refl)
      by (Some Throw) e = absurd (none (Some Throw) e refl)
      by (Some Request) e = absurd (none (Some Request) e refl)
      by (Some Answer) e = absurd (none (Some Answer) e refl)

  pub fits_tail : (source : ℕ) (item : Item) → fits (tail source item p).cq ≡ not (lacks_at_tail p.rx source item.head p)
  fits_tail source item = by (last_of source p.rx) refl
    where
      alone : (w r r2 : Bool) → not w || r ≡ not (w && not r || not r2 && false)
      alone true true true = refl
      alone true true false = refl
      alone true false r2 = refl
      alone false r true = refl
      alone false r false = refl

      -- room for two is room for one
      both : (w r r2 : Bool) → (r2 ≡ true → r ≡ true) → r2 ≡ not (w && not r || not r2 && true)
      both true true true fine = refl
      both true true false fine = refl
      both true false true fine = (let e = fine refl in absurd (cc))
      both true false false fine = refl
      both false r true fine = refl
      both false r false fine = refl

      room : has_room 2 p.cq ≡ true → has_room 1 p.cq ≡ true
      room two = (let lt = leb-true _ _ two in le-leb _ _ (omega (arith, lt)))

      by : (o : Option Receive) → last_of source p.rx ≡ o → fits (tail source item p).cq ≡ not (lacks_at_tail p.rx source item.head p)
      by None e = rw e (fits_whole source item ∙ alone (writes_at_tail (coming_from p.rx.rx source) source item.head p.tx.tx p.target.regions) (has_room 1 p.cq) (has_room 2 p.cq))
      by (Some r) e = fits_last source item r e ∙ rw e (both (writes_at_tail (coming_from p.rx.rx source) source item.head p.tx.tx p.target.regions) (has_room 1 p.cq) (has_room 2 p.cq) room)

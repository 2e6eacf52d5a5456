-- What the end of an operation writes, counts and books (fi_cq(3), fi_cntr(3)).
--     booked due source head tx       a reply to the item is booked, where one is due
--     entry_at_end outcome bytes e    the completion of an operation that ended, if one is written
--     cq_after, counters_after        an operation ends, where there is one
--     answer_writes                   the end of the operation that a reply answers writes a completion
use Rattle.std.specs.Prelude.{ℕ, ◌-◌, Bool, true, false, ◌||◌, not, List, [], length, Option, Some, None, is_none, is_some}
use Rattle.fab_base.specs.declared.entries.Taken.{Taken}
use Rattle.fab_base.specs.declared.entries.Taken.TheVariants.{Success}
use Rattle.fab_base.specs.declared.items.Item.{Item}
use Rattle.fab_base.specs.declared.items.ItemHead.{ItemHead}
use Rattle.fab_base.specs.declared.items.Outcome.{Outcome}
use Rattle.fab_base.specs.declared.items.Outcome.TheVariants.{Done}
use Rattle.fab_base.specs.declared.operations.Operation.{Operation}
use Rattle.fab_base.specs.declared.operations.Tally.{Tally}
use Rattle.fab_base.specs.declared.peers.Level.{Level}
use Rattle.fab_model.specs.State.{Completions, Transmitting, counting, writing}
use Rattle.fab_model.specs.Complete.{error, reply_head}
use Rattle.fab_model.specs.Sending.{class_of, success_of}
use Rattle.fab_base.specs.Kinds.{refusal_of}
use Rattle.fab_tx.specs.Transit.{Transit, booking, ended, finds_answered}
use Rattle.fab_tx.specs.declared.results.Ended.{Ended}

-- ---- replies

abbrev pub reply_to : ItemHead → Item
reply_to head = record { head = reply_head head.op Done 0; bytes = [] }

abbrev pub booked : Bool → ℕ → ItemHead → Transit → Transit
booked true source head tx = booking source (reply_to head) tx
booked false source head tx = tx

-- ---- the end of an operation

-- an operation of which only what is handed out is known
abbrev pub as_operation : Ended → Operation
as_operation e = record { call = 0; dest = 0; place = 0; head = e.head; level = Level.Transmit; ctx = e.ctx; buf = e.buf; silent = e.silent }

abbrev pub well_entry : Bool → List ℕ → Ended → Option Taken
well_entry true bytes e = None
well_entry false bytes e = Some (Success (success_of (as_operation e) bytes))

abbrev pub entry_at_end : Outcome → List ℕ → Ended → Option Taken
entry_at_end outcome bytes e = elim (refusal_of outcome) [
  | Some kind ↦ Some (error e.ctx kind e.buf)
  | None ↦ well_entry e.silent bytes e
]

abbrev pub written_if : Option ℕ → Option Taken → Completions → Completions
written_if call None cq = cq
written_if call (Some entry) cq = writing call entry cq

abbrev pub cq_after : Outcome → List ℕ → Option Operation → Completions → Completions
cq_after outcome bytes None cq = cq
cq_after outcome bytes (Some o) cq = written_if (Some o.call) (entry_at_end outcome bytes (ended o)) cq

abbrev pub counters_after : Outcome → Option Operation → List Tally → List Tally
counters_after outcome None counters = counters
counters_after outcome (Some o) counters = counting (class_of o.head) (is_none (refusal_of outcome)) counters

-- the end of an operation writes a completion
abbrev pub writes_end : Outcome → Bool → Bool
writes_end outcome silent = not silent || is_some (refusal_of outcome)

-- so does the operation that this reply answers, if there is one
abbrev pub answer_writes : ℕ → ItemHead → Transmitting → Bool
answer_writes source reply tx = elim (finds_answered source reply tx) [ None ↦ false | Some o ↦ writes_end reply.outcome o.silent ]

-- ---- what is unread

-- how many entries are unread
abbrev pub unread_of : Completions → ℕ
unread_of cq = length cq.written - cq.taken_out

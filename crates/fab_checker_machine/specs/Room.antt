-- How many entries a step writes, and the room that they need.
--     has_room n cq         n more entries may be written
--     entries_given a       how many a receive writes that takes this arrival at once
--     entries_sent, entries_tail, entries_drawn      how many a transmission, the bytes of an item and a draw write
--     place_fault taken s   why a receive that takes this arrival at once, or none, has no place
use Rattle.std.specs.Prelude.{ℕ, ◌+◌, ◌-◌, Bool, true, false, not, ◌&&◌, ◌||◌, nat_lt, nat_le, is_none, is_some, length, [], ◌∷◌, Option, Some, None, find, if◌then◌else◌}
use Rattle.fab_base.specs.declared.faults.Fault.{Fault}
use Rattle.fab_base.specs.declared.faults.Fault.TheVariants.{Again}
use Rattle.fab_base.specs.declared.faults.Busy.TheVariants.{CqFull, PostedFull}
use Rattle.fab_base.specs.declared.items.Kind.TheVariants.{WriteReq}
use Rattle.fab_base.specs.declared.items.Outcome.{Outcome}
use Rattle.fab_base.specs.declared.items.Outcome.TheVariants.{Done}
use Rattle.fab_base.specs.declared.items.ItemHead.{ItemHead}
use Rattle.fab_base.specs.declared.operations.Arrival.{Arrival}
use Rattle.fab_base.specs.declared.operations.Operation.{Operation}
use Rattle.fab_base.specs.declared.operations.Coming.{Coming}
use Rattle.fab_base.specs.declared.operations.Coming.TheVariants.{Into, Keep, Throw, Request, Answer}
use Rattle.std.specs.List.{list_any}
use Rattle.fab_base.specs.declared.operations.Receive.{Receive}
use Rattle.fab_model.specs.State.{State, Receiving, Completions, under_way, coming_from}
use Rattle.fab_model.specs.Complete.{is_made_by}
use Rattle.fab_model.specs.Arrivals.{stays}
use Rattle.fab_model.specs.Receiving.{draws, draw_due}
use Rattle.fab_model.specs.Sending.{first_fault, ending, is_answered_by}
use Rattle.fab_base.specs.Kinds.{refusal_of}
use Rattle.fab_model.specs.Target.{is_keyed, outcome_of}
use Rattle.fab_model.specs.Matching.{takes}
use Rattle.fab_checker_halves.specs.Places.{is_under_way_besides}

abbrev pub has_room : ℕ → Completions → Bool
has_room n cq = nat_le (length cq.written + n - cq.taken_out) cq.size

abbrev pub entries_given : Arrival → ℕ
entries_given a = elim a.bytes [ None ↦ 0 | Some _ ↦ 1 ]

-- a receive call that writes so many entries waits for the draws or for room
abbrev pub waits : ℕ → State → Bool
waits n s = draw_due s.rx || not (has_room n s.cq)

abbrev pub place_fault : Option Arrival → State → Option Fault
place_fault None s = first_fault ((waits 0 s, Again (CqFull s.cq.size)) ∷ (nat_le s.most_rx (length s.rx.posted), Again (PostedFull s.most_rx)) ∷ [])
place_fault (Some a) s = first_fault ((waits (entries_given a) s, Again (CqFull s.cq.size)) ∷ [])

-- the multi-receive leaves once it took this arrival: it is closing then, and none of its items is under way
abbrev pub is_let_go : Receive → Arrival → Receiving → Bool
is_let_go r a rx =
    (not (stays a.head.total r) || list_any (is_made_by r.call) rx.closing)
    && not (is_none a.bytes && nat_lt a.source (length rx.coming)) && not (under_way rx r.call)

-- ---- what steps write

-- the end of an operation writes its entry, unless it is silent and succeeds
abbrev pub entries_ended : Outcome → Operation → ℕ
entries_ended outcome o = elim (refusal_of outcome) [ Some _ ↦ 1 | None ↦ elim o.silent [ true ↦ 0 | false ↦ 1 ] ]

abbrev pub entries_of_end : Outcome → Option Operation → ℕ
entries_of_end outcome None = 0
entries_of_end outcome (Some o) = entries_ended outcome o

abbrev pub entries_sent : ℕ → State → ℕ
entries_sent t s = entries_of_end Done (ending t s.tx)

-- a performed write with remote data writes an entry
abbrev pub entries_told : Outcome → ItemHead → ℕ
entries_told Done head = elim head.kind [ WriteReq ↦ elim head.imm [ None ↦ 0 | Some _ ↦ 1 ] | _ ↦ 0 ]
entries_told _ head = 0

-- the last bytes of an item write its entry, and that of the multi-receive which is let go then
abbrev pub entries_into : Receive → ℕ → Receiving → ℕ
entries_into r source rx = if is_some r.least && (list_any (is_made_by r.call) rx.closing && not (is_under_way_besides source r.call rx)) then 2 else 1

abbrev pub entries_to : Option Coming → ℕ → ItemHead → State → ℕ
entries_to None source head s = 0
entries_to (Some (Into r place)) source head s = entries_into r source s.rx
entries_to (Some Keep) source head s = 0
entries_to (Some Throw) source head s = 0
entries_to (Some Request) source head s = entries_told (outcome_of (find (is_keyed head.key) s.regions) head) head
entries_to (Some Answer) source head s = entries_of_end head.outcome (find (is_answered_by s.tx source head) s.tx.live)

abbrev pub entries_tail : ℕ → ItemHead → State → ℕ
entries_tail source head s = entries_to (coming_from s.rx source) source head s

abbrev pub entries_taken : Receive → Arrival → Receiving → ℕ
entries_taken r a rx = entries_given a + (if is_some r.least && is_let_go r a rx then 1 else 0)

abbrev pub entries_drawn : State → ℕ
entries_drawn s = elim (find (draws s.rx.unexpected) s.rx.posted) [
  | None ↦ 0
  | Some r ↦ elim (find (takes r.want) s.rx.unexpected) [ None ↦ 0 | Some a ↦ entries_taken r a s.rx ]
]

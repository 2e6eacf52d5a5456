-- Scripts are programs: each turn of a script's peer is a turn of the program that makes the calls of its lines.
--     peers states         the peers without their lines and results
--     deed_of a step       what the step is in which a peer goes on: of a line that is a call, this call; of a wait or a reach, nothing
--     deeds_of states turns      the turns of the program
--     ScriptLeadTo bound turns states      these turns, in this order, lead from the opening of the script to these states
--     AtEveryScriptMoment Law    the law holds of each peer of a script, wherever turns lead
--     script_memory note p turns states m      what peer p of a script, who remembers m, remembers after these turns
use Rattle.std.specs.Prelude.{◌≡◌, ◌==◌, ℕ, true, false, List, [], ◌∷◌, ◌++◌, map, Option, Some, None, slice_get, slice_set, slice_index_or}
use Rattle.fab_base.specs.declared.peers.Step.{Step}
use Rattle.fab_base.specs.declared.peers.Step.TheVariants.{Do, Final}
use Rattle.fab_base.specs.declared.script.Bound.{Bound}
use Rattle.fab_model.specs.Calls.{Call, CancelFirst, call_of}
use Rattle.fab_model.specs.Laws.{Run}
use Rattle.fab_model.specs.Orders.{Leads, Moment, Turn, steps_of, turn}
use Rattle.fab_model.specs.Peers.{Actor, fabric, next_line}
use Rattle.fab_model.specs.Replay.{opening, replayed, start}
use Rattle.fab_model.specs.Replay as scripts
use Rattle.fab_model.specs.Views.{rule, seen}
use Rattle.fab_laws.specs.Programs.{Deed, Draw, Head, Makes, Opening, Peer, Tail, at_rest, is_drained, peer, program}
use Rattle.fab_laws.specs.Moments.{LeadTo, Note}

abbrev pub peer_of : Actor → Peer
peer_of a = peer a.state

abbrev pub peers : List Actor → List Peer
peers states = map peer_of states

-- the call that the peer's next line makes
abbrev pub next_call : Actor → Option Call
next_call a = elim (next_line a) [ None ↦ None | Some l ↦ call_of l.op ]

abbrev pub deed_of : Actor → Step → Deed
deed_of a Do = Makes (next_call a)
deed_of a (Step.Head source) = Head source
deed_of a (Step.Tail source) = Tail source
deed_of a (Step.Sent t) = Deed.Sent t
deed_of a Step.Draw = Draw
deed_of a Step.Read = Deed.Read
deed_of a Final = Makes (Some CancelFirst)

abbrev pub turn_of : Option Actor → Turn Step → List (Turn Deed)
turn_of None t = []
turn_of (Some a) t = record { peer = t.peer; step = deed_of a t.step } ∷ []

abbrev pub deeds_of : List Actor → List (Turn Step) → List (Turn Deed)
deeds_of states [] = []
deeds_of states (t ∷ turns) = elim (rule fabric states t.peer t.step) [
  | None ↦ []
  | Some b ↦ turn_of (slice_get states t.peer) t ++ deeds_of (slice_set states t.peer b) turns
]

abbrev pub ScriptLeadTo : Bound → List (Turn Step) → List Actor → Type 0
ScriptLeadTo bound turns states = Leads (rule fabric) (opening bound) turns states

abbrev pub AtEveryScriptMoment : (Bound → List (Turn Step) → List Actor → ℕ → Actor → Type 0) → Type 0
AtEveryScriptMoment Law = (bound : Bound) (turns : List (Turn Step)) (states : List Actor) → ScriptLeadTo bound turns states → (p : ℕ) (a : Actor) → slice_get states p ≡ Some a → Law bound turns states p a

-- ---- what a script's peer remembers

-- after this turn of a peer that is b then
abbrev pub script_noted : {M : Type 0} → Note M → ℕ → List Actor → Turn Step → Actor → M → M
script_noted note p states t b m = elim (t.peer == p) [
  | true ↦ elim (slice_get states p) [ None ↦ m | Some a ↦ note (seen program (peers states) p) (peer_of a) (deed_of a t.step) (peer_of b) m ]
  | false ↦ m
]

abbrev pub script_memory : {M : Type 0} → Note M → ℕ → List (Turn Step) → List Actor → M → M
script_memory note p [] states m = m
script_memory note p (t ∷ turns) states m = elim (rule fabric states t.peer t.step) [
  | None ↦ m
  | Some b ↦ script_memory note p turns (slice_set states t.peer b) (script_noted note p states t b m)
]

-- ---- runs

-- each run of a script is a run of a program, so what is proved of all programs holds of scripts
abbrev pub ScriptsArePrograms : Type 0
ScriptsArePrograms = (bound : Bound) (turns : List (Turn Step)) (states : List Actor) → ScriptLeadTo bound turns states
    → (from : Opening) × (from.peers ≡ peers (opening bound)) × LeadTo from (deeds_of (opening bound) turns) (peers states)

-- what a peer of a script sees of others is what the program's peer sees
abbrev pub SightIsSight : Type 0
SightIsSight = (states : List Actor) (p source : ℕ) → ((seen fabric states p).ready source ≡ (seen program (peers states) p).ready source) × ((seen fabric states p).sent source ≡ (seen program (peers states) p).sent source)

-- where a script is at rest, or drained, the program is
abbrev pub RestIsRest : Type 0
RestIsRest = (states : List Actor) → (scripts.at_rest states ≡ true → at_rest (peers states) ≡ true) × (scripts.is_drained states ≡ true → is_drained (peers states) ≡ true)

-- ---- moments of schedules

-- whichever peers take the next steps of a schedule, in this order: the moment is one to which turns of these peers lead, and of each peer these turns have the steps that it took
abbrev pub MomentsAreLedTo : Type 0
MomentsAreLedTo = (bound : Bound) (schedule : List (List Step)) (order : List ℕ) (m : Moment Actor Step) → Run (turn (rule fabric)) (start bound schedule) order m
    → (turns : List (Turn Step)) × ScriptLeadTo bound turns m.states × (map (λ t. t.peer) turns ≡ order) × ((p : ℕ) → slice_index_or schedule p [] ≡ steps_of p turns ++ slice_index_or m.left p [])

-- so is the end of the replay, at which the steps left over are none where the schedule is lawful
abbrev pub TheReplayIsLedTo : Type 0
TheReplayIsLedTo = (bound : Bound) (schedule : List (List Step))
    → (turns : List (Turn Step)) × ScriptLeadTo bound turns (replayed bound schedule).states × ((p : ℕ) → slice_index_or schedule p [] ≡ steps_of p turns ++ slice_index_or (replayed bound schedule).left p [])

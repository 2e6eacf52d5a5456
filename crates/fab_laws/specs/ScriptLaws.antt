-- The laws as they speak of scripts: at every moment to which turns of a bound script's peers lead, and with what these peers remember in their own turns.
--     script_past, script_operations, script_whole, script_arrived, script_asked, script_handled      the history words, told by the turns of a script
use Rattle.std.specs.Prelude.{ℕ, List, []}
use Rattle.fab_base.specs.declared.items.Item.{Item}
use Rattle.fab_base.specs.declared.operations.Receive.{Receive}
use Rattle.fab_base.specs.declared.peers.Step.{Step}
use Rattle.fab_base.specs.declared.script.Bound.{Bound}
use Rattle.fab_model.specs.Orders.{Turn}
use Rattle.fab_model.specs.Peers.{Actor}
use Rattle.fab_model.specs.Replay.{opening}
use Rattle.fab_laws.specs.Scripts.{AtEveryScriptMoment, ScriptLeadTo, peer_of, peers, script_memory}
use Rattle.fab_laws.specs.Matched.{Event, noting}
use Rattle.fab_laws.specs.MatchingLaws.{GetsRightly, PassesNoneOver, ServesInOrder, TakesInOrder, TellsPosted, TellsUnexpected}
use Rattle.fab_laws.specs.Completed.{Operations, keeping_books}
use Rattle.fab_laws.specs.CompletionLaws.{AllCompleteOnce, NumberCompletes}
use Rattle.fab_laws.specs.FenceLaws.{FenceHolds, GoesInOrder, HoldsNothing, ItemIsOfACall}
use Rattle.fab_laws.specs.ReplyLaws.{AnswersOnce, FindsItsOperation, WaitsAtMatch}
use Rattle.fab_laws.specs.StreamLaws.{HasArrived, IsFirst, IsPosted, TakesAll, arriving, taking}
use Rattle.fab_laws.specs.MessageLaws.{EntryTells, LetsOutSized, ReceiveTells, keeping_asked}
use Rattle.fab_laws.specs.Claimed.{Handling, handling}
use Rattle.fab_laws.specs.ClaimLaws.{EntryIsOwn, FreesClaimed, IsPutAway, NoneSlips, StaysAside}
use Rattle.fab_laws.specs.MultiLaws.{ClosesWhenFull, HandsBackParts, PlacesTell, ReleaseTells, ReleasedInTime, TellsEach}
use Rattle.fab_laws.specs.ReceiveLaws.{AllHaveFates, GotTold, LeavesOnce, OneTellsIt, TookTold}

abbrev pub script_past : Bound → List (Turn Step) → ℕ → List Event
script_past bound turns p = script_memory noting p turns (opening bound) []

abbrev pub script_operations : Bound → List (Turn Step) → ℕ → Operations
script_operations bound turns p = script_memory keeping_books p turns (opening bound) (record { accepted = []; ended = [] })

abbrev pub script_whole : Bound → List (Turn Step) → ℕ → ℕ → List Item
script_whole bound turns p source = script_memory (taking source) p turns (opening bound) []

abbrev pub script_arrived : Bound → List (Turn Step) → ℕ → ℕ → List Item
script_arrived bound turns p source = script_memory (arriving source) p turns (opening bound) []

abbrev pub script_asked : Bound → List (Turn Step) → ℕ → List Receive
script_asked bound turns p = script_memory keeping_asked p turns (opening bound) []

abbrev pub script_handled : Bound → List (Turn Step) → ℕ → List Handling
script_handled bound turns p = script_memory handling p turns (opening bound) []

-- ---- matching

abbrev pub NonePassedOver : Type 0
NonePassedOver = AtEveryScriptMoment (λ bound turns states p a. PassesNoneOver a.state.rx)

abbrev pub ServedInOrder : Type 0
ServedInOrder = AtEveryScriptMoment (λ bound turns states p a. ServesInOrder (script_past bound turns p))

abbrev pub TakenInOrder : Type 0
TakenInOrder = AtEveryScriptMoment (λ bound turns states p a. TakesInOrder (script_past bound turns p))

abbrev pub GotRightly : Type 0
GotRightly = AtEveryScriptMoment (λ bound turns states p a. GetsRightly (script_past bound turns p))

abbrev pub PastTellsState : Type 0
PastTellsState = AtEveryScriptMoment (λ bound turns states p a. TellsUnexpected (script_past bound turns p) a.state.rx × TellsPosted (script_past bound turns p) a.state.rx)

-- ---- completion

abbrev pub OneFinalCompletion : Type 0
OneFinalCompletion = AtEveryScriptMoment (λ bound turns states p a. AllCompleteOnce (script_operations bound turns p) (peers states) p (peer_of a))

abbrev pub NumbersComplete : Type 0
NumbersComplete = AtEveryScriptMoment (λ bound turns states p a. (call : ℕ) → NumberCompletes (script_operations bound turns p) (peer_of a) call)

-- ---- fences

abbrev pub FencesHold : Type 0
FencesHold = AtEveryScriptMoment (λ bound turns states p a. FenceHolds (script_operations bound turns) (peers states) p (peer_of a))

abbrev pub GoneInOrder : Type 0
GoneInOrder = AtEveryScriptMoment (λ bound turns states source c. (p : ℕ) → GoesInOrder (script_operations bound turns source) p (peer_of c))

abbrev pub ItemsAreOfCalls : Type 0
ItemsAreOfCalls = AtEveryScriptMoment (λ bound turns states p a. ItemIsOfACall (script_operations bound turns) (peers states) p (peer_of a))

abbrev pub NothingIsHeldBack : Type 0
NothingIsHeldBack = AtEveryScriptMoment (λ bound turns states p a. HoldsNothing (peers states) (peer_of a))

-- ---- replies

abbrev pub NoStray : Type 0
NoStray = AtEveryScriptMoment (λ bound turns states p a. FindsItsOperation (peers states) p (peer_of a))

abbrev pub AnsweredOnce : Type 0
AnsweredOnce = (bound : Bound) (turns : List (Turn Step)) (states : List Actor) → ScriptLeadTo bound turns states → (p : ℕ) → AnswersOnce (peers states) p

abbrev pub AllWaitAtMatch : Type 0
AllWaitAtMatch = AtEveryScriptMoment (λ bound turns states p a. WaitsAtMatch (peers states) p (peer_of a))

-- ---- streams and messages

abbrev pub TakenIsFirst : Type 0
TakenIsFirst = AtEveryScriptMoment (λ bound turns states p a. IsFirst (script_whole bound turns p) (peers states) p)

abbrev pub TakenIsPosted : Type 0
TakenIsPosted = AtEveryScriptMoment (λ bound turns states p a. IsPosted (script_whole bound turns p) (script_operations bound turns) (peers states) p)

abbrev pub ArrivedIsFirst : Type 0
ArrivedIsFirst = AtEveryScriptMoment (λ bound turns states p a. IsFirst (script_arrived bound turns p) (peers states) p)

abbrev pub ArrivedIsPosted : Type 0
ArrivedIsPosted = AtEveryScriptMoment (λ bound turns states p a. IsPosted (script_arrived bound turns p) (script_operations bound turns) (peers states) p)

abbrev pub WholeHasArrived : Type 0
WholeHasArrived = AtEveryScriptMoment (λ bound turns states p a. HasArrived (script_whole bound turns p) (script_arrived bound turns p))

abbrev pub AllIsTaken : Type 0
AllIsTaken = AtEveryScriptMoment (λ bound turns states p a. TakesAll (script_whole bound turns p) (script_arrived bound turns p) (peers states) p)

abbrev pub EntriesTell : Type 0
EntriesTell = AtEveryScriptMoment (λ bound turns states p a. EntryTells (script_past bound turns p) (script_asked bound turns p) (peers states) p (peer_of a))

abbrev pub ReceivesTell : Type 0
ReceivesTell = AtEveryScriptMoment (λ bound turns states p a. ReceiveTells (script_past bound turns p) (script_asked bound turns p) (peers states) p (peer_of a))

abbrev pub ItemsAreSized : Type 0
ItemsAreSized = AtEveryScriptMoment (λ bound turns states p a. LetsOutSized (peer_of a))

-- ---- claims and receives

abbrev pub FreedRightly : Type 0
FreedRightly = AtEveryScriptMoment (λ bound turns states p a. FreesClaimed (script_handled bound turns p) × NoneSlips (script_handled bound turns p))

abbrev pub StaysClaimed : Type 0
StaysClaimed = AtEveryScriptMoment (λ bound turns states p a. StaysAside (script_handled bound turns p) a.state.rx)

abbrev pub LostIsPutAway : Type 0
LostIsPutAway = AtEveryScriptMoment (λ bound turns states p a. IsPutAway (script_past bound turns p) (script_handled bound turns p))

abbrev pub TakesTell : Type 0
TakesTell = AtEveryScriptMoment (λ bound turns states p a. EntryIsOwn (script_past bound turns p) (script_handled bound turns p) (script_asked bound turns p) (peers states) p (peer_of a))

abbrev pub GotIsTold : Type 0
GotIsTold = AtEveryScriptMoment (λ bound turns states p a. GotTold (script_past bound turns p) (script_asked bound turns p) (peers states) p (peer_of a))

abbrev pub TookIsTold : Type 0
TookIsTold = AtEveryScriptMoment (λ bound turns states p a. TookTold (script_handled bound turns p) (script_asked bound turns p) (peers states) p (peer_of a))

abbrev pub OneTells : Type 0
OneTells = AtEveryScriptMoment (λ bound turns states p a. OneTellsIt (script_past bound turns p) (script_asked bound turns p) (peers states) p (peer_of a))

abbrev pub GoesOnce : Type 0
GoesOnce = AtEveryScriptMoment (λ bound turns states p a. LeavesOnce (script_past bound turns p))

abbrev pub NoneIsLost : Type 0
NoneIsLost = AtEveryScriptMoment (λ bound turns states p a. AllHaveFates (script_past bound turns p) (script_handled bound turns p) a.state.rx)

abbrev pub PlacesFollow : Type 0
PlacesFollow = AtEveryScriptMoment (λ bound turns states p a. PlacesTell (script_past bound turns p) (script_asked bound turns p) (peers states) p (peer_of a))

abbrev pub ClosesInTime : Type 0
ClosesInTime = AtEveryScriptMoment (λ bound turns states p a. ClosesWhenFull (script_past bound turns p) (script_asked bound turns p))

abbrev pub PartsStand : Type 0
PartsStand = AtEveryScriptMoment (λ bound turns states p a. HandsBackParts (script_past bound turns p) (script_asked bound turns p) (peers states) p (peer_of a))

abbrev pub ReleasesTell : Type 0
ReleasesTell = AtEveryScriptMoment (λ bound turns states p a. ReleaseTells (script_past bound turns p) (script_asked bound turns p) (peer_of a))

abbrev pub ReleasesInTime : Type 0
ReleasesInTime = AtEveryScriptMoment (λ bound turns states p a. ReleasedInTime (script_past bound turns p) (script_asked bound turns p) (peer_of a))

abbrev pub TellsOnce : Type 0
TellsOnce = AtEveryScriptMoment (λ bound turns states p a. TellsEach (script_past bound turns p) (script_asked bound turns p) (peer_of a))

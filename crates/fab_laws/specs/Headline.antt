-- The headline of a script: what the laws say together at the end of the replay of a lawful schedule.
--     HoldsOf bound turns states p a      what it says of peer p, who is a, where these turns lead to these states
--     HoldsOfAll bound turns states       it holds of each peer
--     Headline bound schedule             some order of turns with the schedule's steps leads to the end of the replay, and there it holds; as it does in every such order
use Rattle.std.specs.Prelude.{◌≡◌, ℕ, true, List, Some, slice_get}
use Rattle.fab_base.specs.declared.peers.Step.{Step}
use Rattle.fab_base.specs.declared.script.Bound.{Bound}
use Rattle.fab_model.specs.Orders.{AreSteps, Turn}
use Rattle.fab_model.specs.Peers.{Actor}
use Rattle.fab_model.specs.Replay.{replayed}
use Rattle.fab_model.specs.Replay as scripts
use Rattle.fab_laws.specs.Programs.{is_drained}
use Rattle.fab_laws.specs.Scripts.{ScriptLeadTo, peer_of, peers}
use Rattle.fab_laws.specs.ScriptLaws.{script_arrived, script_asked, script_handled, script_operations, script_past, script_whole}
use Rattle.fab_laws.specs.StreamLaws.{HasArrived, IsFirst, IsPosted, TakesAll}
use Rattle.fab_laws.specs.MatchingLaws.{GetsRightly, PassesNoneOver, ServesInOrder, TakesInOrder}
use Rattle.fab_laws.specs.MessageLaws.{EntryReads, EntryTells, LetsOutSized, ReceiveTells}
use Rattle.fab_laws.specs.ClaimLaws.{EntryIsOwn, FreesClaimed, IsPutAway, NoneSlips, StaysAside}
use Rattle.fab_laws.specs.MultiLaws.{ClosesWhenFull, HandsBackParts, PlacesTell, ReleaseTells, ReleasedInTime, TellsEach}
use Rattle.fab_laws.specs.ReceiveLaws.{AllHaveFates, GotTold, LeavesOnce, OneTellsIt, TookTold}
use Rattle.fab_laws.specs.CompletionLaws.{AllCompleteOnce, NumberCompletes}

pub record HoldsOf (bound : Bound) (turns : List (Turn Step)) (states : List Actor) (p : ℕ) (a : Actor) : Type 0 where
  -- what it has taken whole of each sender is the first of what that sender let out to it, in order and each once
  pub first : IsFirst (script_whole bound turns p) (peers states) p
  -- without replies, that is the first of what the sender's accepted calls posted to it, in the order posted
  pub posted : IsPosted (script_whole bound turns p) (script_operations bound turns) (peers states) p
  -- the same of what has arrived, whole or not; what is whole is the first of that, all but one item at most, and at rest both are all that the sender let out
  pub arrived : IsFirst (script_arrived bound turns p) (peers states) p
  pub arrived_posted : IsPosted (script_arrived bound turns p) (script_operations bound turns) (peers states) p
  pub behind : HasArrived (script_whole bound turns p) (script_arrived bound turns p)
  pub takes_all : TakesAll (script_whole bound turns p) (script_arrived bound turns p) (peers states) p
  -- a message that a receive got had arrived and was unclaimed; the receive matches it and was open
  pub got : GetsRightly (script_past bound turns p)
  -- it was the first such: each that arrived earlier and that the receive matches had gone to a receive, or been claimed or discarded
  pub taken : TakesInOrder (script_past bound turns p)
  -- and no receive that was posted earlier and matches it was there: it had closed with an earlier message, or was cancelled before this one arrived
  pub served : ServesInOrder (script_past bound turns p)
  -- no posted receive matches an arrival that is still unexpected, but for a multi-receive that is about to draw it
  pub passed : PassesNoneOver a.state.rx
  -- each entry that tells a message gives the source, tag, remote data, length and bytes of one that is whole, or its truncation; its receive got that message; only where it was not posted (but made by a take) was the message claimed or discarded
  pub entries : EntryTells (script_past bound turns p) (script_asked bound turns p) (peers states) p (peer_of a)
  -- that of a receive that is no multi-receive has the bytes in the buffer that its call passed, from the first byte on
  pub receives : ReceiveTells (script_past bound turns p) (script_asked bound turns p) (peers states) p (peer_of a)
  -- each item that it lets out has as many bytes as its head says
  pub sized : LetsOutSized (peer_of a)
  -- what a receive got, or a take took, is told by an entry of its number, or is still on its way; the final completion of a receive that is no multi-receive and got a message is that of the message
  pub told : GotTold (script_past bound turns p) (script_asked bound turns p) (peers states) p (peer_of a)
  pub took : TookTold (script_handled bound turns p) (script_asked bound turns p) (peers states) p (peer_of a)
  pub only : OneTellsIt (script_past bound turns p) (script_asked bound turns p) (peers states) p (peer_of a)
  -- the messages of a buffer for many messages follow one another from its first byte on, in the order in which its receive got them; the receive takes no more exactly once fewer than its least free bytes are left
  pub places : PlacesTell (script_past bound turns p) (script_asked bound turns p) (peers states) p (peer_of a)
  pub closes : ClosesWhenFull (script_past bound turns p) (script_asked bound turns p)
  -- such a buffer comes back with the bytes of each of these messages at its place; the entry that releases it says how many bytes are given away; it is released once its receive takes no more and no message comes into it; each message has one entry, once it is whole
  pub parts : HandsBackParts (script_past bound turns p) (script_asked bound turns p) (peers states) p (peer_of a)
  pub released : ReleaseTells (script_past bound turns p) (script_asked bound turns p) (peer_of a)
  pub back : ReleasedInTime (script_past bound turns p) (script_asked bound turns p) (peer_of a)
  pub each : TellsEach (script_past bound turns p) (script_asked bound turns p) (peer_of a)
  -- a claimed message is taken or dropped once at the most, by a call under the context of its claim, and by nothing else; it is still set aside, or was taken or dropped
  pub freed : FreesClaimed (script_handled bound turns p)
  pub slips : NoneSlips (script_handled bound turns p)
  pub aside : StaysAside (script_handled bound turns p) a.state.rx
  -- an entry that tells a message is of a posted receive that got it, or of the take that took it
  pub own : EntryIsOwn (script_past bound turns p) (script_handled bound turns p) (script_asked bound turns p) (peers states) p (peer_of a)
  -- no message is lost: each that arrived is unexpected, went to a receive, is set aside, or was taken, dropped or discarded by a call; it goes once
  pub fates : AllHaveFates (script_past bound turns p) (script_handled bound turns p) a.state.rx
  pub leaves : LeavesOnce (script_past bound turns p)
  pub lost : IsPutAway (script_past bound turns p) (script_handled bound turns p)
  -- each accepted operation has at most one final completion: exactly one once it has ended, as it has once all is drained, unless it is suppressed, and then none; none before it has ended, and none before its level is reached
  pub once : AllCompleteOnce (script_operations bound turns p) (peers states) p (peer_of a)
  -- no number has two final completions, and what has one is the number of an accepted operation
  pub numbers : (call : ℕ) → NumberCompletes (script_operations bound turns p) (peer_of a) call

abbrev pub HoldsOfAll : Bound → List (Turn Step) → List Actor → Type 0
HoldsOfAll bound turns states = (p : ℕ) (a : Actor) → slice_get states p ≡ Some a → HoldsOf bound turns states p a

pub record Headline (bound : Bound) (schedule : List (List Step)) : Type 0 where
  -- whose turn it was, and the step that was taken then
  pub turns : List (Turn Step)
  -- each peer's steps among these turns are those of its schedule
  pub steps : AreSteps schedule turns
  -- in this order they lead from the opening of the script to the end of the replay, and each step stands when it is taken
  pub leads : ScriptLeadTo bound turns (replayed bound schedule).states
  -- there it holds of each peer
  pub holds : HoldsOfAll bound turns (replayed bound schedule).states
  -- and so it does whatever the interleaving: every order of turns with these steps leads to these states, and there it holds of each peer, told by that order
  pub every : (order : List (Turn Step)) (last : List Actor) → AreSteps schedule order → ScriptLeadTo bound order last → (last ≡ (replayed bound schedule).states) × HoldsOfAll bound order last
  -- how an entry of `receives` reads: the whole message where the buffer has room for it, else what is placed and how much is cut off
  pub reads : EntryReads
  -- where the script is drained, all is drained as `once` asks
  pub drained : scripts.is_drained (replayed bound schedule).states ≡ true → is_drained (peers (replayed bound schedule).states) ≡ true

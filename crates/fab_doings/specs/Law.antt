-- What the threads of any program did with their endpoints, each alone, was done in some order of turns.
--     Past                   an endpoint since the opening: what it holds, the doings kept of all its calls, and what its port tells
--     Kept x y               the doings kept are all that the endpoint and its port did
--     Adds old new more      the doings that a thread adds to its record at a call
--     AreTold opening pasts  what is known of each endpoint alone, and of each pair of ports once the threads are joined
--     ProgramReaches         the law: then some order of turns of the program leads from the opening to the endpoints
--     Obeys                  of a peer of a program: what the laws of `fab_laws` say of it
--     ProgramObeys           where the endpoints started as a program's peers do, the laws hold of what the threads did, and each thread's own record says what its endpoint accepted, and what it read
use Rattle.std.specs.Prelude.{◌≡◌, ℕ, List, [], ◌++◌, map, take, Some, slice_get}
use Rattle.fab_base.specs.declared.operations.Written.{Written}
use Rattle.fab_model.specs.Orders.{AreSteps, Reached, Turn}
use Rattle.fab_model.specs.Views.{rule}
use Rattle.fab_face.specs.Acts.{MovedBy, posted_to, taken_of, ways_of}
use Rattle.fab_face.specs.Held.{Seen}
use Rattle.fab_merging.specs.Law.{AreToldOf}
use Rattle.fab_merging.specs.Pasts.{PastOf}
use Rattle.fab_laws.specs.Programs.{Deed}
use Rattle.fab_laws.specs.Recorded.{Recorded, plain, recall, recorded}
use Rattle.fab_model.specs.State.{State}
use Rattle.fab_laws.specs.Programs.{Opening, Peer, peer}
use Rattle.fab_laws.specs.Moments.{LeadTo}
use Rattle.fab_laws.specs.Matched.{past_of}
use Rattle.fab_laws.specs.MatchingLaws.{GetsRightly, PassesNoneOver, ServesInOrder, TakesInOrder, TellsPosted, TellsUnexpected}
use Rattle.fab_laws.specs.Completed.{accepts, operations_of}
use Rattle.fab_laws.specs.CompletionLaws.{AllCompleteOnce, NumberCompletes}
use Rattle.fab_laws.specs.FenceLaws.{FenceHolds, GoesInOrder, HoldsNothing, ItemIsOfACall}
use Rattle.fab_laws.specs.ReplyLaws.{AnswersOnce, FindsItsOperation, WaitsAtMatch}
use Rattle.fab_laws.specs.StreamLaws.{HasArrived, IsFirst, IsPosted, TakesAll, arrived_from, whole_from}
use Rattle.fab_laws.specs.MessageLaws.{EntryTells, LetsOutSized, ReceiveTells, asked_by, asked_of}
use Rattle.fab_laws.specs.Claimed.{handled_of}
use Rattle.fab_laws.specs.ClaimLaws.{EntryIsOwn, FreesClaimed, IsPutAway, NoneSlips, StaysAside}
use Rattle.fab_laws.specs.MultiLaws.{ClosesWhenFull, HandsBackParts, PlacesTell, ReleaseTells, ReleasedInTime, TellsEach}
use Rattle.fab_laws.specs.ReceiveLaws.{AllHaveFates, GotTold, LeavesOnce, OneTellsIt, TookTold}
use Rattle.fab_doings.specs.Alike.{ServesInTurn, TellsInTurn}
use Rattle.fab_doings.specs.Doings.{Doing, DoesBy, Living, acts_of, deeds_of, entries_of, peer_in}

-- its steps are the ghost record of a thread
abbrev pub Past : Type 0
Past = PastOf Living Doing

pub record KeptBy (x y : Past) (more : List Doing) : Type 0 where
  pub lives : DoesBy x.living more y.living
  pub doings : y.steps ≡ x.steps ++ more
  pub moves : MovedBy x.moves y.moves (ways_of (acts_of more))
  pub outs : (d : ℕ) → y.outs d ≡ x.outs d ++ posted_to d (acts_of more)
  pub ins : (s : ℕ) → y.ins s ≡ x.ins s ++ taken_of s (acts_of more)

abbrev pub Kept : Past → Past → Type 0
Kept x y = (more : List Doing) × KeptBy x y more

-- what contracts see of an endpoint, with the doings that its thread kept
abbrev pub past_in : {Home : Type 0} → Seen Home → List Doing → List State → Past
past_in e doings past = record {
  living = record { held = e.held; past = past };
  steps = doings;
  moves = e.lanes.moves;
  outs = λ d. (e.lanes.outs d).frames;
  ins = λ s. (e.lanes.ins s).taken;
}

-- the call led from old to new, and these are all its doings
abbrev pub Adds : {Home : Type 0} → Seen Home → Seen Home → List Doing → Type 0
Adds old new more = (kept : List Doing) (past : List State) → (states : List State) × KeptBy (past_in old kept past) (past_in new (kept ++ more) (past ++ states)) more

-- ---- all threads

abbrev pub peers : List Past → List Recorded
peers pasts = map (λ (x : Past). peer_in x.living) pasts

abbrev pub programs : List Past → List (List Deed)
programs pasts = map (λ (x : Past). deeds_of x.steps) pasts

abbrev pub AreTold : List Living → List Past → Type 0
AreTold opening pasts = AreToldOf (λ (o : Living). o.held) Kept opening pasts

abbrev pub ProgramReaches : Type 0
ProgramReaches = (opening : List Living) (pasts : List Past) → AreTold opening pasts → Reached (rule recorded) (map peer_in opening) (programs pasts) (peers pasts)

-- ---- the laws

-- what the laws of any program say of its peer p, which is a, at the end of these turns
pub record Obeys (from : List Peer) (turns : List (Turn Deed)) (states : List Peer) (p : ℕ) (a : Peer) : Type 0 where
  -- matching
  pub passed : PassesNoneOver a.state.rx
  pub served : ServesInOrder (past_of from turns p)
  pub taken : TakesInOrder (past_of from turns p)
  pub got : GetsRightly (past_of from turns p)
  pub unexpected : TellsUnexpected (past_of from turns p) a.state.rx
  pub posted : TellsPosted (past_of from turns p) a.state.rx
  -- completion
  pub once : AllCompleteOnce (operations_of from turns p) states p a
  pub numbers : (call : ℕ) → NumberCompletes (operations_of from turns p) a call
  -- fences
  pub fenced : FenceHolds (operations_of from turns) states p a
  pub order : (q : ℕ) → GoesInOrder (operations_of from turns p) q a
  pub of_calls : ItemIsOfACall (operations_of from turns) states p a
  pub idle : HoldsNothing states a
  -- replies
  pub stray : FindsItsOperation states p a
  pub answered : AnswersOnce states p
  pub waits : WaitsAtMatch states p a
  -- streams and messages
  pub first : IsFirst (whole_from from turns p) states p
  pub of_posted : IsPosted (whole_from from turns p) (operations_of from turns) states p
  pub entries : EntryTells (past_of from turns p) (asked_of from turns p) states p a
  pub receives : ReceiveTells (past_of from turns p) (asked_of from turns p) states p a
  pub sized : LetsOutSized a
  pub arrived : IsFirst (arrived_from from turns p) states p
  pub arrived_posted : IsPosted (arrived_from from turns p) (operations_of from turns) states p
  pub behind : HasArrived (whole_from from turns p) (arrived_from from turns p)
  pub takes_all : TakesAll (whole_from from turns p) (arrived_from from turns p) states p
  -- claims and receives
  pub freed : FreesClaimed (handled_of from turns p)
  pub slips : NoneSlips (handled_of from turns p)
  pub aside : StaysAside (handled_of from turns p) a.state.rx
  pub lost : IsPutAway (past_of from turns p) (handled_of from turns p)
  pub own : EntryIsOwn (past_of from turns p) (handled_of from turns p) (asked_of from turns p) states p a
  pub told : GotTold (past_of from turns p) (asked_of from turns p) states p a
  pub took : TookTold (handled_of from turns p) (asked_of from turns p) states p a
  pub only : OneTellsIt (past_of from turns p) (asked_of from turns p) states p a
  pub leaves : LeavesOnce (past_of from turns p)
  pub places : PlacesTell (past_of from turns p) (asked_of from turns p) states p a
  pub closes : ClosesWhenFull (past_of from turns p) (asked_of from turns p)
  pub parts : HandsBackParts (past_of from turns p) (asked_of from turns p) states p a
  pub released : ReleaseTells (past_of from turns p) (asked_of from turns p) a
  pub back : ReleasedInTime (past_of from turns p) (asked_of from turns p) a
  pub each : TellsEach (past_of from turns p) (asked_of from turns p) a
  pub fates : AllHaveFates (past_of from turns p) (handled_of from turns p) a.state.rx
  -- receives that are alike
  pub in_turn : ServesInTurn (arrived_from from turns p) (past_of from turns p) (asked_of from turns p)
  pub told_in_turn : TellsInTurn (arrived_from from turns p) (past_of from turns p) (asked_of from turns p) states p a

-- the thread's own record, of its doings and the states after them, says what its endpoint accepted and which receives it was asked for; and the entries that it read are the first of those that
-- its endpoint wrote
pub record IsOwn (from : List Peer) (turns : List (Turn Deed)) (p : ℕ) (o : Living) (x : Past) : Type 0 where
  pub grew : List State
  pub past : x.living.past ≡ o.past ++ grew
  pub accepted : (operations_of from turns p).accepted ≡ recall (λ a deed b m. accepts a deed b ++ m) o.held.state (deeds_of x.steps) grew []
  pub asked : asked_of from turns p ≡ recall (λ a deed b m. asked_by a deed b ++ m) o.held.state (deeds_of x.steps) grew []
  pub read : entries_of x.steps ≡ map (λ (w : Written). w.entry) (take x.living.held.state.cq.taken_out x.living.held.state.cq.written)

abbrev pub plains : List Past → List Peer
plains pasts = map plain (peers pasts)

pub record IsRun (from : Opening) (opening : List Living) (pasts : List Past) : Type 0 where
  pub turns : List (Turn Deed)
  pub deeds : AreSteps (programs pasts) turns
  pub led : LeadTo from turns (plains pasts)
  pub obeys : (p : ℕ) (x : Past) → slice_get pasts p ≡ Some x → Obeys from.peers turns (plains pasts) p (peer x.living.held.state)
  pub own : (p : ℕ) (o : Living) (x : Past) → slice_get opening p ≡ Some o → slice_get pasts p ≡ Some x → IsOwn from.peers turns p o x

abbrev pub ProgramObeys : Type 0
ProgramObeys = (from : Opening) (opening : List Living) (pasts : List Past) → map (λ (o : Living). peer o.held.state) opening ≡ from.peers → AreTold opening pasts → IsRun from opening pasts

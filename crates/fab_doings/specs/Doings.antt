-- What the threads of a program did with their endpoints, as each can keep it: acts with their calls.
--     Own                 what a peer does alone to its state: a call with its answer, or counters written
--     Owns own s t        it stands in s, with this answer, and makes t of it
--     Doing               an act with its call
--     act_of x            the act that it is, without its call
--     Does h x t          the doing stands in h, and makes t of it
--     deeds_of doings     the turns of a program that they are
--     own_of doings       those that the thread itself did, without frames and draws
--     entries_of doings   the entries that it read
--     doings_by call acts    the doings of a call's acts
--     inserted names answers    names inserted one by one, each with its answer
use Rattle.std.specs.Prelude.{◌≡◌, ℕ, List, [], ◌∷◌, ◌++◌, map, zip, Option, Some, None}
use Rattle.std.specs.List.{flat_map}
use Rattle.fab_base.specs.declared.entries.Taken.{Taken}
use Rattle.fab_base.specs.declared.frames.Frame.{Frame}
use Rattle.fab_base.specs.declared.operations.Tally.{Tally}
use Rattle.fab_base.specs.declared.operations.Written.{Written}
use Rattle.fab_base.specs.declared.peers.LineResult.{LineResult}
use Rattle.fab_base.specs.declared.peers.LineResult.TheVariants.{Done}
use Rattle.fab_link.specs.Joined.{is_last}
use Rattle.fab_model.specs.State.{State}
use Rattle.fab_model.specs.Calls.{Call, Insert, do_call}
use Rattle.fab_model.specs.Peers.{reading, unread}
use Rattle.fab_face.specs.Held.{Held}
use Rattle.fab_face.specs.Acts as acts
use Rattle.fab_face.specs.Acts.{Act, Goes, headed, is_first, only}
use Rattle.fab_peer.specs.Turns.{SameParts}
use Rattle.fab_merging.specs.Pasts.{Trail}
use Rattle.fab_laws.specs.Programs.{Counts, Deed, Draw, Head, Makes, Tail, with_counters}
use Rattle.fab_laws.specs.Recorded.{Recorded}

pub data Own : Type 0 where
  Calls : (call : Call) (answer : LineResult) → Own
  Writes : (counters : List Tally) → Own

abbrev pub Owns : Own → State → State → Type 0
Owns (Calls call answer) s t = do_call s call ≡ (answer, t)
Owns (Writes counters) s t = t ≡ with_counters counters s

abbrev pub deed_of : Own → Deed
deed_of (Calls call answer) = Makes (Some call)
deed_of (Writes counters) = Counts counters

pub data Doing : Type 0 where
  Did : (own : Own) → Doing
  Took : (source : ℕ) (frame : Frame) → Doing
  Posted : (dest : ℕ) (frame : Frame) → Doing
  Drew : Doing
  -- an entry is read: this one
  Had : (entry : Taken) → Doing

-- ---- one doing

-- what contracts see of an endpoint without its port and its log
pub record Living : Type 0 where
  pub held : Held
  -- the states after its deeds
  pub past : List State

abbrev pub peer_in : Living → Recorded
peer_in p = record { state = p.held.state; past = p.past }

-- the states after its deeds are more by these
abbrev pub Grew : Living → Living → List State → Type 0
Grew p q more = q.past ≡ p.past ++ more

abbrev pub Does : Living → Doing → Living → Type 0
Does p (Did own) q = (Owns own p.held.state q.held.state × Grew p q (q.held.state ∷ [])) × SameParts p.held q.held
Does p (Had entry) q = ((w : Written) × (unread p.held.state.cq ≡ Some w) × (w.entry ≡ entry) × (q.held.state ≡ reading p.held.state) × Grew p q (q.held.state ∷ [])) × SameParts p.held q.held
Does p (Took source f) q = Goes None p.held (acts.Took source f) q.held × Grew p q (only (is_first f) (headed (is_first f) p.held.state source f.head.item) ++ only (is_last f.head) q.held.state)
Does p (Posted dest f) q = Goes None p.held (acts.Posted dest f) q.held × Grew p q (only (is_last f.head) q.held.state)
Does p Drew q = Goes None p.held acts.Drew q.held × Grew p q (q.held.state ∷ [])

abbrev pub DoesBy : Living → List Doing → Living → Type 0
DoesBy = Trail Does

-- ---- what doings say

abbrev pub deeds_by : Doing → List Deed
deeds_by (Did own) = deed_of own ∷ []
deeds_by (Took source f) = only (is_first f) (Head source) ++ only (is_last f.head) (Tail source)
deeds_by (Posted dest f) = only (is_last f.head) (Deed.Sent dest)
deeds_by Drew = Draw ∷ []
deeds_by (Had entry) = Deed.Read ∷ []

abbrev pub deeds_of : List Doing → List Deed
deeds_of xs = flat_map deeds_by xs

abbrev pub act_of : Doing → Act
act_of (Did own) = acts.Did
act_of (Took source f) = acts.Took source f
act_of (Posted dest f) = acts.Posted dest f
act_of Drew = acts.Drew
act_of (Had entry) = acts.Had

abbrev pub acts_of : List Doing → List Act
acts_of xs = map act_of xs

-- what the thread itself did: its calls, the counters that it wrote, and the entries that it read
abbrev pub own_by : Doing → List Doing
own_by (Did own) = Did own ∷ []
own_by (Took source f) = []
own_by (Posted dest f) = []
own_by Drew = []
own_by (Had entry) = Had entry ∷ []

abbrev pub own_of : List Doing → List Doing
own_of xs = flat_map own_by xs

-- the entries that it read, in order
abbrev pub entries_by : Doing → List Taken
entries_by (Did own) = []
entries_by (Took source f) = []
entries_by (Posted dest f) = []
entries_by Drew = []
entries_by (Had entry) = entry ∷ []

abbrev pub entries_of : List Doing → List Taken
entries_of xs = flat_map entries_by xs

-- ---- the acts of a call

-- a call that is none does nothing alone, where one is done it is Ok, and no call reads
abbrev pub doing_of : Option Call → Act → List Doing
doing_of None acts.Did = []
doing_of (Some call) acts.Did = Did (Calls call Done) ∷ []
doing_of call (acts.Took source f) = Took source f ∷ []
doing_of call (acts.Posted dest f) = Posted dest f ∷ []
doing_of call acts.Drew = Drew ∷ []
doing_of call acts.Had = []

-- the doings of an endpoint's call, which its contract gives as acts
abbrev pub doings_by : Option Call → List Act → List Doing
doings_by call xs = flat_map (doing_of call) xs

-- ---- names, inserted one by one, each with its answer

abbrev pub inserted : List (List ℕ) → List LineResult → List Doing
inserted names answers = map (λ (one : List ℕ × LineResult). Did (Calls (Insert one.0) one.1)) (zip names answers)

-- The history words of claims (FI_CLAIM of fi_tagged(3)): which messages were set aside and what became of each, told by a peer's states before and after each step. The newest stands first.
--     handles call s t            what is seen to happen to such messages in a step from s to t that makes this call, if any
--     handled_of from turns p     all that so happened at peer p in these turns
--     freed, put_away, lost       the messages taken or dropped; those claimed or discarded, told by such a history; the same told by a past
use Rattle.std.specs.Prelude.{ℕ, true, false, ◌&&◌, ◌==◌, List, [], ◌∷◌, ◌++◌, length, Option, Some, None, slice_get}
use Rattle.fab_base.specs.declared.entries.PeekHow.TheVariants.{Discard}
use Rattle.fab_base.specs.declared.operations.Arrival.{Arrival}
use Rattle.fab_model.specs.State.{State}
use Rattle.fab_model.specs.Calls.{Call, DropClaimed, Look, TakeClaimed}
use Rattle.fab_model.specs.Orders.{Turn}
use Rattle.fab_laws.specs.Moments.{Note, remembered}
use Rattle.fab_laws.specs.Matched.{Came, Cancelled, Event, Got, Lost, Made, Mark, claims_more, mark_of, parted, same_item, taken_now}
use Rattle.fab_laws.specs.Programs.{Counts, Deed, Draw, Head, Makes, Peer, Tail}

pub data Handling : Type 0 where
  -- the message was set aside under this context
  Claimed : (ctx : ℕ) (item : Mark) → Handling
  -- the call received it, under this context
  Took : (call ctx : ℕ) (item : Mark) → Handling
  -- the call dropped it, under this context
  Dropped : (call ctx : ℕ) (item : Mark) → Handling
  -- the call discarded a message that was unexpected
  Discarded : (call : ℕ) (item : Mark) → Handling
  -- the message went, and no call asked for that
  Slipped : (item : Mark) → Handling

-- a message that is set aside, under its context
abbrev pub aside_of : ℕ × Arrival → ℕ × Mark
aside_of c = (c.0, mark_of c.1)

-- ---- what two states tell

-- the first that is set aside before and is not at its place after
abbrev pub parted_claim : List (ℕ × Arrival) → List (ℕ × Arrival) → Option (ℕ × Arrival)
parted_claim [] after = None
parted_claim (c ∷ before) [] = Some c
parted_claim (c ∷ before) (d ∷ after) = elim ((c.0 == d.0) && same_item c.1 d.1) [ true ↦ parted_claim before after | false ↦ Some c ]

abbrev pub freeing : Option Call → ℕ → Mark → Handling
freeing None number x = Slipped x
freeing (Some c) number x = elim c [ TakeClaimed buf ctx ↦ Took number ctx x | DropClaimed ctx ↦ Dropped number ctx x | _ ↦ Slipped x ]

-- a message that was set aside went
abbrev pub frees : Option Call → State → State → List Handling
frees call s t = elim (parted_claim s.rx.claimed t.rx.claimed) [ None ↦ [] | Some c ↦ freeing call s.calls (mark_of c.1) ∷ [] ]

-- a message was set aside
abbrev pub claims : State → State → List Handling
claims s t = elim (slice_get t.rx.claimed (length s.rx.claimed)) [ None ↦ [] | Some c ↦ Claimed c.0 (mark_of c.1) ∷ [] ]

abbrev pub discarding : Option Call → ℕ → Mark → Handling
discarding None number x = Slipped x
discarding (Some c) number x = elim c [ Look how source tag ignore ctx ↦ elim how [ Discard ↦ Discarded number x | _ ↦ Slipped x ] | _ ↦ Slipped x ]

-- an unexpected message went, and neither to a receive nor to those set aside
abbrev pub discards : Option Call → State → State → List Handling
discards call s t = elim (parted s.rx.unexpected t.rx.unexpected) [
  | None ↦ []
  | Some a ↦ elim (claims_more s t) [
    | true ↦ []
    | false ↦ elim (taken_now s t a) [ Some receive ↦ [] | None ↦ discarding call s.calls (mark_of a) ∷ [] ]
  ]
]

abbrev pub handles : Option Call → State → State → List Handling
handles call s t = frees call s t ++ claims s t ++ discards call s t

-- the call that the deed makes
abbrev pub call_in : Deed → Option Call
call_in (Makes call) = call
call_in (Counts counters) = None
call_in (Head source) = None
call_in (Tail source) = None
call_in (Deed.Sent t) = None
call_in Draw = None
call_in Deed.Read = None

abbrev pub handling : Note (List Handling)
handling v a x b h = handles (call_in x) a.state b.state ++ h

-- all that happened at peer p to messages that were set aside, in these turns
abbrev pub handled_of : List Peer → List (Turn Deed) → ℕ → List Handling
handled_of from turns p = remembered handling p turns from []

-- ---- words about these histories

-- the messages that were taken or dropped
abbrev pub freed : List Handling → List Mark
freed [] = []
freed (Claimed ctx x ∷ h) = freed h
freed (Took call ctx x ∷ h) = x ∷ freed h
freed (Dropped call ctx x ∷ h) = x ∷ freed h
freed (Discarded call x ∷ h) = freed h
freed (Slipped x ∷ h) = freed h

-- the messages that were claimed or discarded
abbrev pub put_away : List Handling → List Mark
put_away [] = []
put_away (Claimed ctx x ∷ h) = x ∷ put_away h
put_away (Took call ctx x ∷ h) = put_away h
put_away (Dropped call ctx x ∷ h) = put_away h
put_away (Discarded call x ∷ h) = x ∷ put_away h
put_away (Slipped x ∷ h) = put_away h

-- the same, told by a past
abbrev pub lost : List Event → List Mark
lost [] = []
lost (Came m ∷ past) = lost past
lost (Made w ∷ past) = lost past
lost (Got call m last ∷ past) = lost past
lost (Lost m ∷ past) = m ∷ lost past
lost (Cancelled call ∷ past) = lost past

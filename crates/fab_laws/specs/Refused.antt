-- Wrong traces that the laws of streams, claims, receives and buffers for many messages refuse, for any messages, calls and contexts.
use Rattle.std.specs.Prelude.{◌≡◌, ◌≤◌, ◌<◌, ◌+◌, ℕ, Bool, true, false, List, [], ◌∷◌, length, Some, None, slice_get, slice_index}
use Rattle.fab_base.specs.declared.entries.ErrKind.TheVariants.{Canceled}
use Rattle.fab_base.specs.declared.items.Item.{Item}
use Rattle.fab_base.specs.declared.operations.Receive.{Receive}
use Rattle.fab_base.specs.declared.operations.Written.{Written}
use Rattle.fab_model.specs.Complete.{error}
use Rattle.fab_model.specs.State.{Receiving, accepted_for, coming_from, under_way}
use Rattle.fab_laws.specs.Members.{In, Never}
use Rattle.fab_model.specs.Views.{seen}
use Rattle.fab_laws.specs.Programs.{Peer, at_rest, program}
use Rattle.fab_laws.specs.Matched.{Came, Got, Mark, goes_into}
use Rattle.fab_laws.specs.StreamLaws.{HasArrived, IsFirst, TakesAll}
use Rattle.fab_laws.specs.Claimed.{Claimed, Dropped, Slipped, Took}
use Rattle.fab_laws.specs.ClaimLaws.{FreesClaimed, NoneSlips, StaysAside, WentTo}
use Rattle.fab_laws.specs.MessageLaws.{IsMessage}
use Rattle.fab_laws.specs.MultiLaws.{ClosesWhenFull, HandsBackParts, PlacesTell, ReleaseTells, ReleasedInTime, TellsEach, entry_at, handed_back, release_of}
use Rattle.fab_laws.specs.ReceiveLaws.{AllHaveFates, GotTold, LeavesOnce}

-- ---- streams

-- two different items arrive in the other order
abbrev pub Swapped : Type 0
Swapped = (x y : Item) (states : List Peer) (p source : ℕ) (c : Peer) → (x ≡ y → Never) → slice_get states source ≡ Some c → accepted_for c.state.tx p ≡ x ∷ y ∷ [] → IsFirst (λ s. y ∷ x ∷ []) states p → Never

-- an item arrives twice
abbrev pub Repeated : Type 0
Repeated = (x : Item) (states : List Peer) (p source : ℕ) (c : Peer) → slice_get states source ≡ Some c → accepted_for c.state.tx p ≡ x ∷ [] → IsFirst (λ s. x ∷ x ∷ []) states p → Never

-- an item is whole that did not arrive
abbrev pub Unarrived : Type 0
Unarrived = (x : Item) → HasArrived (λ s. x ∷ []) (λ s. []) → Never

-- at rest an item has arrived and is not whole
abbrev pub LeftOver : Type 0
LeftOver = (x : Item) (states : List Peer) (p source : ℕ) (c : Peer) → slice_get states source ≡ Some c → at_rest states ≡ true → TakesAll (λ s. []) (λ s. x ∷ []) states p → Never

-- ---- claims

-- a call takes a message under another context than that of its claim
abbrev pub OtherContext : Type 0
OtherContext = (call ctx other : ℕ) (x : Mark) → (ctx ≡ other → Never) → FreesClaimed (Took call ctx x ∷ Claimed other x ∷ []) → Never

-- a message that was taken is dropped
abbrev pub FreedTwice : Type 0
FreedTwice = (first second ctx : ℕ) (x : Mark) → FreesClaimed (Dropped second ctx x ∷ Took first ctx x ∷ Claimed ctx x ∷ []) → Never

-- a call takes a message that was not claimed
abbrev pub Unclaimed : Type 0
Unclaimed = (call ctx : ℕ) (x : Mark) → FreesClaimed (Took call ctx x ∷ []) → Never

-- a claimed message goes where no call asks for that
abbrev pub SlipsAway : Type 0
SlipsAway = (ctx : ℕ) (x : Mark) → NoneSlips (Slipped x ∷ Claimed ctx x ∷ []) → Never

-- a claimed message is not set aside any more, and no call took or dropped it
abbrev pub Vanishes : Type 0
Vanishes = (ctx : ℕ) (x : Mark) (rx : Receiving) → rx.claimed ≡ [] → StaysAside (Claimed ctx x ∷ []) rx → Never

-- the entry of a call that took one message tells another
abbrev pub OtherMessage : Type 0
OtherMessage = (r : Receive) (x y : Mark) → (x ≡ y → Never) → WentTo [] (Took r.call r.ctx x ∷ Claimed r.ctx x ∷ []) r y → Never

-- ---- receives

-- a receive got a message, and ends cancelled: its one entry tells no message, and nothing comes to it
abbrev pub CancelledInstead : Type 0
CancelledInstead = (call ctx : ℕ) (buf : List ℕ) (x : Mark) (last : Bool) (asked : List Receive) (states : List Peer) (p : ℕ) (a : Peer) → goes_into (coming_from a.state.rx x.source) ≡ None
    → a.state.cq.written ≡ record { call = Some call; entry = error (Some ctx) Canceled (Some buf) } ∷ [] → GotTold (Got call x last ∷ Came x ∷ []) asked states p a → Never

-- a receive got a message, no entry is written, and nothing comes to it
abbrev pub NeverTold : Type 0
NeverTold = (call : ℕ) (x : Mark) (last : Bool) (asked : List Receive) (states : List Peer) (p : ℕ) (a : Peer) → goes_into (coming_from a.state.rx x.source) ≡ None → a.state.cq.written ≡ [] → GotTold (Got call x last ∷ Came x ∷ []) asked states p a → Never

-- one message goes to two receives
abbrev pub GotTwice : Type 0
GotTwice = (first second : ℕ) (x : Mark) (k l : Bool) → LeavesOnce (Got second x l ∷ Got first x k ∷ Came x ∷ []) → Never

-- a message arrived and is nowhere
abbrev pub LostInside : Type 0
LostInside = (x : Mark) (rx : Receiving) → rx.unexpected ≡ [] → rx.claimed ≡ [] → AllHaveFates (Came x ∷ []) [] rx → Never

-- ---- buffers for many messages

-- every entry of this call that tells a message has this place
abbrev pub AllAt : List Receive → List Peer → ℕ → Peer → ℕ → (ℕ → Type 0) → Type 0
AllAt asked states p a call There = (w : Written) → In w a.state.cq.written → (y : IsMessage asked (seen program states p).ready a.state.rx.tails w) → y.r.call ≡ call → There y.place

-- two messages, the first with bytes, stand at the first place
abbrev pub Overlaps : Type 0
Overlaps = (f : Receive) (least : ℕ) (x y : Mark) (k l : Bool) (asked : List Receive) (states : List Peer) (p : ℕ) (a : Peer) → In f asked → f.least ≡ Some least → 1 ≤ x.head.total → 1 ≤ length f.buf
    → goes_into (coming_from a.state.rx y.source) ≡ None → AllAt asked states p a f.call (λ place. place ≡ 0) → PlacesTell (Got f.call y l ∷ Got f.call x k ∷ []) asked states p a → Never

-- the first message stands behind a gap
abbrev pub LeavesGap : Type 0
LeavesGap = (f : Receive) (least : ℕ) (x : Mark) (k : Bool) (asked : List Receive) (states : List Peer) (p : ℕ) (a : Peer) → In f asked → f.least ≡ Some least
    → goes_into (coming_from a.state.rx x.source) ≡ None → AllAt asked states p a f.call (λ place. 1 ≤ place) → PlacesTell (Got f.call x k ∷ []) asked states p a → Never

-- a receive stays open though its first message leaves fewer than its least free bytes
abbrev pub StaysOpen : Type 0
StaysOpen = (f : Receive) (least : ℕ) (x : Mark) (asked : List Receive) → In f asked → f.least ≡ Some least → length f.buf < x.head.total + least → 1 ≤ least → ClosesWhenFull (Got f.call x false ∷ []) asked → Never

-- a receive takes no more though its first message leaves as many
abbrev pub ClosesEarly : Type 0
ClosesEarly = (f : Receive) (least : ℕ) (x : Mark) (asked : List Receive) → In f asked → f.least ≡ Some least → x.head.total + least ≤ length f.buf → ClosesWhenFull (Got f.call x true ∷ []) asked → Never

-- a buffer comes back with the bytes of the second message at the place of the first
abbrev pub SwappedParts : Type 0
SwappedParts = (f : Receive) (least : ℕ) (x y : Mark) (k l : Bool) (asked : List Receive) (states : List Peer) (p : ℕ) (a : Peer) (w : Written) (buf : List ℕ) (first second : Item) (byte other : ℕ) → In f asked → f.least ≡ Some least
    → In w a.state.cq.written → w.call ≡ Some f.call → handed_back w.entry ≡ Some buf → slice_get ((seen program states p).ready x.source) x.place ≡ Some first → slice_get ((seen program states p).ready y.source) y.place ≡ Some second
    → slice_get first.bytes 0 ≡ Some byte → slice_get second.bytes 0 ≡ Some other → (byte ≡ other → Never) → slice_get buf 0 ≡ slice_get second.bytes 0 → HandsBackParts (Got f.call y l ∷ Got f.call x k ∷ []) asked states p a → Never

-- a buffer comes back while its message is not whole
abbrev pub ReleasedEarly : Type 0
ReleasedEarly = (f : Receive) (least : ℕ) (x : Mark) (asked : List Receive) (states : List Peer) (p : ℕ) (a : Peer) (ctx used : ℕ) (buf : List ℕ) → In f asked → f.least ≡ Some least → In (release_of f.call ctx used buf) a.state.cq.written
    → slice_index a.state.rx.tails x.source ≤ x.place → HandsBackParts (Got f.call x true ∷ []) asked states p a → Never

-- a receive has its last message, all that came is whole, and its buffer does not come back
abbrev pub KeptBack : Type 0
KeptBack = (f : Receive) (least : ℕ) (x : Mark) (asked : List Receive) (a : Peer) → In f asked → f.least ≡ Some least → a.state.cq.written ≡ [] → under_way a.state.rx f.call ≡ false → ReleasedInTime (Got f.call x true ∷ []) asked a → Never

-- the entry that releases a buffer says that nothing is given away, and a message stands in it
abbrev pub WrongUsed : Type 0
WrongUsed = (f : Receive) (least : ℕ) (x : Mark) (asked : List Receive) (a : Peer) (ctx : ℕ) (buf : List ℕ) → In f asked → f.least ≡ Some least → 1 ≤ x.head.total → 1 ≤ length f.buf → In (release_of f.call ctx 0 buf) a.state.cq.written → ReleaseTells (Got f.call x true ∷ []) asked a → Never

-- one message has two entries
abbrev pub ToldTwice : Type 0
ToldTwice = (f : Receive) (least : ℕ) (x : Mark) (k : Bool) (asked : List Receive) (a : Peer) → In f asked → f.least ≡ Some least → a.state.cq.written ≡ entry_at f (x, 0) ∷ entry_at f (x, 0) ∷ [] → TellsEach (Got f.call x k ∷ []) asked a → Never

-- Where the messages of a buffer for many messages stand (FI_MULTI_RECV of fi_msg(3)), at every moment that some order of turns leads to from the opening.
--     used_in n call past     how many of the n bytes of the buffer are given away to the messages that the receive of this call got
--     placed n call past      these messages, each with its place in the buffer, the newest first
--     PlacesFollow            each is told by an entry that has this place, or comes to it
--     ClosesInTime            the receive takes no more once fewer than its least free bytes are left
--     PartsStand              a buffer that an entry hands back has the bytes of each of these messages at its place
--     ReleasesTell            the entry that releases it says how many of its bytes are given away, and its receive takes no more
--     ReleasesInTime          once the receive takes no more, the buffer is released, or a message still comes into it
--     TellsOnce               each of these messages that is whole has one entry
use Rattle.std.specs.Prelude.{◌≡◌, ℕ, ◌+◌, ◌-◌, min, Bool, true, false, not, nat_lt, ◌==◌, List, [], ◌∷◌, ◌++◌, length, Option, Some, None, slice_get, slice_index, count_by, ◌&&◌, ◌≤◌, ◌<◌, ◌⊎◌}
use Rattle.fab_base.specs.declared.items.Item.{Item}
use Rattle.fab_base.specs.declared.entries.Entry.TheVariants.{Released}
use Rattle.fab_base.specs.declared.entries.ErrKind.TheVariants.{Canceled}
use Rattle.fab_base.specs.declared.entries.Taken.{Taken}
use Rattle.fab_base.specs.declared.entries.Taken.TheVariants.{Failure, Success}
use Rattle.fab_base.specs.declared.operations.Coming.TheVariants.{Into}
use Rattle.fab_base.specs.declared.operations.Receive.{Receive}
use Rattle.fab_base.specs.declared.operations.Written.{Written}
use Rattle.fab_model.specs.Complete.{entry_of}
use Rattle.fab_model.specs.Peers.{same_ctx}
use Rattle.fab_model.specs.State.{Receiving, coming_from, under_way}
use Rattle.fab_model.specs.Views.{seen}
use Rattle.fab_laws.specs.Members.{In}
use Rattle.fab_laws.specs.Moments.{AtEveryMoment}
use Rattle.fab_laws.specs.Programs.{Peer, program}
use Rattle.fab_laws.specs.Matched.{Came, Cancelled, Event, Got, Lost, Made, Mark, goes_into, past_of, tells_message}
use Rattle.fab_laws.specs.MessageLaws.{IsMessage, asked_of}

-- each message is given as many bytes as it has, as far as there are
abbrev pub used_in : ℕ → ℕ → List Event → ℕ
used_in n call [] = 0
used_in n call (Came m ∷ past) = used_in n call past
used_in n call (Made w ∷ past) = used_in n call past
used_in n call (Got c x last ∷ past) = elim (c == call) [ true ↦ used_in n call past + min x.head.total (n - used_in n call past) | false ↦ used_in n call past ]
used_in n call (Lost m ∷ past) = used_in n call past
used_in n call (Cancelled c ∷ past) = used_in n call past

-- so a message stands where those before it end
abbrev pub placed : ℕ → ℕ → List Event → List (Mark × ℕ)
placed n call [] = []
placed n call (Came m ∷ past) = placed n call past
placed n call (Made w ∷ past) = placed n call past
placed n call (Got c x last ∷ past) = elim (c == call) [ true ↦ (x, used_in n call past) ∷ placed n call past | false ↦ placed n call past ]
placed n call (Lost m ∷ past) = placed n call past
placed n call (Cancelled c ∷ past) = placed n call past

-- the rest of the message comes to the receive of this call, to this place
abbrev pub IsComingAt : Receiving → ℕ → Mark → ℕ → Type 0
IsComingAt rx call x place = (r : Receive) × (coming_from rx x.source ≡ Some (Into r place)) × (r.call ≡ call) × (x.place ≡ slice_index rx.tails x.source)

-- an entry of this call tells the message, at this place
abbrev pub IsToldAt : List Receive → (ℕ → List Item) → Peer → ℕ → Mark → ℕ → Type 0
IsToldAt asked ready a call x place = (w : Written) × In w a.state.cq.written × ((y : IsMessage asked ready a.state.rx.tails w) × (y.r.call ≡ call) × (y.source ≡ x.source) × (y.k ≡ x.place) × (y.item.head ≡ x.head) × (y.place ≡ place))

abbrev pub PlacesTell : List Event → List Receive → List Peer → ℕ → Peer → Type 0
PlacesTell past asked states p a = (f : Receive) (least : ℕ) (x : Mark) (place : ℕ) → In f asked → f.least ≡ Some least → In (x, place) (placed (length f.buf) f.call past)
    → IsComingAt a.state.rx f.call x place ⊎ IsToldAt asked (seen program states p).ready a f.call x place

abbrev pub PlacesFollow : Type 0
PlacesFollow = AtEveryMoment (λ from turns states p a. PlacesTell (past_of from turns p) (asked_of from turns p) states p a)

-- where the receive got a message, it takes no more after it exactly where then fewer than its least free bytes are left
abbrev pub ClosesWhenFull : List Event → List Receive → Type 0
ClosesWhenFull past asked = (f : Receive) (least : ℕ) (later before : List Event) (x : Mark) (last : Bool) → In f asked → f.least ≡ Some least → past ≡ later ++ Got f.call x last ∷ before
    → last ≡ nat_lt (length f.buf - used_in (length f.buf) f.call (Got f.call x last ∷ before)) least

abbrev pub ClosesInTime : Type 0
ClosesInTime = AtEveryMoment (λ from turns states p a. ClosesWhenFull (past_of from turns p) (asked_of from turns p))

-- ---- the buffer that comes back

-- the bytes stand in the buffer from the place on, as far as the buffer goes
abbrev pub StandsAt : List ℕ → ℕ → List ℕ → Type 0
StandsAt buf place bytes = (k byte : ℕ) → slice_get bytes k ≡ Some byte → place + k < length buf → slice_get buf (place + k) ≡ Some byte

-- the message is whole, and its bytes stand in the buffer at this place
abbrev pub HasPart : (ℕ → List Item) → List ℕ → List ℕ → Mark → ℕ → Type 0
HasPart ready tails buf x place = (item : Item) × (slice_get (ready x.source) x.place ≡ Some item) × (x.place < slice_index tails x.source) × StandsAt buf place item.bytes

-- the buffer that the entry hands back: of a receive for many messages that takes no more, or of a receive that is cancelled
abbrev pub handed_back : Taken → Option (List ℕ)
handed_back (Success entry) = elim entry [ Released ctx used buf ↦ Some buf | _ ↦ None ]
handed_back (Failure e) = elim e.kind [ Canceled ↦ e.buf | _ ↦ None ]

-- it has each message that the receive got at its place, and behind them what it had before
abbrev pub BufferHolds : List Event → (ℕ → List Item) → List ℕ → Receive → List ℕ → Type 0
BufferHolds past ready tails f buf =
    (length buf ≡ length f.buf)
    × ((x : Mark) (place : ℕ) → In (x, place) (placed (length f.buf) f.call past) → HasPart ready tails buf x place)
    × ((k : ℕ) → used_in (length f.buf) f.call past ≤ k → slice_get buf k ≡ slice_get f.buf k)

abbrev pub HandsBackParts : List Event → List Receive → List Peer → ℕ → Peer → Type 0
HandsBackParts past asked states p a = (f : Receive) (least : ℕ) (w : Written) (buf : List ℕ) → In f asked → f.least ≡ Some least → In w a.state.cq.written → w.call ≡ Some f.call → handed_back w.entry ≡ Some buf
    → BufferHolds past (seen program states p).ready a.state.rx.tails f buf

abbrev pub PartsStand : Type 0
PartsStand = AtEveryMoment (λ from turns states p a. HandsBackParts (past_of from turns p) (asked_of from turns p) states p a)

abbrev pub release_of : ℕ → ℕ → ℕ → List ℕ → Written
release_of call ctx used buf = record { call = Some call; entry = Success (Released ctx used buf) }

-- it is under the receive's context, tells how many bytes are given away, and the receive got its last message
abbrev pub ReleaseTells : List Event → List Receive → Peer → Type 0
ReleaseTells past asked a = (f : Receive) (least ctx used : ℕ) (buf : List ℕ) → In f asked → f.least ≡ Some least → In (release_of f.call ctx used buf) a.state.cq.written
    → (ctx ≡ f.ctx) × (used ≡ used_in (length f.buf) f.call past) × ((x : Mark) × In (Got f.call x true) past)

abbrev pub ReleasesTell : Type 0
ReleasesTell = AtEveryMoment (λ from turns states p a. ReleaseTells (past_of from turns p) (asked_of from turns p) a)

-- the receive's buffer is released, or a message that it got is not whole
abbrev pub IsReleasedOrWaits : Peer → ℕ → Type 0
IsReleasedOrWaits a call = ((ctx : ℕ) × (used : ℕ) × (buf : List ℕ) × In (release_of call ctx used buf) a.state.cq.written) ⊎ (under_way a.state.rx call ≡ true)

abbrev pub ReleasedInTime : List Event → List Receive → Peer → Type 0
ReleasedInTime past asked a = (f : Receive) (least : ℕ) (x : Mark) → In f asked → f.least ≡ Some least → In (Got f.call x true) past → IsReleasedOrWaits a f.call

abbrev pub ReleasesInTime : Type 0
ReleasesInTime = AtEveryMoment (λ from turns states p a. ReleasedInTime (past_of from turns p) (asked_of from turns p) a)

-- ---- one entry for each message

-- the entry of a message at its place; that of a receive for many messages has no bytes
abbrev pub entry_at : Receive → Mark × ℕ → Written
entry_at f q = record { call = Some f.call; entry = entry_of f q.1 q.0.source q.0.head [] }

-- the entry tells a message of the receive of this call
abbrev pub tells_of : ℕ → Written → Bool
tells_of call w = same_ctx w.call (Some call) && tells_message w.entry

-- the message comes to the receive of this call, and is not whole
abbrev pub is_coming : Receiving → ℕ → Mark → Bool
is_coming rx call x = same_ctx (goes_into (coming_from rx x.source)) (Some call) && (x.place == slice_index rx.tails x.source)

-- whatever entries one counts, the receive has as many of them as it got messages that are whole and whose entries these are
abbrev pub TellsEach : List Event → List Receive → Peer → Type 0
TellsEach past asked a = (f : Receive) (least : ℕ) → In f asked → f.least ≡ Some least → (test : Written → Bool)
    → count_by (λ w. tells_of f.call w && test w) a.state.cq.written ≡ count_by (λ q. not (is_coming a.state.rx f.call q.0) && test (entry_at f q)) (placed (length f.buf) f.call past)

abbrev pub TellsOnce : Type 0
TellsOnce = AtEveryMoment (λ from turns states p a. TellsEach (past_of from turns p) (asked_of from turns p) a)

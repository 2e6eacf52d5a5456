-- What is stored of the receive half, and how it stands for what contracts see: numbers of calls and places are forgotten.
--     Sits seats p r         the posted receive r is the pair p of the matching store
--     Lies parcels coming p a      the unexpected message a is the pair p of the matching store
--     IsWay parcels source stored coming item      what is stored of the item of this source that has arrived and is not whole
--     HasRoomFor n stored    so many more of its bytes may come
--     IsKept                 all of it but the messages that are claimed and what is known of multi-receives
--     IsClaim, AreClaimed    these: pairs of ids and contexts
--     turned f bytes source xs      where a message leaves that is not whole, another thing stands at its source
use Rattle.std.specs.Prelude.{◌≡◌, ℕ, ◌+◌, ◌<◌, ◌≤◌, ◌^◌, true, false, List, [], ◌∷◌, length, Option, Some, None, is_some, slice_index, slice_index_or, slice_set, vec_capacity}
use Rattle.std.specs.List.{AllZip}
use Rattle.std.specs.Option.{option_map}
use Rattle.fab_base.specs.declared.items.Item.{Item}
use Rattle.fab_base.specs.declared.items.ItemHead.{ItemHead}
use Rattle.fab_base.specs.declared.items.Want.{Want}
use Rattle.fab_base.specs.declared.items.Sign.{Sign}
use Rattle.fab_base.specs.declared.operations.Receive.{Receive}
use Rattle.fab_base.specs.declared.operations.Arrival.{Arrival}
use Rattle.fab_base.specs.declared.operations.Coming.{Coming}
use Rattle.fab_base.specs.declared.operations.Coming.TheVariants.{Into as IntoReceive, Keep as KeepIt, Throw as ThrowIt}
use Rattle.fab_base.specs.Kinds.{is_message}
use Rattle.fab_model.specs.State.{coming_from}
use Rattle.fab_model.specs.Complete.{paste}
use Rattle.fab_model.specs.Arrivals.{way_of}
use Rattle.fab_match.specs.Signs.{sign_of}
use Rattle.fab_match.specs.Matcher.{has_id}
use Rattle.fab_rx.specs.declared.stored.Seat.{Seat}
use Rattle.fab_rx.specs.declared.stored.Multi.{Multi}
use Rattle.fab_rx.specs.declared.stored.Waiting.{Waiting}
use Rattle.fab_rx.specs.declared.stored.Parcel.{Parcel}
use Rattle.fab_rx.specs.declared.stored.Way.{Way}
use Rattle.fab_rx.specs.declared.stored.Way.TheVariants.{Into, Part, Keep, Throw, Gather}
use Rattle.fab_rx.specs.declared.stored.Begun.{Begun}
use Rattle.fab_rx.specs.declared.results.Seen.{Seen}
use Rattle.fab_rx.specs.Table.{Cells, at}
use Rattle.fab_rx.specs.Arriving.{Arriving, IsSingle, begun_of, count_begun}

-- ---- receives

-- the receive, with these first bytes of its message in its buffer
abbrev pub seat_with : Receive → List ℕ → Seat
seat_with r bytes = record { buf = paste r.buf 0 bytes; ctx = r.ctx }

abbrev pub seat_of : Receive → Seat
seat_of r = record { buf = r.buf; ctx = r.ctx }

-- what a multi-receive has besides
abbrev pub multi_of : Receive → Option Multi
multi_of r = option_map (λ least. record { want = r.want; least = least; used = r.used }) r.least

abbrev pub waiting_of : Receive → Waiting
waiting_of r = record { seat = seat_of r; multi = multi_of r }

-- what a receive gave away is within its buffer, and nothing where it is for one message
pub record IsFit (r : Receive) : Type 0 where
  pub single : r.least ≡ None → r.used ≡ 0
  pub within : r.used ≤ length r.buf
  pub small : is_some r.least ≡ true → length r.buf < 2 ^ 32

pub record Sits (seats : Cells Waiting) (p : ℕ × Want) (r : Receive) : Type 0 where
  pub want : p.1 ≡ r.want
  pub seat : at seats p.0 ≡ Some (waiting_of r)
  pub fit : IsFit r

-- ---- unexpected messages

abbrev pub parcel_of : Arrival → Parcel
parcel_of a = record { source = a.source; head = a.head; bytes = a.bytes }

-- the bytes are gathered for the message under this id
abbrev pub IsKeptWay : ℕ → Way → Type 0
IsKeptWay id (Keep k bytes) = k ≡ id
IsKeptWay id (Into seat) = ⊥
IsKeptWay id (Part k at bytes) = ⊥
IsKeptWay id Throw = ⊥
IsKeptWay id (Gather bytes) = ⊥

abbrev pub IsKeptAs : ℕ → Option Begun → Type 0
IsKeptAs id None = ⊥
IsKeptAs id (Some b) = IsKeptWay id b.way

pub record Lies (parcels : Cells Parcel) (coming : List (Option Begun)) (p : ℕ × Sign) (a : Arrival) : Type 0 where
  pub parcel : at parcels p.0 ≡ Some (parcel_of a)
  pub sign : p.1 ≡ sign_of a.source a.head
  pub message : is_message a.head.kind ≡ true
  -- where it is not whole, its bytes are being gathered for it
  pub partly : a.bytes ≡ None → IsKeptAs p.0 (slice_index_or coming a.source None)

-- ---- items under way

-- the message under this id, without its bytes
abbrev pub parcel_without : ℕ → ItemHead → Parcel
parcel_without source head = record { source = source; head = head; bytes = None }

abbrev pub GoesBy : Cells Parcel → ℕ → Way → Coming → Item → Type 0
GoesBy parcels source (Into seat) c item = (r : Receive) × (c ≡ IntoReceive r 0) × IsSingle r × (seat ≡ seat_with r item.bytes)
GoesBy parcels source (Part id at bytes) c item = (r : Receive) × (c ≡ IntoReceive r at) × (bytes.items ≡ item.bytes) × (item.head.total ≤ vec_capacity bytes)
GoesBy parcels source (Keep id bytes) c item =
    (c ≡ KeepIt) × (bytes.items ≡ item.bytes) × (item.head.total ≤ vec_capacity bytes) × (at parcels id ≡ Some (parcel_without source item.head))
GoesBy parcels source Throw c item = c ≡ ThrowIt
GoesBy parcels source (Gather bytes) c item = (c ≡ way_of item.head.kind) × (bytes.items ≡ item.bytes) × (item.head.total ≤ vec_capacity bytes)

pub record IsComing (parcels : Cells Parcel) (source : ℕ) (b : Begun) (c : Coming) (item : Item) : Type 0 where
  pub head : item.head ≡ b.head
  pub got : b.got ≡ length item.bytes
  pub within : length item.bytes ≤ item.head.total
  pub way : GoesBy parcels source b.way c item

abbrev pub IsWay : Cells Parcel → ℕ → Option Begun → Option Coming → Option Item → Type 0
IsWay parcels source None c i = (c ≡ None) × (i ≡ None)
IsWay parcels source (Some b) c i = (way : Coming) × (item : Item) × (c ≡ Some way) × (i ≡ Some item) × IsComing parcels source b way item

-- how many completions its end writes
abbrev pub entries_by : Way → ℕ
entries_by (Into seat) = 1
entries_by (Part id at bytes) = 1
entries_by (Keep id bytes) = 0
entries_by Throw = 0
entries_by (Gather bytes) = 0

-- so many more bytes of the item have room
abbrev pub WayHasRoomFor : ℕ → Way → Type 0
WayHasRoomFor n (Into seat) = Unit {0}
WayHasRoomFor n (Part id at bytes) = length bytes.items + n ≤ vec_capacity bytes
WayHasRoomFor n (Keep id bytes) = length bytes.items + n ≤ vec_capacity bytes
WayHasRoomFor n Throw = Unit {0}
WayHasRoomFor n (Gather bytes) = length bytes.items + n ≤ vec_capacity bytes

pub record HasRoomFor (n : ℕ) (b : Begun) : Type 0 where
  pub total : b.got + n ≤ b.head.total
  pub way : WayHasRoomFor n b.way

-- ---- messages that leave

abbrev pub seen_of : Parcel → Seen
seen_of p = record { source = p.source; head = p.head; whole = is_some p.bytes }

-- the bytes that are gathered for a message, in the buffer
abbrev pub moved : Way → List ℕ → List ℕ
moved (Into seat) buf = buf
moved (Part id at bytes) buf = buf
moved (Keep id bytes) buf = paste buf 0 bytes.items
moved Throw buf = buf
moved (Gather bytes) buf = buf

-- what was kept goes on into a receive, or nowhere
abbrev pub redirected : List ℕ → ℕ → Begun → Begun
redirected buf ctx b = record { head = b.head; got = b.got; way = Into (record { buf = moved b.way buf; ctx = ctx }) }

abbrev pub thrown_on : Begun → Begun
thrown_on b = record { head = b.head; got = b.got; way = Throw }

-- what was kept goes on to a place of the multi-receive under this id
abbrev pub part_way : ℕ → ℕ → Way → Way
part_way id place (Keep k bytes) = Part id place bytes
part_way id place way = way

abbrev pub gone_on : ℕ → ℕ → Begun → Begun
gone_on id place b = record { head = b.head; got = b.got; way = part_way id place b.way }

abbrev pub turned : {X : Type 0} → (Option X → Option X) → Option (List ℕ) → ℕ → List (Option X) → List (Option X)
turned f None source xs = slice_set xs source (f (slice_index_or xs source None))
turned f (Some bytes) source xs = xs

-- ---- all of it

pub record IsKept (posted : List (ℕ × Want)) (unexpected : List (ℕ × Sign)) (room : ℕ) (seats : Cells Waiting) (parcels : Cells Parcel) (coming : List (Option Begun)) (v : Arriving) : Type 0 where
  pub receives : AllZip (Sits seats) posted v.rx.posted
  pub messages : AllZip (Lies parcels coming) unexpected v.rx.unexpected
  pub ways : (s : ℕ) → IsWay parcels s (slice_index_or coming s None) (coming_from v.rx s) (begun_of v s)
  pub few : length posted ≤ v.most
  pub most : room ≡ v.most
  -- a member for each peer
  pub peers : length coming ≡ length v.begun
  pub comings : length v.rx.coming ≡ length v.begun
  pub heads : length v.rx.heads ≡ length v.begun
  pub tails : length v.rx.tails ≡ length v.begun
  pub under_way : (s : ℕ) → s < length v.begun → slice_index v.rx.heads s ≡ slice_index v.rx.tails s + count_begun (begun_of v s)

-- the claimed message c is the pair p of an id and its context
pub record IsClaim (parcels : Cells Parcel) (coming : List (Option Begun)) (p : ℕ × ℕ) (c : ℕ × Arrival) : Type 0 where
  pub ctx : p.1 ≡ c.0
  pub sign : Sign
  pub lies : Lies parcels coming (p.0, sign) c.1

-- no id is twice on the second list, and none of the first is on it
abbrev pub AreApart : {X Y : Type 0} → List (ℕ × X) → List (ℕ × Y) → Type 0
AreApart xs [] = Unit {0}
AreApart xs (p ∷ ys) = (has_id p.0 xs ≡ false) × (has_id p.0 ys ≡ false) × AreApart xs ys

pub record AreClaimed (unexpected : List (ℕ × Sign)) (parcels : Cells Parcel) (coming : List (Option Begun)) (claims : List (ℕ × ℕ)) (capacity : ℕ) (claimed : List (ℕ × Arrival)) : Type 0 where
  pub messages : AllZip (IsClaim parcels coming) claims claimed
  pub apart : AreApart unexpected claims
  -- each that is stored is a message, and each may be claimed
  pub filed : parcels.spare + length unexpected + length claims ≡ length parcels.cells
  pub reserved : length unexpected + length claims ≤ capacity

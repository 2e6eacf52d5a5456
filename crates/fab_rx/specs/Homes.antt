-- What is stored of multi-receives (FI_MULTI_RECV of fi_msg(3)): each stands under its id from its call until its buffer comes back.
--     is_part_of id way       the item goes to the multi-receive under this id
--     part_id way             the id of the one to which the item goes
--     is_fed_by id begun      the same of what is stored of a source
--     IsHome, Rests           what is known of a receive that is posted, and of a multi-receive that is closing
--     IsMore                  more bytes come of what is stored of an item
--     IsPart                  what is known of the multi-receive under the id to which an item goes
--     AreMulti                all of it: homes gives the id of a multi-receive by the number of its call, calls the number by the id
use Rattle.std.specs.Prelude.{◌≡◌, ℕ, ◌+◌, ◌==◌, ◌≤◌, Bool, true, false, List, [], length, Option, Some, None, is_some, slice_index_or, unwrap_or}
use Rattle.std.specs.List.{AllZip, AllByRecursion, list_any}
use Rattle.std.specs.Option.{option_map}
use Rattle.fab_base.specs.declared.items.Item.{Item}
use Rattle.fab_base.specs.declared.items.Kind.{Kind}
use Rattle.fab_base.specs.declared.items.Want.{Want}
use Rattle.fab_base.specs.declared.operations.Receive.{Receive}
use Rattle.fab_base.specs.declared.operations.Coming.{Coming}
use Rattle.fab_base.specs.declared.operations.Coming.TheVariants.{Into as IntoReceive, Keep as KeepIt, Throw as ThrowIt}
use Rattle.fab_model.specs.Arrivals.{way_of}
use Rattle.fab_rx.specs.declared.stored.Parcel.{Parcel}
use Rattle.fab_rx.specs.declared.stored.Waiting.{Waiting}
use Rattle.fab_rx.specs.declared.stored.Way.{Way}
use Rattle.fab_rx.specs.declared.stored.Way.TheVariants.{Into, Part, Keep, Throw, Gather}
use Rattle.fab_rx.specs.declared.stored.Begun.{Begun}
use Rattle.fab_rx.specs.Table.{Cells, at}
use Rattle.fab_rx.specs.Arriving.{call_in, id_in, lengthened}
use Rattle.fab_rx.specs.Stored.{AreApart, IsComing, IsFit, IsKeptWay, waiting_of}

-- ---- items under way

abbrev pub is_part_of : ℕ → Way → Bool
is_part_of id (Into seat) = false
is_part_of id (Part k at bytes) = k == id
is_part_of id (Keep k bytes) = false
is_part_of id Throw = false
is_part_of id (Gather bytes) = false

abbrev pub is_fed_by : ℕ → Option Begun → Bool
is_fed_by id None = false
is_fed_by id (Some b) = is_part_of id b.way

-- the id of the multi-receive to which the item goes
abbrev pub part_id : Way → Option ℕ
part_id (Into seat) = None
part_id (Part k at bytes) = Some k
part_id (Keep k bytes) = None
part_id Throw = None
part_id (Gather bytes) = None

abbrev pub part_in : Option Begun → Option ℕ
part_in None = None
part_in (Some b) = part_id b.way

-- ---- receives and their ids

pub record IsHome (homes : ℕ → Option ℕ) (calls : ℕ → ℕ) (p : ℕ × Want) (r : Receive) : Type 0 where
  pub home : homes r.call ≡ option_map (λ least. p.0) r.least
  pub call : is_some r.least ≡ true → calls p.0 ≡ r.call

pub record Rests (homes : ℕ → Option ℕ) (calls : ℕ → ℕ) (seats : Cells Waiting) (c : ℕ × ℕ) (r : Receive) : Type 0 where
  pub seat : at seats c.0 ≡ Some (waiting_of r)
  pub ctx : c.1 ≡ r.ctx
  pub multi : is_some r.least ≡ true
  pub home : homes r.call ≡ Some c.0
  pub call : calls c.0 ≡ r.call
  pub fit : IsFit r

pub record IsPart (homes : ℕ → Option ℕ) (calls : ℕ → ℕ) (seats : Cells Waiting) (id : ℕ) (r : Receive) : Type 0 where
  pub multi : is_some r.least ≡ true
  pub home : homes r.call ≡ Some id
  pub call : calls id ≡ r.call
  pub there : Waiting
  pub seat : at seats id ≡ Some there
  pub shared : is_some there.multi ≡ true
  pub ctx : there.seat.ctx ≡ r.ctx
  pub long : length there.seat.buf ≡ length r.buf

abbrev pub GoesHomeBy : (ℕ → Option ℕ) → (ℕ → ℕ) → Cells Waiting → Way → Option Coming → Type 0
GoesHomeBy homes calls seats (Into seat) c = (r : Receive) × (c ≡ Some (IntoReceive r 0)) × (r.least ≡ None) × (homes r.call ≡ None)
GoesHomeBy homes calls seats (Part id at bytes) c = (r : Receive) × (c ≡ Some (IntoReceive r at)) × IsPart homes calls seats id r
GoesHomeBy homes calls seats (Keep id bytes) c = c ≡ Some KeepIt
GoesHomeBy homes calls seats Throw c = c ≡ Some ThrowIt
GoesHomeBy homes calls seats (Gather bytes) c = (kind : Kind) × (c ≡ Some (way_of kind))

abbrev pub GoesHome : (ℕ → Option ℕ) → (ℕ → ℕ) → Cells Waiting → Option Begun → Option Coming → Type 0
GoesHome homes calls seats None c = c ≡ None
GoesHome homes calls seats (Some b) c = GoesHomeBy homes calls seats b.way c

-- ---- more bytes come

-- what is stored of an item, b, is that of the item with these bytes besides in new
pub record IsMore (bytes : List ℕ) (b new : Begun) : Type 0 where
  pub coming : (parcels : Cells Parcel) (source : ℕ) (c : Coming) (item : Item) → IsComing parcels source b c item → IsComing parcels source new c (lengthened bytes item)
  pub id : (id : ℕ) → IsKeptWay id b.way → IsKeptWay id new.way
  pub home : (homes : ℕ → Option ℕ) (calls : ℕ → ℕ) (seats : Cells Waiting) (c : Option Coming) → GoesHomeBy homes calls seats b.way c → GoesHomeBy homes calls seats new.way c
  pub part : (id : ℕ) → is_part_of id new.way ≡ is_part_of id b.way

-- ---- all of it

-- an item is under way to the multi-receive
abbrev pub IsFed : List (Option Begun) → ℕ × ℕ → Type 0
IsFed coming c = list_any (is_fed_by c.0) coming ≡ true

abbrev pub no_pairs : List (ℕ × ℕ)
no_pairs = []

pub record AreMulti (ps : List (ℕ × Want)) (cs : List (ℕ × ℕ)) (seats : Cells Waiting) (coming : List (Option Begun)) (posted closing : List Receive) (comes : List (Option Coming)) (next : ℕ) (multis : List (ℕ × ℕ)) (most : ℕ) : Type 0 where
  pub homes : ℕ → Option ℕ
  pub calls : ℕ → ℕ
  pub posted_home : AllZip (IsHome homes calls) ps posted
  pub closing_rest : AllZip (Rests homes calls seats) cs closing
  pub distinct : AreApart no_pairs ps
  pub apart : AreApart ps cs
  pub ways : (s : ℕ) → GoesHome homes calls seats (slice_index_or coming s None) (slice_index_or comes s None)
  -- one that is closing has an item under way
  pub live : AllByRecursion (IsFed coming) cs
  pub fresh : (call : ℕ) → next ≤ call → homes call ≡ None
  -- no multi-receive is known where none was posted
  pub plain : multis ≡ [] → (call : ℕ) → homes call ≡ None
  -- both are told
  pub ids : (call : ℕ) → homes call ≡ id_in multis call
  pub numbers : (id : ℕ) → calls id ≡ unwrap_or (call_in multis id) 0
  -- the last one under an id has it
  pub back : (id call : ℕ) → call_in multis id ≡ Some call → id_in multis call ≡ Some id
  -- each receive that may be posted has a place, and each source one for the multi-receive that its item closes
  pub spare : most + length coming ≤ seats.spare + length ps + length cs

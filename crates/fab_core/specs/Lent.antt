-- What holds of multi-receives between calls of an endpoint (FI_MULTI_RECV of fi_msg(3)): of those that are posted or closing, of what still comes into them, and of what of them is unread.
--     back_of cq call          the buffer that an entry of the call gave back
--     size_of rx cq call       the length of the buffer of the multi-receive of the call
--     is_ending entry          the last entry of a receive
--     IsComingIn               what comes goes to a place within a multi-receive that is posted or closing, or to a receive for one message
--     IsUnread                 an unread entry is of a multi-receive whose end was not read
--     IsPlaced                 what is stored of one whose end was not read: where its buffer is
--     AreSingle                no two are of one call
--     AreApart                 no operation is of a call that posted one
--     IsLent                   all of it
use Rattle.std.specs.List.{AllZip}
use Rattle.std.specs.Prelude.{◌≡◌, ◌≢◌, ℕ, ◌+◌, ◌<◌, ◌≤◌, Bool, true, false, List, [], ◌∷◌, length, Option, Some, None, is_some, slice_get, unwrap_or, All, Contains}
use Rattle.fab_base.specs.declared.entries.Entry.TheVariants.{Released}
use Rattle.fab_base.specs.declared.entries.ErrEntry.{ErrEntry}
use Rattle.fab_base.specs.declared.entries.ErrKind.TheVariants.{Canceled}
use Rattle.fab_base.specs.declared.entries.Taken.{Taken}
use Rattle.fab_base.specs.declared.entries.Taken.TheVariants.{Success, Failure}
use Rattle.fab_base.specs.declared.operations.Coming.{Coming}
use Rattle.fab_base.specs.declared.operations.Coming.TheVariants.{Into}
use Rattle.fab_base.specs.declared.operations.Held.{Held}
use Rattle.fab_base.specs.declared.operations.Operation.{Operation}
use Rattle.fab_base.specs.declared.operations.Receive.{Receive}
use Rattle.fab_base.specs.declared.operations.Written.{Written}
use Rattle.fab_model.specs.State.{Completions, Receiving, Transmitting, coming_from, held_for}
use Rattle.fab_model.specs.Peers.{first_some, part_of, released_buf}
use Rattle.fab_rx.specs.Opened.{is_multi, opened, sized}
use Rattle.fab_cq.specs.Queues.{buffer_in, later}
use Rattle.fab_rx.specs.Arriving.{call_in, id_in}
use Rattle.fab_settling.specs.declared.places.Place.{Place}
use Rattle.fab_settling.specs.declared.places.Place.TheVariants.{Open, Ended}
use Rattle.fab_settling.specs.declared.places.Member.{Member}
use Rattle.fab_settling.specs.Members.{Members}
use Rattle.fab_core.specs.Parts.{Parts}

-- there is memory for each one that may be posted, closing, or ended and unread
abbrev pub HasPlaces : ℕ → ℕ → ℕ → Members → Type 0
HasPlaces most peers size multis = most + peers + size < multis.room

abbrev pub back_of : Completions → ℕ → Option (List ℕ)
back_of cq call = first_some (released_buf (Some call)) cq.written

abbrev pub size_by : Option (ℕ × ℕ) → Option (List ℕ) → ℕ
size_by (Some x) back = x.1
size_by None back = length (unwrap_or back [])

abbrev pub size_of : Receiving → Completions → ℕ → ℕ
size_of rx cq call = size_by (opened rx call) (back_of cq call)

abbrev pub is_ending : Taken → Bool
is_ending entry = elim entry [
  | Success entry ↦ elim entry [ Released ctx used buf ↦ true | _ ↦ false ]
  | Failure e ↦ elim e.kind [ Canceled ↦ true | _ ↦ false ]
]

abbrev pub GoesInto : Receiving → List (ℕ × ℕ) → ℕ → Option ℕ → Receive → ℕ → Type 0
GoesInto rx known calls None r place = (is_multi known r.call ≡ false) × (r.call < calls)
GoesInto rx known calls (Some least) r place = (is_multi known r.call ≡ true) × (opened rx r.call ≡ Some (sized r)) × (place ≤ length r.buf)

abbrev pub IsComingIn : Receiving → List (ℕ × ℕ) → ℕ → Option Coming → Type 0
IsComingIn rx known calls (Some (Into r place)) = GoesInto rx known calls r.least r place
IsComingIn rx known calls _ = Unit {0}

pub record IsUnread (rx : Receiving) (known : List (ℕ × ℕ)) (cq : Completions) (multis : List (ℕ × ℕ)) (w : Written) : Type 0 where
  pub parts : (ctx at len : ℕ) → part_of w.entry ≡ Some (ctx, at, len) → (call : ℕ) × (w.call ≡ Some call) × Contains multis (ctx, call) × (at + len ≤ size_of rx cq call)
  pub ends : (ctx used : ℕ) (buf : List ℕ) → w.entry ≡ Success (Released ctx used buf) → (call : ℕ) × (w.call ≡ Some call) × Contains multis (ctx, call)
  pub cancels : (e : ErrEntry) → w.entry ≡ Failure e → e.kind ≡ Canceled → e.at ≡ None
  -- the end of a multi-receive gives its buffer back
  pub back : (call : ℕ) → w.call ≡ Some call → is_multi known call ≡ true → is_ending w.entry ≡ true → is_some (released_buf (Some call) w) ≡ true

-- ---- what is stored

-- the buffer is with the receive under the id, or in the unread entry that gives it back
abbrev pub IsAt : Receiving → List (ℕ × ℕ) → Completions → ℕ → Place → Type 0
IsAt rx known cq call (Open id) = (id_in known call ≡ Some id) × (call_in known id ≡ Some call) × (is_some (opened rx call) ≡ true)
IsAt rx known cq call (Ended n) = (w : Written) × (buf : List ℕ) × (later n cq ≡ Some w) × (w.call ≡ Some call) × (is_ending w.entry ≡ true) × (buffer_in w.entry ≡ Some buf) × (back_of cq call ≡ Some buf)

pub record IsPlaced (rx : Receiving) (known : List (ℕ × ℕ)) (cq : Completions) (s : Member) (m : ℕ × ℕ) : Type 0 where
  pub ctx : s.ctx ≡ m.0
  pub multi : is_multi known m.1 ≡ true
  pub place : IsAt rx known cq m.1 s.place

abbrev pub AreOthers : ℕ → List (ℕ × ℕ) → Type 0
AreOthers call [] = Unit {0}
AreOthers call (m ∷ ms) = (m.1 ≢ call) × AreOthers call ms

abbrev pub AreSingle : List (ℕ × ℕ) → Type 0
AreSingle [] = Unit {0}
AreSingle (m ∷ ms) = AreOthers m.1 ms × AreSingle ms

-- the call is an earlier one, which posted no multi-receive
abbrev pub IsOther : List (ℕ × ℕ) → ℕ → ℕ → Type 0
IsOther known calls call = (call < calls) × (is_multi known call ≡ false)

-- so are those of all operations: of those that are live, and of those that a fence holds back
abbrev pub AreApart : List (ℕ × ℕ) → ℕ → Transmitting → Type 0
AreApart known calls tx = All (λ (o : Operation). IsOther known calls o.call) tx.live × ((t : ℕ) → All (λ (h : Held). IsOther known calls h.call) (held_for tx t))

-- `known` are all multi-receives ever posted, `multis` those whose end was not read
pub record IsLent (rx : Receiving) (known : List (ℕ × ℕ)) (tx : Transmitting) (cq : Completions) (calls : ℕ) (multis : Members) : Type 0 where
  pub made : (i : ℕ) (w : Written) (call : ℕ) → slice_get cq.written i ≡ Some w → w.call ≡ Some call → call < calls
  pub early : (call : ℕ) → is_multi known call ≡ true → call < calls
  pub others : AreApart known calls tx
  pub posted : (m : ℕ × ℕ) → Contains multis.list m → is_multi known m.1 ≡ true
  pub once : (c d call : ℕ) → Contains multis.list (c, call) → Contains multis.list (d, call) → c ≡ d
  -- of one that is posted or closing, the end was not read, and no buffer came back
  pub stands : (call : ℕ) (x : ℕ × ℕ) → is_multi known call ≡ true → opened rx call ≡ Some x → Contains multis.list (x.0, call) × (back_of cq call ≡ None)
  pub coming : (s : ℕ) → IsComingIn rx known calls (coming_from rx s)
  pub unread : (i : ℕ) (w : Written) → cq.taken_out ≤ i → slice_get cq.written i ≡ Some w → IsUnread rx known cq multis.list w
  -- behind the entry that gives the buffer back none is of the same call
  pub last : (i j : ℕ) (w u : Written) (call : ℕ) → cq.taken_out ≤ i → i < j → slice_get cq.written i ≡ Some w → slice_get cq.written j ≡ Some u → is_multi known call ≡ true → is_some (released_buf (Some call) w) ≡ true → u.call ≢ Some call
  pub taken : cq.taken_out ≤ length cq.written
  pub placed : AllZip (IsPlaced rx known cq) multis.places multis.list
  pub single : AreSingle multis.list

-- the same of an endpoint's parts
abbrev pub IsLentBy : Parts → Type 0
IsLentBy p = IsLent p.rx.rx p.rx.multis p.tx.tx p.cq p.calls p.multis

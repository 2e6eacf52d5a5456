-- What a receive got it completes with, and no message is lost, at every moment that some order of turns leads to from the opening.
--     GotIsTold      what a receive got is told by an entry of its number, or is still on its way
--     TookIsTold     so is what a call took of those set aside
--     OneTells       the final completion of a receive that got a message, and is no multi-receive, tells this message
--     GoesOnce       a message goes to one receive, or is claimed or discarded, once
--     NoneIsLost     each message that arrived waits, went to a receive, is set aside, or was taken, dropped or discarded by a call
use Rattle.std.specs.Prelude.{◌≡◌, ℕ, Bool, true, List, ◌∷◌, ◌++◌, map, Some, None, slice_get, slice_index, ◌⊎◌}
use Rattle.fab_base.specs.declared.items.Item.{Item}
use Rattle.fab_base.specs.declared.operations.Receive.{Receive}
use Rattle.fab_base.specs.declared.operations.Written.{Written}
use Rattle.fab_model.specs.Complete.{entry_of}
use Rattle.fab_model.specs.State.{Receiving, coming_from}
use Rattle.fab_model.specs.Views.{seen}
use Rattle.fab_laws.specs.Members.{In, Never}
use Rattle.fab_laws.specs.Moments.{AtEveryMoment}
use Rattle.fab_laws.specs.Programs.{Peer, program}
use Rattle.fab_laws.specs.Completed.{is_final}
use Rattle.fab_laws.specs.Matched.{Event, Got, Lost, Mark, came, goes_into, gone, mark_of, past_of}
use Rattle.fab_laws.specs.Claimed.{Discarded, Dropped, Handling, Took, aside_of, handled_of}
use Rattle.fab_laws.specs.MessageLaws.{IsMessage, asked_of}

-- the message has arrived, and its rest comes to the receive of this call
abbrev pub IsComing : Receiving → ℕ → Mark → Type 0
IsComing rx call x = (goes_into (coming_from rx x.source) ≡ Some call) × (x.place ≡ slice_index rx.tails x.source)

-- an entry of this call tells the message: its item, which is whole, with its bytes or its truncation
abbrev pub IsToldOf : List Receive → (ℕ → List Item) → Peer → ℕ → Mark → Type 0
IsToldOf asked ready a call x = (w : Written) × In w a.state.cq.written × ((y : IsMessage asked ready a.state.rx.tails w) × (y.r.call ≡ call) × (y.source ≡ x.source) × (y.k ≡ x.place) × (y.item.head ≡ x.head))

abbrev pub GotTold : List Event → List Receive → List Peer → ℕ → Peer → Type 0
GotTold past asked states p a = (call : ℕ) (x : Mark) (last : Bool) → In (Got call x last) past → IsComing a.state.rx call x ⊎ IsToldOf asked (seen program states p).ready a call x

abbrev pub GotIsTold : Type 0
GotIsTold = AtEveryMoment (λ from turns states p a. GotTold (past_of from turns p) (asked_of from turns p) states p a)

abbrev pub TookTold : List Handling → List Receive → List Peer → ℕ → Peer → Type 0
TookTold h asked states p a = (call ctx : ℕ) (x : Mark) → In (Took call ctx x) h → IsComing a.state.rx call x ⊎ IsToldOf asked (seen program states p).ready a call x

abbrev pub TookIsTold : Type 0
TookIsTold = AtEveryMoment (λ from turns states p a. TookTold (handled_of from turns p) (asked_of from turns p) states p a)

-- of a receive that is no multi-receive and got a message, each final completion is that of the message, in the receive's own buffer from its first byte on
abbrev pub OneTellsIt : List Event → List Receive → List Peer → ℕ → Peer → Type 0
OneTellsIt past asked states p a = (f : Receive) (x : Mark) (last : Bool) (w : Written) → In f asked → f.least ≡ None → In (Got f.call x last) past → In w a.state.cq.written → is_final f.call w ≡ true
    → (item : Item) × (slice_get ((seen program states p).ready x.source) x.place ≡ Some item) × (w.entry ≡ entry_of f 0 x.source item.head item.bytes)

abbrev pub OneTells : Type 0
OneTells = AtEveryMoment (λ from turns states p a. OneTellsIt (past_of from turns p) (asked_of from turns p) states p a)

-- ---- no message is lost

-- the event lets the message go
abbrev pub LetsGo : Mark → Event → Type 0
LetsGo x e = ((call : ℕ) × (last : Bool) × (e ≡ Got call x last)) ⊎ (e ≡ Lost x)

abbrev pub LeavesOnce : List Event → Type 0
LeavesOnce past = (later before : List Event) (e : Event) (x : Mark) → past ≡ later ++ e ∷ before → LetsGo x e → In x (gone before) → Never

abbrev pub GoesOnce : Type 0
GoesOnce = AtEveryMoment (λ from turns states p a. LeavesOnce (past_of from turns p))

-- where a message is that arrived
pub data Fate (past : List Event) (h : List Handling) (rx : Receiving) (x : Mark) : Type 0 where
  Waits : In x (map mark_of rx.unexpected) → Fate past h rx x
  Received : (call : ℕ) (last : Bool) → In (Got call x last) past → Fate past h rx x
  Aside : (ctx : ℕ) → In (ctx, x) (map aside_of rx.claimed) → Fate past h rx x
  WasTaken : (call ctx : ℕ) → In (Took call ctx x) h → Fate past h rx x
  WasDropped : (call ctx : ℕ) → In (Dropped call ctx x) h → Fate past h rx x
  WasDiscarded : (call : ℕ) → In (Discarded call x) h → Fate past h rx x

abbrev pub AllHaveFates : List Event → List Handling → Receiving → Type 0
AllHaveFates past h rx = (x : Mark) → In x (came past) → Fate past h rx x

abbrev pub NoneIsLost : Type 0
NoneIsLost = AtEveryMoment (λ from turns states p a. AllHaveFates (past_of from turns p) (handled_of from turns p) a.state.rx)

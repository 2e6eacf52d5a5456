-- The law of claims (FI_CLAIM, FI_DISCARD of fi_tagged(3)), at every moment that some order of turns leads to from the opening.
--     FreedRightly      a claimed message is taken or dropped once at the most, by a call under the context of its claim; nothing else lets it go
--     StaysClaimed      a claimed message is still set aside under its context, or was taken or dropped
--     LostIsPutAway     the messages that the history of matching tells as lost are those that were claimed or discarded
--     TakesTell         an entry that tells a message is of a receive that got it, or of the call that took it
use Rattle.std.specs.Prelude.{◌≡◌, ℕ, Bool, true, List, ◌∷◌, ◌++◌, map, ◌⊎◌}
use Rattle.fab_base.specs.declared.items.Item.{Item}
use Rattle.fab_base.specs.declared.operations.Receive.{Receive}
use Rattle.fab_base.specs.declared.operations.Written.{Written}
use Rattle.fab_model.specs.State.{Receiving}
use Rattle.fab_model.specs.Views.{seen}
use Rattle.fab_laws.specs.Members.{In, Never}
use Rattle.fab_laws.specs.Moments.{AtEveryMoment}
use Rattle.fab_laws.specs.Programs.{Peer, program}
use Rattle.fab_laws.specs.Matched.{Event, Got, Mark, past_of, tells_message}
use Rattle.fab_laws.specs.Claimed.{Claimed, Dropped, Handling, Slipped, Took, aside_of, freed, handled_of, lost, put_away}
use Rattle.fab_laws.specs.MessageLaws.{IsMessage, asked_of}

-- the call, under this context, took or dropped the message
abbrev pub Frees : ℕ → ℕ → Mark → Handling → Type 0
Frees call ctx x e = (e ≡ Took call ctx x) ⊎ (e ≡ Dropped call ctx x)

-- where a call took or dropped a message, it had been claimed under the call's context, and no call had taken or dropped it
abbrev pub FreesClaimed : List Handling → Type 0
FreesClaimed h = (later before : List Handling) (e : Handling) (call ctx : ℕ) (x : Mark) → h ≡ later ++ e ∷ before → Frees call ctx x e → In (Claimed ctx x) before × (In x (freed before) → Never)

-- no message goes from those set aside, or from the unexpected ones, but by a call that asks for it, or to a receive
abbrev pub NoneSlips : List Handling → Type 0
NoneSlips h = (x : Mark) → In (Slipped x) h → Never

abbrev pub FreedRightly : Type 0
FreedRightly = AtEveryMoment (λ from turns states p a. FreesClaimed (handled_of from turns p) × NoneSlips (handled_of from turns p))

-- what was claimed is set aside under its context, or a call under this context took or dropped it; and what is set aside was claimed so, and no call took or dropped it
abbrev pub StaysAside : List Handling → Receiving → Type 0
StaysAside h rx =
    ((ctx : ℕ) (x : Mark) → In (Claimed ctx x) h → In (ctx, x) (map aside_of rx.claimed) ⊎ ((call : ℕ) × (In (Took call ctx x) h ⊎ In (Dropped call ctx x) h)))
    × ((ctx : ℕ) (x : Mark) → In (ctx, x) (map aside_of rx.claimed) → In (Claimed ctx x) h × (In x (freed h) → Never))

abbrev pub StaysClaimed : Type 0
StaysClaimed = AtEveryMoment (λ from turns states p a. StaysAside (handled_of from turns p) a.state.rx)

abbrev pub IsPutAway : List Event → List Handling → Type 0
IsPutAway past h = lost past ≡ put_away h

abbrev pub LostIsPutAway : Type 0
LostIsPutAway = AtEveryMoment (λ from turns states p a. IsPutAway (past_of from turns p) (handled_of from turns p))

-- ---- entries

-- the receive got the message; or its call took the message, which had been claimed under the receive's context
abbrev pub WentTo : List Event → List Handling → Receive → Mark → Type 0
WentTo past h r x = ((last : Bool) × In (Got r.call x last) past) ⊎ In (Took r.call r.ctx x) h

abbrev pub IsOwn : List Event → List Handling → List Receive → (ℕ → List Item) → List ℕ → Written → Type 0
IsOwn past h m ready tails w = (y : IsMessage m ready tails w) × WentTo past h y.r (record { source = y.source; place = y.k; head = y.item.head })

abbrev pub EntryIsOwn : List Event → List Handling → List Receive → List Peer → ℕ → Peer → Type 0
EntryIsOwn past h asked states p a = (w : Written) → In w a.state.cq.written → tells_message w.entry ≡ true → IsOwn past h asked (seen program states p).ready a.state.rx.tails w

abbrev pub TakesTell : Type 0
TakesTell = AtEveryMoment (λ from turns states p a. EntryIsOwn (past_of from turns p) (handled_of from turns p) (asked_of from turns p) states p a)

-- What a receiver took of a sender, against what the sender posted to it, at every moment that some order of turns leads to from the opening.
--     whole_from, arrived_from from turns p source     the items of this source that became whole at p, that arrived there, in their order
--     posted_for p past                  the items of the calls that were accepted for p, in the order accepted
--     TakenIsFirst      what is whole is the first of what goes out to p, each item once
--     TakenIsPosted     so it is, without replies, the first of what was accepted for p
--     ArrivedIsFirst, ArrivedIsPosted      the same of what arrived
--     WholeHasArrived   what is whole is the first of what arrived, all but one item at most
--     AllIsTaken        at rest both are all that goes out to p
use Rattle.std.specs.Prelude.{◌≡◌, ◌≤◌, ◌+◌, ℕ, Bool, true, false, not, ◌==◌, List, [], ◌∷◌, ◌++◌, filter, length, Some, None, slice_get, slice_index}
use Rattle.fab_base.specs.declared.items.Item.{Item}
use Rattle.fab_model.specs.State.{accepted_for}
use Rattle.fab_model.specs.Orders.{Turn}
use Rattle.fab_model.specs.Views.{IsPrefixOf}
use Rattle.fab_laws.specs.Programs.{Deed, Draw, Head, Makes, Counts, Peer, Tail, at_rest}
use Rattle.fab_laws.specs.Moments.{AtEveryMoment, Note, remembered}
use Rattle.fab_laws.specs.Completed.{Accepted, Operations, Receives, Sends, operations_of}
use Rattle.fab_base.specs.Replies.{is_reply}

-- the item that becomes whole at a Tail of this source
abbrev pub taking : ℕ → Note (List Item)
taking source v a (Tail s) b m = elim (s == source) [
  | true ↦ elim (slice_get (v.ready s) (slice_index a.state.rx.tails s)) [ None ↦ m | Some item ↦ m ++ item ∷ [] ]
  | false ↦ m
]
taking source v a (Makes call) b m = m
taking source v a (Counts counters) b m = m
taking source v a (Head s) b m = m
taking source v a (Deed.Sent t) b m = m
taking source v a Draw b m = m
taking source v a Deed.Read b m = m

abbrev pub whole_from : List Peer → List (Turn Deed) → ℕ → ℕ → List Item
whole_from from turns p source = remembered (taking source) p turns from []

abbrev pub IsFirst : (ℕ → List Item) → List Peer → ℕ → Type 0
IsFirst whole states p = (source : ℕ) (c : Peer) → slice_get states source ≡ Some c → IsPrefixOf (whole source) (accepted_for c.state.tx p)

abbrev pub TakenIsFirst : Type 0
TakenIsFirst = AtEveryMoment (λ from turns states p a. IsFirst (whole_from from turns p) states p)

-- ---- by the calls

-- the item is no reply
abbrev pub asks : Item → Bool
asks x = not (is_reply x.head.kind)

abbrev pub posted_for : ℕ → List Accepted → List Item
posted_for p [] = []
posted_for p (Sends q h ∷ past) = elim (q == p) [ true ↦ posted_for p past ++ h.item ∷ [] | false ↦ posted_for p past ]
posted_for p (Receives call ∷ past) = posted_for p past

abbrev pub IsPosted : (ℕ → List Item) → (ℕ → Operations) → List Peer → ℕ → Type 0
IsPosted whole operations states p = (source : ℕ) (c : Peer) → slice_get states source ≡ Some c → IsPrefixOf (filter asks (whole source)) (posted_for p (operations source).accepted)

abbrev pub TakenIsPosted : Type 0
TakenIsPosted = AtEveryMoment (λ from turns states p a. IsPosted (whole_from from turns p) (operations_of from turns) states p)

-- ---- what arrived

-- the item that arrives at a Head of this source
abbrev pub arriving : ℕ → Note (List Item)
arriving source v a (Head s) b m = elim (s == source) [
  | true ↦ elim (slice_get (v.ready s) (slice_index a.state.rx.heads s)) [ None ↦ m | Some item ↦ m ++ item ∷ [] ]
  | false ↦ m
]
arriving source v a (Makes call) b m = m
arriving source v a (Counts counters) b m = m
arriving source v a (Tail s) b m = m
arriving source v a (Deed.Sent t) b m = m
arriving source v a Draw b m = m
arriving source v a Deed.Read b m = m

abbrev pub arrived_from : List Peer → List (Turn Deed) → ℕ → ℕ → List Item
arrived_from from turns p source = remembered (arriving source) p turns from []

abbrev pub ArrivedIsFirst : Type 0
ArrivedIsFirst = AtEveryMoment (λ from turns states p a. IsFirst (arrived_from from turns p) states p)

abbrev pub ArrivedIsPosted : Type 0
ArrivedIsPosted = AtEveryMoment (λ from turns states p a. IsPosted (arrived_from from turns p) (operations_of from turns) states p)

abbrev pub HasArrived : (ℕ → List Item) → (ℕ → List Item) → Type 0
HasArrived whole arrived = (source : ℕ) → IsPrefixOf (whole source) (arrived source) × (length (arrived source) ≤ length (whole source) + 1)

abbrev pub WholeHasArrived : Type 0
WholeHasArrived = AtEveryMoment (λ from turns states p a. HasArrived (whole_from from turns p) (arrived_from from turns p))

-- at rest
abbrev pub TakesAll : (ℕ → List Item) → (ℕ → List Item) → List Peer → ℕ → Type 0
TakesAll whole arrived states p = (source : ℕ) (c : Peer) → slice_get states source ≡ Some c → at_rest states ≡ true → (whole source ≡ arrived source) × (arrived source ≡ accepted_for c.state.tx p)

abbrev pub AllIsTaken : Type 0
AllIsTaken = AtEveryMoment (λ from turns states p a. TakesAll (whole_from from turns p) (arrived_from from turns p) states p)

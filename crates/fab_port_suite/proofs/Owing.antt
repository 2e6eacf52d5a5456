-- What a port tells that it owes, on a few frames.
use Rattle.std.proofs.Common.{◌≡◌, ◌≤◌, ◌+◌, ℕ, List, [], ◌∷◌, Option, Some, None, refl, arith}
use Rattle.fab_base.specs.declared.frames.Frame.{Frame}
use Rattle.fab_base.specs.declared.items.ItemHead.{ItemHead}
use Rattle.fab_base.specs.declared.items.Ack.{Ack}
use Rattle.fab_base.specs.declared.items.Ack.TheVariants.{Nothing, Delivery, Match}
use Rattle.fab_base.specs.declared.items.Kind.{Kind}
use Rattle.fab_base.specs.declared.items.Kind.TheVariants.{Msg, WriteReq, Reply}
use Rattle.fab_base.specs.declared.items.Outcome.TheVariants.{Done}
use Rattle.fab_link.specs.Frames.{frame}
use Rattle.fab_link.specs.Owing.{replies, owing}
use Rattle.fab_link.specs.Meaning.{Outgoing, Incoming, Repays}

-- the head of an item of 5,000 bytes, with operation 7
item : Kind → Ack → ItemHead
item kind ack = record { kind = kind; op = 7; tag = 0; imm = None; ack = ack; key = 0; at = 0; count = 0; atom = None; outcome = Done; total = 5000 }

first : Kind → Ack → Frame
first kind ack = frame (record { item = item kind ack; from = 0; len = 4096 }) []

last : Kind → Ack → Frame
last kind ack = frame (record { item = item kind ack; from = 4096; len = 904 }) []

-- an item owes its reply with its last frame, and a reply is begun with its first
a_request_owes_at_its_end : (owing 7 (first WriteReq Nothing ∷ []) ≡ 0) × (owing 7 (first WriteReq Nothing ∷ last WriteReq Nothing ∷ []) ≡ 1)
unfolding first last item
a_request_owes_at_its_end = (refl, refl)

a_reply_counts_at_its_start : (replies 7 (first Reply Nothing ∷ []) ≡ 1) × (replies 7 (first Reply Nothing ∷ last Reply Nothing ∷ []) ≡ 1)
unfolding first last item
a_reply_counts_at_its_start = (refl, refl)

-- a message owes one where it asks for it; a reply owes none; and another operation is another
what_owes : (owing 7 (last Msg Nothing ∷ []) ≡ 0) × (owing 7 (last Msg Delivery ∷ []) ≡ 1) × (owing 7 (last Msg Match ∷ []) ≡ 1) × (owing 7 (last Reply Delivery ∷ []) ≡ 0) × (owing 8 (last Msg Match ∷ []) ≡ 0)
unfolding last item
what_owes = (refl, refl, refl, refl, refl)

out : Option (ℕ → ℕ) → List Frame → Outgoing
out owed frames = record { after = None; owed = owed; frames = frames; lane_full_seen = 0; pool_full_seen = 0; full_at = 0 }

into : List Frame → Incoming
into taken = record { after = None; taken = taken; lent = None; empty_seen = 0; empty_at = 0 }

nothing_before : Option (ℕ → ℕ)
nothing_before = Some (λ op. 0)

-- where a request was taken whole, its reply may begin; before, and a second time, it may not
a_reply_may_begin : Repays (out nothing_before []) (into (first WriteReq Nothing ∷ last WriteReq Nothing ∷ [])) (first Reply Nothing).head
unfolding first last item out into nothing_before
a_reply_may_begin = λ _. omega arith

not_before : Repays (out nothing_before []) (into (first WriteReq Nothing ∷ [])) (first Reply Nothing).head → ⊥
unfolding first last item out into nothing_before
not_before owed = let le : 0 + 1 ≤ 0 + 0 = owed refl in omega (arith, le)

not_twice : Repays (out nothing_before (first Reply Nothing ∷ last Reply Nothing ∷ [])) (into (first WriteReq Nothing ∷ last WriteReq Nothing ∷ [])) (first Reply Nothing).head → ⊥
unfolding first last item out into nothing_before
not_twice owed = let le : 1 + 1 ≤ 0 + 1 = owed refl in omega (arith, le)

-- its other frames may go on, and what was owed before the list counts too; a port that tells nothing lets all begin
it_goes_on : Repays (out nothing_before (first Reply Nothing ∷ [])) (into []) (last Reply Nothing).head
unfolding first last item out into nothing_before
it_goes_on = λ begins. absurd (cc (begins))

owed_before : Repays (out (Some (λ op. 1)) []) (into []) (first Reply Nothing).head
unfolding first item out into
owed_before = λ _. omega arith

not_told : Repays (out None []) (into []) (first Reply Nothing).head
unfolding first item out into
not_told = λ _. tt

-- What bodies of a machine's calls do that the clauses of its traits refuse. Each call is handed on in `src/machines.rt`.
--     longer_message    `send_fault`, none: it passes a message above the limit
--     second_claim      `look_fault`, none: it passes a claim under a context that has a claim
--     lends_past        `multi_bytes`, some: it lends bytes which end behind the buffer
--     early_reply       `take`, yes: it books a reply, or anything else to be sent, before the last frame of an item
use Rattle.std.proofs.Common.{◌≡◌, ◌≢◌, ◌<◌, ℕ, ◌+◌, Bool, true, false, not, ◌&&◌, ◌||◌, List, [], ◌∷◌, length, Option, Some, None, refl, sym, ap, ◌∙◌, arith}
use Rattle.std.specs.Prelude.{is_some, is_none, nat_le}
use Rattle.fab_base.specs.declared.entries.PeekHow.TheVariants.{Claim}
use Rattle.fab_base.specs.declared.faults.Busy.TheVariants.{CqFull, TxFull}
use Rattle.fab_base.specs.declared.faults.Fault.TheVariants.{Again, Invalid, MsgSize, NotSupported}
use Rattle.fab_base.specs.declared.frames.Frame.{Frame}
use Rattle.fab_base.specs.declared.items.ItemHead.{ItemHead}
use Rattle.fab_link.specs.Joined.{is_last}
use Rattle.fab_model.specs.State.{State, in_use, lookup}
use Rattle.fab_base.specs.Kinds.{is_message}
use Rattle.fab_model.specs.Sending.{Order, first_fault, is_granted, is_too_long, is_well_formed, transmit, transmit_fault}
use Rattle.fab_model.specs.Receiving.{claim_of, is_claim, lacks_room, look, look_fault, may_receive, source_is_known, want_of}
use Rattle.fab_model.specs.Arrivals.{do_head}
use Rattle.fab_model.specs.Calls.{Look, Transmit, answer, do_call}
use Rattle.fab_model.specs.Peers.{multi_buf}
use Rattle.fab_face.specs.Held.{Held}
use Rattle.fab_face.specs.Acts.{Goes, Took, headed, is_first}
use Rattle.fab_face.specs.Answers.{Lends, is_final, multi_of}

-- ---- refusals that do not pass

second_is_final : (a b c : Bool) (n : ℕ) (s after : State) → b ≡ true → is_final (answer (first_fault ((a, NotSupported) ∷ (b, Invalid) ∷ (c, Again (CqFull n)) ∷ [])) s after).0 ≡ true
second_is_final true b c n s after e = refl
second_is_final false true c n s after e = refl
second_is_final false false c n s after e = absurd (cc (e))

either_is : (a b c : Bool) → b ≡ true → c ≡ true → (a || b && c) ≡ true
either_is true b c e f = refl
either_is false b c e f = rw (e, f) refl

-- the clause of `look_fault`, where it passes
pub second_claim : (s : State) (source : Option ℕ) (tag ignore ctx : ℕ) → is_some (claim_of ctx s) ≡ true → is_final (do_call s (Look Claim source tag ignore ctx)).0 ≡ false → ⊥
unfolding do_call look_fault
second_claim s source tag ignore ctx claimed passed =
    let after = look Claim (want_of s true source tag ignore) ctx s in
    let wrong = either_is (not (source_is_known s source)) (is_claim Claim) (is_some (claim_of ctx s)) refl claimed in
    let final = second_is_final (not (may_receive s true)) (not (source_is_known s source) || is_claim Claim && is_some (claim_of ctx s)) (lacks_room s after) s.cq.size s after wrong in
    absurd (cc (sym final ∙ passed))

long_is_final : (a b c d : Bool) (n : ℕ) (s after : State) → b ≡ true → is_final (answer (first_fault ((a, NotSupported) ∷ (b, MsgSize) ∷ (c, Invalid) ∷ (d, Again (TxFull n)) ∷ [])) s after).0 ≡ true
long_is_final true b c d n s after e = refl
long_is_final false true c d n s after e = refl
long_is_final false false c d n s after e = absurd (cc (e))

-- the clause of `send_fault`, where it passes
pub longer_message : (s : State) (o : Order) → is_too_long s.most_message o ≡ true → is_final (do_call s (Transmit o)).0 ≡ false → ⊥
unfolding do_call transmit_fault
longer_message s o long passed =
    let final = long_is_final (not (is_granted s.caps o.kind o.atom)) (is_too_long s.most_message o) (is_none (lookup s.av o.dest) || nat_le 4_611_686_018_427_387_904 s.tx.ops || not (is_well_formed o o.atom)) (nat_le s.most_tx (in_use s.tx)) s.most_tx s (transmit s o) long in
    absurd (cc (sym final ∙ passed))

-- ---- bytes that are lent

-- the clause of `multi_bytes`, where it lends
pub lends_past : (h : Held) (ctx at len call : ℕ) (bytes : List ℕ) → Lends h ctx at len bytes → multi_of h ctx ≡ Some call → length (multi_buf h.state (Some call)) < at + len → ⊥
lends_past h ctx at len call bytes lends is past =
    let same : Some lends.call ≡ Some call = sym lends.is ∙ is in
    let within = lends.within in
    let l = ap (λ (o : Option ℕ). length (multi_buf h.state o)) same in
    omega (arith, within, l, past)

-- ---- frames

heads_keep : (first : Bool) (s : State) (source : ℕ) (head : ItemHead) → (headed first s source head).tx ≡ s.tx
unfolding do_head
heads_keep false s source head = refl
heads_keep true s source head = by (is_message head.kind) refl
  where
    by : (b : Bool) → is_message head.kind ≡ b → (do_head s source head).tx ≡ s.tx
    by true e = rw (do_head, e) refl
    by false e = rw (do_head, e) refl

-- the clause of `take`, where it takes
pub early_reply : (h t : Held) (source : ℕ) (f : Frame) → Goes None h (Took source f) t → is_last f.head ≡ false → t.state.tx ≢ h.state.tx → ⊥
early_reply h t source f goes last booked =
    let ends = rw last at goes.3 in
    booked (ap (λ (x : Held). x.state.tx) ends ∙ heads_keep (is_first f) h.state source f.head.item)

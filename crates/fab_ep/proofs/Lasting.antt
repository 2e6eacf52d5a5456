-- Refusals of receive calls that do not pass: which they are, and that draws leave them as they are.
--     Lasts call       whether a call is refused for good is not changed by draws
--     IsEarly call     it is refused for good only where nothing moves before
--     Persists call    a refusal for good stays what it is
use Rattle.std.proofs.Common.{◌≡◌, ℕ, Bool, true, false, not, ◌||◌, List, [], ◌∷◌, refl, sym, ap, ◌∙◌, subst}
use Rattle.std.specs.Prelude.{is_none, nat_lt, length}
use Rattle.fab_base.specs.declared.faults.Fault.{Fault}
use Rattle.fab_base.specs.declared.faults.Fault.TheVariants.{Again, NotSupported, MsgSize, Invalid, NoEntry}
use Rattle.fab_base.specs.declared.faults.Busy.TheVariants.{CqFull, PostedFull}
use Rattle.fab_base.specs.declared.peers.LineResult.TheVariants.{Refused}
use Rattle.fab_model.specs.State.{State}
use Rattle.fab_model.specs.Receiving.{Posting, post, post_fault, want_of, may_receive, lacks_room, claim_of, look, look_fault, take_claimed, drop_claimed, claimed_fault}
use Rattle.fab_model.specs.Sending.{first_fault}
use Rattle.fab_model.specs.Calls.{Call, Post, TakeClaimed, DropClaimed, answer, do_call}
use Rattle.fab_face.specs.Answers.{is_final, is_early}
use Rattle.fab_face.specs.Looking.{looking}
use Rattle.fab_face.specs.declared.looking.Look.{Look}
use Rattle.fab_ep.proofs.Due.{SameGrounds}

abbrev pub Lasts : Call → Type 0
Lasts call = (s t : State) → SameGrounds s t → is_final (do_call t call).0 ≡ is_final (do_call s call).0

abbrev pub IsEarly : Call → Type 0
IsEarly call = (s : State) (why : Fault) → do_call s call ≡ (Refused why, s) → is_final (Refused why) ≡ true → is_early why ≡ true

abbrev pub Persists : Call → Type 0
Persists call = (s t : State) (why : Fault) → SameGrounds s t → do_call s call ≡ (Refused why, s) → is_final (Refused why) ≡ true → do_call t call ≡ (Refused why, t)

-- ---- by the tests

posted_final : (b1 b2 b3 b4 b5 : Bool) (cq rx : ℕ) (s after : State)
    → is_final (answer (first_fault ((b1, NotSupported) ∷ (b2, MsgSize) ∷ (b3, Invalid) ∷ (b4, Again (CqFull cq)) ∷ (b5, Again (PostedFull rx)) ∷ [])) s after).0 ≡ (b1 || (b2 || b3))
posted_final true b2 b3 b4 b5 cq rx s after = refl
posted_final false true b3 b4 b5 cq rx s after = refl
posted_final false false true b4 b5 cq rx s after = refl
posted_final false false false true b5 cq rx s after = refl
posted_final false false false false true cq rx s after = refl
posted_final false false false false false cq rx s after = refl

posted_early : (b1 b2 b3 b4 b5 : Bool) (cq rx : ℕ) (s after : State) (why : Fault)
    → (answer (first_fault ((b1, NotSupported) ∷ (b2, MsgSize) ∷ (b3, Invalid) ∷ (b4, Again (CqFull cq)) ∷ (b5, Again (PostedFull rx)) ∷ [])) s after).0 ≡ Refused why
    → is_final (Refused why) ≡ true → is_early why ≡ true
posted_early true b2 b3 b4 b5 cq rx s after why is last = (let e : NotSupported ≡ why = cc in subst (λ (x : Fault). is_early x ≡ true) e refl)
posted_early false true b3 b4 b5 cq rx s after why is last = (let e : MsgSize ≡ why = cc in subst (λ (x : Fault). is_early x ≡ true) e refl)
posted_early false false true b4 b5 cq rx s after why is last = (let e : Invalid ≡ why = cc in subst (λ (x : Fault). is_early x ≡ true) e refl)
posted_early false false false true b5 cq rx s after why is last = (let e : Again (CqFull cq) ≡ why = cc in absurd (cc (rw (← e) at last)))
posted_early false false false false true cq rx s after why is last = (let e : Again (PostedFull rx) ≡ why = cc in absurd (cc (rw (← e) at last)))
posted_early false false false false false cq rx s after why is last = absurd (cc)

looked_final : (b1 b2 b3 : Bool) (cq : ℕ) (s after : State) → is_final (answer (first_fault ((b1, NotSupported) ∷ (b2, Invalid) ∷ (b3, Again (CqFull cq)) ∷ [])) s after).0 ≡ (b1 || b2)
looked_final true b2 b3 cq s after = refl
looked_final false true b3 cq s after = refl
looked_final false false true cq s after = refl
looked_final false false false cq s after = refl

looked_early : (b1 b2 b3 : Bool) (cq : ℕ) (s after : State) (why : Fault) → (answer (first_fault ((b1, NotSupported) ∷ (b2, Invalid) ∷ (b3, Again (CqFull cq)) ∷ [])) s after).0 ≡ Refused why
    → is_final (Refused why) ≡ true → is_early why ≡ true
looked_early true b2 b3 cq s after why is last = (let e : NotSupported ≡ why = cc in subst (λ (x : Fault). is_early x ≡ true) e refl)
looked_early false true b3 cq s after why is last = (let e : Invalid ≡ why = cc in subst (λ (x : Fault). is_early x ≡ true) e refl)
looked_early false false true cq s after why is last = (let e : Again (CqFull cq) ≡ why = cc in absurd (cc (rw (← e) at last)))
looked_early false false false cq s after why is last = absurd (cc)

claimed_final : (b1 b2 b3 b4 : Bool) (cq : ℕ) (s after : State) → is_final (answer (first_fault ((b1, NotSupported) ∷ (b2, MsgSize) ∷ (b3, NoEntry) ∷ (b4, Again (CqFull cq)) ∷ [])) s after).0 ≡ (b1 || (b2 || b3))
claimed_final true b2 b3 b4 cq s after = refl
claimed_final false true b3 b4 cq s after = refl
claimed_final false false true b4 cq s after = refl
claimed_final false false false true cq s after = refl
claimed_final false false false false cq s after = refl

claimed_last : (b1 b2 b3 b4 c4 : Bool) (cq cq' : ℕ) (s t after after' : State) (why : Fault)
    → answer (first_fault ((b1, NotSupported) ∷ (b2, MsgSize) ∷ (b3, NoEntry) ∷ (b4, Again (CqFull cq)) ∷ [])) s after ≡ (Refused why, s) → is_final (Refused why) ≡ true
    → answer (first_fault ((b1, NotSupported) ∷ (b2, MsgSize) ∷ (b3, NoEntry) ∷ (c4, Again (CqFull cq')) ∷ [])) t after' ≡ (Refused why, t)
claimed_last true b2 b3 b4 c4 cq cq' s t after after' why is last = (let e = ap (λ x. x.0) is in ap (λ r. (r, t)) e)
claimed_last false true b3 b4 c4 cq cq' s t after after' why is last = (let e = ap (λ x. x.0) is in ap (λ r. (r, t)) e)
claimed_last false false true b4 c4 cq cq' s t after after' why is last = (let e = ap (λ x. x.0) is in ap (λ r. (r, t)) e)
claimed_last false false false true c4 cq cq' s t after after' why is last = (let first = ap (λ x. x.0) is in let e : Again (CqFull cq) ≡ why = cc in absurd (cc (rw (← e) at last)))
claimed_last false false false false c4 cq cq' s t after after' why is last = absurd (cc (ap (λ x. x.0) is))

claimed_same : (b1 b2 b3 b4 c1 c2 c3 c4 : Bool) (cq cq' : ℕ) (s t after after' : State) (why : Fault) → c1 ≡ b1 → c2 ≡ b2 → c3 ≡ b3
    → answer (first_fault ((b1, NotSupported) ∷ (b2, MsgSize) ∷ (b3, NoEntry) ∷ (b4, Again (CqFull cq)) ∷ [])) s after ≡ (Refused why, s) → is_final (Refused why) ≡ true
    → answer (first_fault ((c1, NotSupported) ∷ (c2, MsgSize) ∷ (c3, NoEntry) ∷ (c4, Again (CqFull cq')) ∷ [])) t after' ≡ (Refused why, t)
claimed_same b1 b2 b3 b4 c1 c2 c3 c4 cq cq' s t after after' why e1 e2 e3 is last = rw (e1, e2, e3) (claimed_last b1 b2 b3 b4 c4 cq cq' s t after after' why is last)

-- ---- by the calls

pub posts_last : (p : Posting) → Lasts (Post p)
unfolding do_call post_fault
posts_last p = λ s t same. posted_final _ _ _ _ _ _ _ t (post t p) ∙ rw (same.caps, same.av, same.message) refl ∙ sym (posted_final _ _ _ _ _ _ _ s (post s p))

pub posts_early : (p : Posting) → IsEarly (Post p)
unfolding do_call post_fault
posts_early p = λ s why is last. posted_early _ _ _ _ _ _ _ s (post s p) why (ap (λ x. x.0) is) last

pub looks_last : (l : Look) → Lasts (looking l)
unfolding do_call look_fault
looks_last l = λ s t same.
    looked_final _ _ _ _ t (look l.how (want_of t true l.source l.tag l.ignore) l.ctx t) ∙ rw (same.caps, same.av, same.claimed) refl ∙ sym (looked_final _ _ _ _ s (look l.how (want_of s true l.source l.tag l.ignore) l.ctx s))

pub looks_early : (l : Look) → IsEarly (looking l)
unfolding do_call look_fault
looks_early l = λ s why is last. looked_early _ _ _ _ s (look l.how (want_of s true l.source l.tag l.ignore) l.ctx s) why (ap (λ x. x.0) is) last

pub takes_last : (buf : List ℕ) (ctx : ℕ) → Lasts (TakeClaimed buf ctx)
unfolding do_call claimed_fault
takes_last buf ctx = λ s t same. claimed_final _ _ _ _ _ t (take_claimed t buf ctx) ∙ rw (same.caps, same.message, same.claimed) refl ∙ sym (claimed_final _ _ _ _ _ s (take_claimed s buf ctx))

pub takes_persist : (buf : List ℕ) (ctx : ℕ) → Persists (TakeClaimed buf ctx)
unfolding do_call claimed_fault
takes_persist buf ctx = λ s t why same is last.
    claimed_same (not (may_receive s true)) (nat_lt s.most_message (length buf)) (is_none (claim_of ctx s)) (lacks_room s (take_claimed s buf ctx)) (not (may_receive t true)) (nat_lt t.most_message (length buf)) (is_none (claim_of ctx t)) (lacks_room t (take_claimed t buf ctx))
    s.cq.size t.cq.size s t (take_claimed s buf ctx) (take_claimed t buf ctx) why (rw same.caps refl) (rw same.message refl) (rw same.claimed refl) is last

pub drops_last : (ctx : ℕ) → Lasts (DropClaimed ctx)
unfolding do_call claimed_fault
drops_last ctx = λ s t same.
    claimed_final (not (may_receive t true)) (nat_lt t.most_message 0) (is_none (claim_of ctx t)) (lacks_room t (drop_claimed t ctx)) t.cq.size t (drop_claimed t ctx) ∙ rw (same.caps, same.message, same.claimed) refl
    ∙ sym (claimed_final (not (may_receive s true)) (nat_lt s.most_message 0) (is_none (claim_of ctx s)) (lacks_room s (drop_claimed s ctx)) s.cq.size s (drop_claimed s ctx))

pub drops_persist : (ctx : ℕ) → Persists (DropClaimed ctx)
unfolding do_call claimed_fault
drops_persist ctx = λ s t why same is last.
    claimed_same (not (may_receive s true)) (nat_lt s.most_message 0) (is_none (claim_of ctx s)) (lacks_room s (drop_claimed s ctx)) (not (may_receive t true)) (nat_lt t.most_message 0) (is_none (claim_of ctx t)) (lacks_room t (drop_claimed t ctx))
    s.cq.size t.cq.size s t (drop_claimed s ctx) (drop_claimed t ctx) why (rw same.caps refl) (rw same.message refl) (rw same.claimed refl) is last

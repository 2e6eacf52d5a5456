-- How looks, and receives and drops of claimed messages, are refused.
--     looks_ours, takes_ours, drops_ours      their faults are told, or may pass
use Rattle.std.proofs.Common.{inl, inr, ◌≡◌, ℕ, Bool, true, false, List, [], ◌∷◌, not, refl, subst}
use Rattle.std.specs.Prelude.{is_none, nat_lt}
use Rattle.fab_base.specs.declared.faults.Fault.{Fault}
use Rattle.fab_base.specs.declared.faults.Fault.TheVariants.{Again, NotSupported, MsgSize, Invalid, NoEntry}
use Rattle.fab_base.specs.declared.faults.Busy.TheVariants.{CqFull}
use Rattle.fab_base.specs.declared.peers.LineResult.TheVariants.{Refused}
use Rattle.fab_model.specs.State.{State}
use Rattle.fab_model.specs.Receiving.{want_of, may_receive, lacks_room, claim_of, look, look_fault, take_claimed, drop_claimed, claimed_fault}
use Rattle.fab_model.specs.Sending.{first_fault}
use Rattle.fab_model.specs.Calls.{TakeClaimed, DropClaimed, answer, do_call}
use Rattle.fab_face.specs.Looking.{looking}
use Rattle.fab_face.specs.declared.looking.Look.{Look}
use Rattle.fab_ep.proofs.Answering.{IsAnswered, Ours}

looked_by : (b1 b2 b3 : Bool) (cq : ℕ) (s after : State) (why : Fault) → (answer (first_fault ((b1, NotSupported) ∷ (b2, Invalid) ∷ (b3, Again (CqFull cq)) ∷ [])) s after).0 ≡ Refused why → IsAnswered why
looked_by true b2 b3 cq s after why is = (let e : NotSupported ≡ why = cc in subst (λ (x : Fault). IsAnswered x) e (inl refl))
looked_by false true b3 cq s after why is = (let e : Invalid ≡ why = cc in subst (λ (x : Fault). IsAnswered x) e (inl refl))
looked_by false false true cq s after why is = (let e : Again (CqFull cq) ≡ why = cc in subst (λ (x : Fault). IsAnswered x) e (inr refl))
looked_by false false false cq s after why is = absurd (cc)

claimed_by : (b1 b2 b3 b4 : Bool) (cq : ℕ) (s after : State) (why : Fault) → (answer (first_fault ((b1, NotSupported) ∷ (b2, MsgSize) ∷ (b3, NoEntry) ∷ (b4, Again (CqFull cq)) ∷ [])) s after).0 ≡ Refused why → IsAnswered why
claimed_by true b2 b3 b4 cq s after why is = (let e : NotSupported ≡ why = cc in subst (λ (x : Fault). IsAnswered x) e (inl refl))
claimed_by false true b3 b4 cq s after why is = (let e : MsgSize ≡ why = cc in subst (λ (x : Fault). IsAnswered x) e (inl refl))
claimed_by false false true b4 cq s after why is = (let e : NoEntry ≡ why = cc in subst (λ (x : Fault). IsAnswered x) e (inl refl))
claimed_by false false false true cq s after why is = (let e : Again (CqFull cq) ≡ why = cc in subst (λ (x : Fault). IsAnswered x) e (inr refl))
claimed_by false false false false cq s after why is = absurd (cc)

pub looks_ours : (l : Look) → Ours (looking l)
unfolding do_call look_fault
looks_ours l = λ s why is. looked_by _ _ _ _ s (look l.how (want_of s true l.source l.tag l.ignore) l.ctx s) why is

pub takes_ours : (buf : List ℕ) (ctx : ℕ) → Ours (TakeClaimed buf ctx)
unfolding do_call claimed_fault
takes_ours buf ctx = λ s why is. claimed_by _ _ _ _ _ s (take_claimed s buf ctx) why is

pub drops_ours : (ctx : ℕ) → Ours (DropClaimed ctx)
unfolding do_call claimed_fault
drops_ours ctx = λ s why is. claimed_by (not (may_receive s true)) (nat_lt s.most_message 0) (is_none (claim_of ctx s)) (lacks_room s (drop_claimed s ctx)) s.cq.size s (drop_claimed s ctx) why is

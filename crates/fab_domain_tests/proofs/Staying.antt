-- What an endpoint's port keeps through calls, and when another goes on where it ended.
use Rattle.std.proofs.Common.{◌≡◌, ◌∙◌, ℕ, [], Option, Some, None, inl, inr, length, refl, sym, ap, subst}
use Rattle.std.proofs.lemmas.Bool.{cases_eq}
use Rattle.fab_base.specs.declared.frames.FrameRef.{FrameRef}
use Rattle.fab_link.specs.Meaning.{Incoming, Outgoing, Fronted, Others, end_of, taken_end}
use Rattle.fab_link.specs.Plain as plain
use Rattle.fab_link.specs.Plain.{Plain}
use Rattle.fab_face.specs.Held.{Seen}
use Rattle.fab_ring.specs.declared.port.RingPort.{RingPort}
use Rattle.fab_ring.specs.Ports.{number_of, peers_of, out_of, in_of}
use Rattle.fab_ring.specs.Gather.{GoesOn}
use Rattle.fab_domain_tests.specs.Staying.{HasTakenAs, Stays}

-- ---- calls of an endpoint

pub stays_thrice : {Home : Type 0} (a b c d : Seen Home) → Stays a b → Stays b c → Stays c d → Stays a d
stays_thrice a b c d ab bc cd = (cd.0 ∙ bc.0 ∙ ab.0, cd.1 ∙ bc.1 ∙ ab.1, cd.2 ∙ bc.2 ∙ ab.2)

-- ---- a look at a port

looked_at : (i j : Incoming) (answer : Option FrameRef) → Fronted i j answer → HasTakenAs i j
looked_at i j None fronted = (ap (λ (x : Incoming). x.taken) fronted.0, ap (λ (x : Incoming). x.after) fronted.0)
looked_at i j (Some frame) fronted = (ap (λ (x : Incoming). x.taken) fronted, ap (λ (x : Incoming). x.after) fronted)

pub looked : (old new : ℕ → Incoming) (src : ℕ) (answer : Option FrameRef) → Fronted (old src) (new src) answer → Others src old new → (s : ℕ) → HasTakenAs (old s) (new s)
looked old new src answer fronted others s = elim (cases_eq s src) [
  | inl here ↦ rw here (looked_at (old src) (new src) answer fronted)
  | inr other ↦ subst (λ (i : Incoming). HasTakenAs (old s) i) (sym (others s other)) (refl, refl)
]

-- ---- another port

-- the plain port goes on where the port over lanes ended, though it may have been looked at since it was made
pub record Succeeds (p : RingPort) (q : Plain) : Type 0 where
  pub fresh : (d : ℕ) → ((plain.out_of q d).frames ≡ []) × ((plain.in_of q d).taken ≡ [])
  pub number : q.number ≡ number_of p
  pub peers : length q.lanes ≡ peers_of p
  pub out_after : (d : ℕ) → (plain.out_of q d).after ≡ end_of (out_of p d)
  pub in_after : (s : ℕ) → (plain.in_of q s).after ≡ taken_end (in_of p s)

pub succeeds : (p : RingPort) (q new : Plain) → GoesOn p q → new.number ≡ q.number → length new.lanes ≡ length q.lanes → plain.out_of new ≡ plain.out_of q → ((s : ℕ) → HasTakenAs (plain.in_of q s) (plain.in_of new s)) → Succeeds p new
succeeds p q new goes number peers outs ins = record {
  fresh = λ d. (ap (λ (f : ℕ → Outgoing). (f d).frames) outs ∙ (goes.fresh d).frames, (ins d).0 ∙ (goes.fresh d).taken);
  number = number ∙ goes.number;
  peers = peers ∙ goes.peers;
  out_after = λ d. ap (λ (f : ℕ → Outgoing). (f d).after) outs ∙ goes.out_after d;
  in_after = λ s. (ins s).1 ∙ goes.in_after s;
}

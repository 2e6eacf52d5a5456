-- What changes nothing but counters or addresses leaves an endpoint whole.
use Rattle.std.proofs.Common.{◌≡◌, ◌<◌, ℕ, List, Option, Some, sym, ap, ◌∙◌, subst, map}
use Rattle.std.specs.Prelude.{count_by, is_some, IfOk, IfErr, OnOk, OnErr, Result, Ok, Err}
use Rattle.fab_base.specs.declared.operations.Written.{Written}
use Rattle.fab_model.specs.Peers.{unread}
use Rattle.fab_link.specs.declared.port.Port.{Ghosts}
use Rattle.fab_face.specs.Acts.{has_read}
use Rattle.fab_face.specs.Ports.{GoesOn, lanes_in}
use Rattle.fab_ep.specs.Value.{Whole, seen}
use Rattle.fab_base.specs.declared.entries.Class.{Class}
use Rattle.fab_base.specs.declared.faults.Fault.{Fault}
use Rattle.fab_base.specs.declared.faults.NoMemory.{NoMemory}
use Rattle.fab_base.specs.declared.peers.LineResult.TheVariants.{Done, Index, Refused}
use Rattle.fab_av.specs.Addresses.{inserting}
use Rattle.fab_av.specs.declared.addresses.InsertReport.{InsertReport}
use Rattle.fab_model.specs.State.{State}
use Rattle.fab_model.specs.Calls.{Remove, do_call}
use Rattle.fab_face.specs.Answers.{Inserts, Locally, adding}
use Rattle.fab_face.specs.Held.{Held, IsRepaid, Seen, with_machine}
use Rattle.fab_face.specs.Keeping.{with_av}
use Rattle.fab_ep.specs.Tries.{IsTied}

changes : (o n : Held) → n ≡ with_av n.state.av o → n ≡ with_machine n.state o
changes o n is = is ∙ ap (λ (s : State). with_machine s o) (sym (ap (λ (h : Held). h.state) is))

module _ {Home : Type 0} where
  pub tied_adding : (e : Seen Home) (class : Class) (n : ℕ) (h : Held) → h ≡ with_machine (adding class n e.held.state) e.held → IsTied e → IsTied (record e { held = h })
  tied_adding e class n h is t = rw is (record { log = t.log; within = t.within; peers = t.peers; posted = t.posted; taken = t.taken; pledged = t.pledged; repaid = t.repaid })

  tied_av : (e : Seen Home) (av : List (Option ℕ)) → IsTied e → IsTied (record e { held = with_av av e.held })
  tied_av e av t = record { log = t.log; within = t.within; peers = t.peers; posted = t.posted; taken = t.taken; pledged = t.pledged; repaid = t.repaid }

  pub tied_addressed : (e : Seen Home) (h : Held) → h ≡ with_av h.state.av e.held → IsTied e → IsTied (record e { held = h })
  tied_addressed e h is t = subst (λ (x : Held). IsTied (record e { held = x })) (sym is) (tied_av e h.state.av t)

  changed_as : (a : Seen Home) (h : Held) → h ≡ with_av h.state.av a.held → record a { held = h } ≡ record a { held = with_machine h.state a.held }
  changed_as a h is = ap (λ (x : Held). record a { held = x }) (changes a.held h is)

  pub if_inserts : (names : List (List ℕ)) (a : Seen Home) (h : Held) (r : Result InsertReport NoMemory) → h ≡ with_av h.state.av a.held
      → IfOk r (λ report. inserting a.held.state names ≡ (map Index report.indices, h.state)) → IfOk r (λ report. report.inserted ≡ count_by is_some report.indices)
      → IfOk r (λ report. Inserts names report a (record a { held = h }))
  if_inserts names a h (Ok report) is answers count = record { answers = answers; count = count; changed = changed_as a h is }
  if_inserts names a h (Err why) is answers count = tt

  pub if_removes : (index : ℕ) (a : Seen Home) (h : Held) (r : Result (Unit {0}) Fault) → h ≡ with_av h.state.av a.held
      → OnOk r (do_call a.held.state (Remove index) ≡ (Done, h.state)) → OnOk r (Locally (Remove index) Done a (record a { held = h }))
  if_removes index a h (Ok u) is answered = record { answered = answered; changed = changed_as a h is }
  if_removes index a h (Err why) is answered = tt

  pub if_removes_not : (index : ℕ) (a : Seen Home) (h : Held) (r : Result (Unit {0}) Fault) → h ≡ with_av h.state.av a.held
      → IfErr r (λ why. do_call a.held.state (Remove index) ≡ (Refused why, h.state)) → IfErr r (λ why. Locally (Remove index) (Refused why) a (record a { held = h }))
  if_removes_not index a h (Ok u) is answered = tt
  if_removes_not index a h (Err why) is answered = record { answered = answered; changed = changed_as a h is }

  -- an entry is read, or none
  tied_read : (e : Seen Home) (w : Written) → IsTied e → IsTied (record e { held = has_read w e.held })
  tied_read e w t = record { log = t.log; within = t.within; peers = t.peers; posted = t.posted; taken = t.taken; pledged = t.pledged; repaid = t.repaid }

  pub tied_popped : {A B : Type 0} (P : A → Written → Type 0) (e : Seen Home) (h : Held) (r : Result A B) → IfOk r (λ x. (w : Written) × (unread e.held.state.cq ≡ Some w) × P x w × (h ≡ has_read w e.held)) → OnErr r (h ≡ e.held) → IsTied e → IsTied (record e { held = h })
  tied_popped P e h (Ok x) popped stays t = subst (λ (x : Held). IsTied (record e { held = x })) (sym popped.3) (tied_read e popped.0 t)
  tied_popped P e h (Err why) popped stays t = subst (λ (x : Held). IsTied (record e { held = x })) (sym stays) t

-- another port goes on where this one ended
pub tied_reseated : {P Q : Type 0} (M : Ghosts P) (N : Ghosts Q) (e : Whole P) (port : Q) → IsTied (seen M e) → GoesOn M N e.port port → IsRepaid (lanes_in N port) e.held → IsTied (seen N (record { port = port; held = e.held; log = e.log; log_size = e.log_size; pushed = e.pushed; next = e.next }))
tied_reseated M N e port t goes repaid = record {
  log = t.log;
  within = t.within;
  peers = t.peers ∙ sym goes.peers;
  posted = λ d below. rw ((goes.fresh d).0, goes.out_after d) (t.posted d (subst (λ n. d < n) goes.peers below));
  taken = λ s below. rw ((goes.fresh s).1, goes.in_after s) (t.taken s (subst (λ n. s < n) goes.peers below));
  pledged = t.pledged;
  repaid = repaid;
}

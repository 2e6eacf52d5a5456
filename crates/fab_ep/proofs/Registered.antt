-- Calls of the owner of regions leave an endpoint whole.
--     reg_leaves, close_leaves, put_leaves      none touches what is transmitted
--     tied_on, tied_if      the endpoint after it, by its answer
use Rattle.std.proofs.Common.{◌≡◌, ℕ, ◌+◌, Bool, true, false, List, length, Option, Some, None, Result, Ok, Err, refl, sym, ap, ◌∙◌, subst}
use Rattle.std.specs.Prelude.{IfOk, OnOk, OnErr, nat_lt}
use Rattle.fab_base.specs.declared.faults.Fault.{Fault}
use Rattle.fab_base.specs.declared.items.Access.{Access}
use Rattle.fab_base.specs.declared.peers.LineResult.{LineResult}
use Rattle.fab_model.specs.State.{Region, State}
use Rattle.fab_model.specs.Calls.{Call, Reg, Close, Put, answer, close, do_call, put, reg, region_of}
use Rattle.fab_face.specs.Held.{Held, Seen, with_machine}
use Rattle.fab_face.specs.Targets.{DoesHere}
use Rattle.fab_ep.specs.Tries.{IsTied}

-- ---- what waits for its transmission stays

abbrev LeavesTx : Call → Type 0
LeavesTx call = (s : State) → ((do_call s call).1.tx ≡ s.tx) × ((do_call s call).1.rx ≡ s.rx)

answer_leaves : (why : Option Fault) (s after : State) → (after.tx ≡ s.tx) × (after.rx ≡ s.rx) → ((answer why s after).1.tx ≡ s.tx) × ((answer why s after).1.rx ≡ s.rx)
answer_leaves None s after same = same
answer_leaves (Some why) s after same = (refl, refl)

pub reg_leaves : (key : ℕ) (access : Access) (bytes : List ℕ) → LeavesTx (Reg key access bytes)
unfolding do_call reg
reg_leaves key access bytes = λ s. answer_leaves _ s _ (refl, refl)

close_by : (s : State) (key : ℕ) (o : Option Region) → region_of s key ≡ o → ((do_call s (Close key)).1.tx ≡ s.tx) × ((do_call s (Close key)).1.rx ≡ s.rx)
unfolding do_call close
close_by s key None none = rw (none, close) (refl, refl)
close_by s key (Some r) some = rw (some, close) (refl, refl)

pub close_leaves : (key : ℕ) → LeavesTx (Close key)
close_leaves key = λ s. close_by s key (region_of s key) refl

put_into : (s : State) (key at : ℕ) (bytes : List ℕ) (r : Region) (past : Bool) → region_of s key ≡ Some r → nat_lt (length r.bytes) (at + length bytes) ≡ past → ((do_call s (Put key at bytes)).1.tx ≡ s.tx) × ((do_call s (Put key at bytes)).1.rx ≡ s.rx)
unfolding do_call put
put_into s key at bytes r true some past = rw (some, past, put) (refl, refl)
put_into s key at bytes r false some past = rw (some, past, put) (refl, refl)

put_by : (s : State) (key at : ℕ) (bytes : List ℕ) (o : Option Region) → region_of s key ≡ o → ((do_call s (Put key at bytes)).1.tx ≡ s.tx) × ((do_call s (Put key at bytes)).1.rx ≡ s.rx)
unfolding do_call put
put_by s key at bytes None none = rw (none, put) (refl, refl)
put_by s key at bytes (Some r) some = put_into s key at bytes r (nat_lt (length r.bytes) (at + length bytes)) some refl

pub put_leaves : (key at : ℕ) (bytes : List ℕ) → LeavesTx (Put key at bytes)
put_leaves key at bytes = λ s. put_by s key at bytes (region_of s key) refl

-- ---- the endpoint after it

module _ {Home : Type 0} where
  tied_with : (e : Seen Home) (s : State) → s.tx ≡ e.held.state.tx → s.rx ≡ e.held.state.rx → IsTied e → IsTied (record e { held = with_machine s e.held })
  tied_with e s same same_rx t = record {
    log = t.log;
    within = t.within;
    peers = t.peers;
    posted = λ d below. rw same (t.posted d below);
    taken = t.taken;
    pledged = rw same_rx t.pledged;
    repaid = λ d op below. rw (same, same_rx) (t.repaid d op below);
  }

  tied_done : (call : Call) (a : LineResult) (e : Seen Home) (h : Held) → LeavesTx call → DoesHere call a e.held h → IsTied e → IsTied (record e { held = h })
  tied_done call a e h leaves (does, is) t =
      subst (λ (x : Held). IsTied (record e { held = x })) (sym is) (tied_with e h.state (sym (ap (λ (x : LineResult × State). x.1.tx) does) ∙ (leaves e.held.state).0) (sym (ap (λ (x : LineResult × State). x.1.rx) does) ∙ (leaves e.held.state).1) t)

  tied_still : (e : Seen Home) (h : Held) → h ≡ e.held → IsTied e → IsTied (record e { held = h })
  tied_still e h is t = subst (λ (x : Held). IsTied (record e { held = x })) (sym is) t

  pub tied_on : {A B : Type 0} (call : Call) (a : LineResult) (e : Seen Home) (h : Held) (r : Result A B) → LeavesTx call → OnOk r (DoesHere call a e.held h) → OnErr r (h ≡ e.held) → IsTied e → IsTied (record e { held = h })
  tied_on call a e h (Ok x) leaves does stays t = tied_done call a e h leaves does t
  tied_on call a e h (Err why) leaves does stays t = tied_still e h stays t

  pub tied_if : {A B : Type 0} (call : Call) (f : A → LineResult) (e : Seen Home) (h : Held) (r : Result A B) → LeavesTx call → IfOk r (λ x. DoesHere call (f x) e.held h) → OnErr r (h ≡ e.held) → IsTied e → IsTied (record e { held = h })
  tied_if call f e h (Ok x) leaves does stays t = tied_done call (f x) e h leaves does t
  tied_if call f e h (Err why) leaves does stays t = tied_still e h stays t

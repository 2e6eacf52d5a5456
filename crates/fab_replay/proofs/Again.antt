-- A call that is told to come again leaves the machine as it is.
use Rattle.std.proofs.Common.{◌≡◌, ℕ, ◌+◌, Bool, true, false, List, length, Option, Some, None, refl, sym, ap, ◌∙◌}
use Rattle.std.specs.Prelude.{nat_lt, position}
use Rattle.fab_base.specs.declared.faults.Fault.{Fault}
use Rattle.fab_base.specs.declared.peers.LineResult.{LineResult}
use Rattle.fab_base.specs.declared.script.Bound.{Bound}
use Rattle.fab_base.specs.declared.script.LineOp.{LineOp}
use Rattle.fab_base.specs.declared.script.LineOp.TheVariants.{Wait, Reach}
use Rattle.fab_model.specs.State.{State, Region, lookup}
use Rattle.fab_model.specs.Calls.{Call, Transmit, Post, Look, TakeClaimed, DropClaimed, Cancel, CancelFirst, Insert, Remove, Reg, Close, Put, Show, Count, answer, do_call, call_of, insert, insert_new, is_peer, peer_named, remove, region_of, reg, close, put}
use Rattle.fab_model.specs.Peers.{Actor, is_again, after_call, call_line, do_line, with_result, with_state}
use Rattle.fab_model.specs.Replay.{bind_op}

answer_stays : (o : Option Fault) (s after : State) → is_again (answer o s after).0 ≡ true → (answer o s after).1 ≡ s
answer_stays None s after e = absurd (cc)
answer_stays (Some fault) s after e = refl

close_stays : (s : State) (key : ℕ) (o : Option Region) → region_of s key ≡ o → is_again (close s key).0 ≡ true → (close s key).1 ≡ s
unfolding close
close_stays s key None there e = rw (there, close) refl
close_stays s key (Some region) there e = absurd (let f : false ≡ true = rw (there, close) at e in cc)

put_ranged : (s : State) (key at : ℕ) (bytes : List ℕ) (region : Region) (b : Bool) → region_of s key ≡ Some region → nat_lt (length region.bytes) (at + length bytes) ≡ b → is_again (put s key at bytes).0 ≡ true → (put s key at bytes).1 ≡ s
unfolding put
put_ranged s key at bytes region true there over e = rw (there, over, put) refl
put_ranged s key at bytes region false there over e = absurd (let f : false ≡ true = rw (there, over, put) at e in cc)

put_stays : (s : State) (key at : ℕ) (bytes : List ℕ) (o : Option Region) → region_of s key ≡ o → is_again (put s key at bytes).0 ≡ true → (put s key at bytes).1 ≡ s
unfolding put
put_stays s key at bytes None there e = rw (there, put) refl
put_stays s key at bytes (Some region) there e = put_ranged s key at bytes region (nat_lt (length region.bytes) (at + length bytes)) there refl e

remove_stays : (s : State) (index : ℕ) (o : Option ℕ) → lookup s.av index ≡ o → is_again (remove s index).0 ≡ true → (remove s index).1 ≡ s
unfolding remove
remove_stays s index None there e = rw (there, remove) refl
remove_stays s index (Some peer) there e = absurd (let f : false ≡ true = rw (there, remove) at e in cc)

new_stays : (s : State) (k : ℕ) (b : Bool) → nat_lt (length s.av) 4_096 ≡ b → is_again (insert_new s k).0 ≡ true → (insert_new s k).1 ≡ s
new_stays s k true room e = absurd (let f : false ≡ true = rw (room, insert_new) at e in cc)
new_stays s k false room e = rw (room, insert_new) refl

insert_placed : (s : State) (name : List ℕ) (k : ℕ) (o : Option ℕ) → peer_named (length s.tx.sent) name ≡ Some k → position (is_peer k) s.av ≡ o → is_again (insert s name).0 ≡ true → (insert s name).1 ≡ s
unfolding insert
insert_placed s name k (Some index) there stands e = rw (there, stands, insert) refl
insert_placed s name k None there stands e = rw (there, stands, insert) (new_stays s k (nat_lt (length s.av) 4_096) refl (rw (there, stands, insert) at e))

insert_stays : (s : State) (name : List ℕ) (o : Option ℕ) → peer_named (length s.tx.sent) name ≡ o → is_again (insert s name).0 ≡ true → (insert s name).1 ≡ s
unfolding insert
insert_stays s name None there e = rw (there, insert) refl
insert_stays s name (Some k) there e = insert_placed s name k (position (is_peer k) s.av) there refl e

again_stays : (s : State) (c : Call) → is_again (do_call s c).0 ≡ true → (do_call s c).1 ≡ s
unfolding do_call reg
again_stays s (Transmit order) e = answer_stays _ s _ e
again_stays s (Post posting) e = answer_stays _ s _ e
again_stays s (Look how source tag ignore ctx) e = answer_stays _ s _ e
again_stays s (TakeClaimed buf ctx) e = answer_stays _ s _ e
again_stays s (DropClaimed ctx) e = answer_stays _ s _ e
again_stays s (Cancel ctx) e = answer_stays _ s _ e
again_stays s CancelFirst e = answer_stays _ s _ e
again_stays s (Insert name) e = insert_stays s name (peer_named (length s.tx.sent) name) refl e
again_stays s (Remove index) e = remove_stays s index (lookup s.av index) refl e
again_stays s (Reg key access bytes) e = answer_stays _ s _ e
again_stays s (Close key) e = close_stays s key (region_of s key) refl e
again_stays s (Put key at bytes) e = put_stays s key at bytes (region_of s key) refl e
again_stays s (Show key) e = refl
again_stays s (Count class) e = refl

-- ---- the line of a call

pub call_again : (a : Actor) (c : Call) (outcome : LineResult) (s : State) → (outcome, s) ≡ do_call a.state c → is_again outcome ≡ true → (call_line a c ≡ None) × (s ≡ a.state)
unfolding call_line
call_again a c outcome s is again =
    let first : outcome ≡ (do_call a.state c).0 = ap (λ (d : LineResult × State). d.0) is in
    let told : is_again (do_call a.state c).0 ≡ true = ap is_again (sym first) ∙ again in
    (rw (told, after_call) refl, ap (λ (d : LineResult × State). d.1) is ∙ again_stays a.state c told)

pub call_done : (a : Actor) (c : Call) (outcome : LineResult) (s : State) → (outcome, s) ≡ do_call a.state c → is_again outcome ≡ false → call_line a c ≡ Some (with_result outcome (with_state a s))
unfolding call_line
call_done a c outcome s is final = ap (after_call a) (sym is) ∙ rw (final, after_call) refl

-- a line that is no wait makes its call
pub line_calls : (a : Actor) (b : Bound) (op : LineOp) → ((ctx : Option ℕ) → op ≡ Wait ctx → ⊥) → ((class : _) (n : ℕ) → op ≡ Reach class n → ⊥)
    → do_line a (bind_op b op) ≡ elim (call_of (bind_op b op)) [ None ↦ None | Some c ↦ call_line a c ]
unfolding do_line
line_calls a b (Wait ctx) no_wait no_reach = absurd (no_wait ctx refl)
line_calls a b (Reach class n) no_wait no_reach = absurd (no_reach class n refl)
line_calls a b _ no_wait no_reach = refl

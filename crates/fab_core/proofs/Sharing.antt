-- Multi-receives are judged and posted as the machine does.
use Rattle.std.proofs.Common.{◌≡◌, ℕ, ◌<◌, Bool, true, false, not, ◌||◌, List, [], ◌∷◌, length, Option, Some, None, refl, sym, ap, ◌∙◌, arith}
use Rattle.std.specs.Prelude.{nat_le, nat_lt, IfSome, IfNone, IfErr, OnErr, OnOk, Result, Ok, Err}
use Rattle.std.proofs.lemmas.Bool.{leb-false, ltb-false}
use Rattle.fab_base.specs.declared.faults.Fault.{Fault}
use Rattle.fab_base.specs.declared.faults.Fault.TheVariants.{Again, NotSupported, MsgSize, Invalid}
use Rattle.fab_base.specs.declared.faults.Busy.TheVariants.{CqFull, PostedFull}
use Rattle.fab_base.specs.declared.faults.Refused.{Refused as Turned}
use Rattle.fab_base.specs.declared.peers.LineResult.TheVariants.{Done, Refused}
use Rattle.fab_model.specs.State.{State, fits}
use Rattle.fab_model.specs.Calls.{do_call}
use Rattle.fab_model.specs.Receiving.{draw_due, least_is_wrong, may_receive, post, source_is_known}
use Rattle.fab_model.specs.Sending.{first_fault}
use Rattle.fab_face.specs.Acts.{DoesCall}
use Rattle.fab_face.specs.Answers.{is_final}
use Rattle.fab_face.specs.Machine.{StayNext}
use Rattle.fab_face.specs.Multis.{multi_asking}
use Rattle.fab_face.specs.declared.multis.MultiAsk.{MultiAsk}
use Rattle.fab_core.specs.Parts.{IsTogether, Parts, held_of, state_of}
use Rattle.fab_core.specs.Doing.{lasting_post}
use Rattle.fab_settling.specs.Orders.{sharing_of}
use Rattle.fab_core.specs.Multis.{IsShared, passing_multi, shared_by}
use Rattle.fab_core.proofs.Calling.{again, post_again, post_done, post_final, post_not_lasting, post_passing, post_refused}
use Rattle.fab_core.proofs.Together.{together_with}

module _ (s : State) (a : MultiAsk) (buf : List ℕ) where
  pub if_share_some : (r : Option Fault) → r ≡ lasting_post s (sharing_of a buf) → IfSome r (λ why. do_call s (multi_asking a buf) ≡ (Refused why, s))
  if_share_some None is = tt
  if_share_some (Some why) is = post_refused s (sharing_of a buf) why (sym is)

  pub if_share_lasting : (r : Option Fault) → r ≡ lasting_post s (sharing_of a buf) → IfSome r (λ why. is_final (Refused why) ≡ true)
  if_share_lasting None is = tt
  if_share_lasting (Some why) is = post_final s (sharing_of a buf) why (sym is)

  pub if_share_none : (r : Option Fault) → r ≡ lasting_post s (sharing_of a buf) → IfNone r (is_final (do_call s (multi_asking a buf)).0 ≡ false)
  if_share_none None is = post_passing s (sharing_of a buf) (sym is)
  if_share_none (Some why) is = tt

-- the tests that a call passed that is not refused for good
three_none : (a b c : Bool) → first_fault ((a, NotSupported) ∷ (b, MsgSize) ∷ (c, Invalid) ∷ []) ≡ None → b ≡ false
three_none true b c e = absurd (cc)
three_none false true c e = absurd (cc)
three_none false false true e = absurd (cc)
three_none false false false e = refl

module _ (p : Parts) (a : MultiAsk) (buf : List ℕ) (granted : is_final (do_call (state_of p) (multi_asking a buf)).0 ≡ false) where
  abbrev s : State
  s = state_of p

  pub buffer_short : p.most_message < 4_294_967_296 → length buf < 4_294_967_296
  buffer_short word =
      let none = post_not_lasting s (sharing_of a buf) granted in
      let short = ltb-false p.most_message (length buf) (three_none (not (may_receive s false)) (nat_lt p.most_message (length buf)) (not (source_is_known s a.source) || least_is_wrong (sharing_of a buf)) none) in
      omega (arith, short, word)

module _ (p : Parts) (a : MultiAsk) (buf : List ℕ) (now : fits p.cq ≡ true) where
  shared_is : (id : ℕ) → post (state_of p) (sharing_of a buf) ≡ state_of (shared_by id a buf p)
  unfolding post
  shared_is id = refl

  again_is : again (state_of p) (sharing_of a buf) ≡ passing_multi p
  again_is = by (draw_due p.rx.rx) refl
    where
      fit : fits (post (state_of p) (sharing_of a buf)).cq ≡ true
      fit = ap (λ (s : State). fits s.cq) (shared_is 0) ∙ now

      by : (b : Bool) → draw_due p.rx.rx ≡ b → again (state_of p) (sharing_of a buf) ≡ passing_multi p
      by true due = rw due refl
      by false still = rw (still, fit) refl

  shares : (q : Parts) → is_final (do_call (state_of p) (multi_asking a buf)).0 ≡ false → passing_multi p ≡ None → IsShared a buf p q → DoesCall (Some (multi_asking a buf)) (held_of p) (held_of q)
  shares q granted passing is =
      rw is.1 (post_done (state_of p) (sharing_of a buf) (post_not_lasting (state_of p) (sharing_of a buf) granted) (again_is ∙ passing) ∙ ap (λ (x : State). (Done, x)) (shared_is is.0), refl)

  pub if_shares : (q : Parts) (r : Result (Unit {0}) Turned) → is_final (do_call (state_of p) (multi_asking a buf)).0 ≡ false → OnOk r ((passing_multi p ≡ None) × IsShared a buf p q) → OnOk r (DoesCall (Some (multi_asking a buf)) (held_of p) (held_of q))
  if_shares q (Ok u) granted done = shares q granted done.0 done.1
  if_shares q (Err why) granted done = tt

  pub if_shares_not : (r : Result (Unit {0}) Turned) → is_final (do_call (state_of p) (multi_asking a buf)).0 ≡ false → IfErr r (λ r. (r.buf ≡ buf) × (passing_multi p ≡ Some r.why))
      → IfErr r (λ r. (r.buf ≡ buf) × (do_call (state_of p) (multi_asking a buf) ≡ (Refused r.why, state_of p)))
  if_shares_not (Ok u) granted why_not = tt
  if_shares_not (Err r) granted why_not = (why_not.0, post_again (state_of p) (sharing_of a buf) r.why (post_not_lasting (state_of p) (sharing_of a buf) granted) (again_is ∙ why_not.1))

pub if_shares_next : (p : Parts) (a : MultiAsk) (buf : List ℕ) (q : Parts) (r : Result (Unit {0}) Turned) → OnOk r ((passing_multi p ≡ None) × IsShared a buf p q) → OnErr r (q ≡ p) → StayNext (state_of p) (state_of q)
if_shares_next p a buf q (Ok u) done same = rw done.1.1 (λ d item is. is)
if_shares_next p a buf q (Err why) done same = rw same (λ d item is. is)

-- ---- it is posted

pub room_there : (p : Parts) → passing_multi p ≡ None → length p.rx.rx.posted < p.rx.most
room_there p passing = by (draw_due p.rx.rx) refl (nat_le p.rx.most (length p.rx.rx.posted)) refl
  where
    by : (b : Bool) → draw_due p.rx.rx ≡ b → (full : Bool) → nat_le p.rx.most (length p.rx.rx.posted) ≡ full → length p.rx.rx.posted < p.rx.most
    by true due full is = absurd (let e : None ≡ Some (Again (CqFull p.cq.size)) = sym passing ∙ rw due refl in cc)
    by false still true is = absurd (let e : None ≡ Some (Again (PostedFull p.rx.most)) = sym passing ∙ rw (still, is) refl in cc)
    by false still false is = leb-false _ _ is

pub shared_together : (p : Parts) (a : MultiAsk) (buf : List ℕ) (id : ℕ) → IsTogether p → IsTogether (shared_by id a buf p)
shared_together p a buf id ok = together_with p (shared_by id a buf p) ok refl refl refl refl (omega arith) ok.fitting ok.rooms

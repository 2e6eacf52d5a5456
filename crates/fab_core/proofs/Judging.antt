-- Why looks, receives of claimed messages and drops are refused, and that they are the machine's calls.
use Rattle.std.proofs.Common.{◌≡◌, ℕ, ◌≤◌, Bool, true, false, not, ◌&&◌, ◌||◌, ◌==◌, cond, List, [], ◌∷◌, length, Option, Some, None, refl, sym, ap, ◌∙◌}
use Rattle.std.specs.Prelude.{find, is_none, is_some, nat_lt, IfSome, IfNone, IfErr, OnErr, OnOk, Result, Ok, Err}
use Rattle.std.specs.Option.{option_map}
use Rattle.fab_base.specs.declared.faults.Busy.{Busy}
use Rattle.fab_base.specs.declared.faults.Busy.TheVariants.{CqFull}
use Rattle.fab_base.specs.declared.faults.Fault.{Fault}
use Rattle.fab_base.specs.declared.faults.Fault.TheVariants.{Again, NotSupported, MsgSize, Invalid, NoEntry}
use Rattle.fab_base.specs.declared.faults.Refused.{Refused as Turned}
use Rattle.fab_base.specs.declared.operations.Arrival.{Arrival}
use Rattle.fab_base.specs.declared.peers.LineResult.{LineResult}
use Rattle.fab_base.specs.declared.peers.LineResult.TheVariants.{Done, Refused}
use Rattle.fab_model.specs.Calls.{DropClaimed, TakeClaimed, answer, do_call}
use Rattle.fab_model.specs.Receiving.{claim_of, claimed_fault, draw_due, drop_claimed, is_claim, lacks_room, look, look_fault, may_receive, source_is_known, take_claimed}
use Rattle.fab_model.specs.Sending.{first_fault}
use Rattle.fab_model.specs.State.{State, fits}
use Rattle.fab_cq.specs.Queues.{has_room}
use Rattle.fab_rx.specs.Claims.{claim_under, seen}
use Rattle.fab_face.specs.Acts.{DoesCall}
use Rattle.fab_face.specs.Answers.{is_final}
use Rattle.fab_face.specs.Looking.{looking}
use Rattle.fab_face.specs.Machine.{StayNext}
use Rattle.fab_face.specs.declared.looking.Look.{Look}
use Rattle.fab_core.specs.Parts.{Parts, held_of, state_of}
use Rattle.fab_core.specs.Passing.{is_held}
use Rattle.fab_settling.specs.Orders.{look_want}
use Rattle.fab_core.specs.Looks.{dropped_by, is_held_take, lasting_claimed, lasting_look, looked_by, taken_by}
use Rattle.fab_core.proofs.Made.{none_made}
use Rattle.fab_core.proofs.Fits.{fits_writing}
use Rattle.fab_core.proofs.Seeing.{drop_is, dropped_next, held_dropped, held_looked, held_taken, look_is, looked_next, take_is, taken_next}

-- ---- a call that is judged by faults that last and by one that passes

-- what it answers
abbrev judged : Option Fault → Bool → Busy → Option Fault
judged lasting lack busy = elim lasting [ Some f ↦ Some f | None ↦ cond lack (Some (Again busy)) None ]

module _ (d : LineResult × State) (s after : State) (lasting : Option Fault) (lack : Bool) (busy : Busy) (is : d ≡ answer (judged lasting lack busy) s after) (final : (why : Fault) → lasting ≡ Some why → is_final (Refused why) ≡ true) where
  refused : (why : Fault) → lasting ≡ Some why → d ≡ (Refused why, s)
  refused why e = is ∙ rw e refl

  passing : lasting ≡ None → is_final d.0 ≡ false
  passing none = ap (λ (x : LineResult × State). is_final x.0) is ∙ by lack refl
    where
      by : (b : Bool) → lack ≡ b → is_final (answer (judged lasting lack busy) s after).0 ≡ false
      by true e = rw (none, e) refl
      by false e = rw (none, e) refl

  pub if_refused : (r : Option Fault) → r ≡ lasting → IfSome r (λ why. d ≡ (Refused why, s))
  if_refused None e = tt
  if_refused (Some why) e = refused why (sym e)

  pub if_passing : (r : Option Fault) → r ≡ lasting → IfNone r (is_final d.0 ≡ false)
  if_passing None e = passing (sym e)
  if_passing (Some why) e = tt

  pub none_lasts : is_final d.0 ≡ false → lasting ≡ None
  none_lasts granted = by lasting refl
    where
      by : (f : Option Fault) → lasting ≡ f → lasting ≡ None
      by None e = e
      by (Some why) e = absurd (let r : is_final d.0 ≡ true = ap (λ (x : LineResult × State). is_final x.0) (refused why e) ∙ final why e in cc)

  pub done : is_final d.0 ≡ false → lack ≡ false → d ≡ (Done, after)
  done granted e = is ∙ rw (none_lasts granted, e) refl

  pub again : is_final d.0 ≡ false → lack ≡ true → d ≡ (Refused (Again busy), s)
  again granted e = is ∙ rw (none_lasts granted, e) refl

-- ---- the faults

final_two : (a b : Bool) (why : Fault) → first_fault ((a, NotSupported) ∷ (b, Invalid) ∷ []) ≡ Some why → is_final (Refused why) ≡ true
final_two true b why is = (let e : NotSupported ≡ why = cc in rw (← e) refl)
final_two false true why is = (let e : Invalid ≡ why = cc in rw (← e) refl)
final_two false false why is = absurd (cc)

final_three : (a b c : Bool) (why : Fault) → first_fault ((a, NotSupported) ∷ (b, MsgSize) ∷ (c, NoEntry) ∷ []) ≡ Some why → is_final (Refused why) ≡ true
final_three true b c why is = (let e : NotSupported ≡ why = cc in rw (← e) refl)
final_three false true c why is = (let e : MsgSize ≡ why = cc in rw (← e) refl)
final_three false false true why is = (let e : NoEntry ≡ why = cc in rw (← e) refl)
final_three false false false why is = absurd (cc)

behind_two : (a b c : Bool) (busy : Busy) → first_fault ((a, NotSupported) ∷ (b, Invalid) ∷ (c, Again busy) ∷ []) ≡ judged (first_fault ((a, NotSupported) ∷ (b, Invalid) ∷ [])) c busy
behind_two true b c busy = refl
behind_two false true c busy = refl
behind_two false false c busy = refl

behind_three : (a b c d : Bool) (busy : Busy) → first_fault ((a, NotSupported) ∷ (b, MsgSize) ∷ (c, NoEntry) ∷ (d, Again busy) ∷ []) ≡ judged (first_fault ((a, NotSupported) ∷ (b, MsgSize) ∷ (c, NoEntry) ∷ [])) d busy
behind_three true b c d busy = refl
behind_three false true c d busy = refl
behind_three false false true d busy = refl
behind_three false false false d busy = refl

pub both : (r a b : Bool) → a ≡ true → r ≡ b → r ≡ (a && b)
both r a b e f = rw e f

pub not_both : (a b : Bool) → a ≡ false → false ≡ (a && b)
not_both a b e = rw e refl

-- the first of them that holds is told
module _ (a b : Bool) where
  pub first_of_two : a ≡ true → Some NotSupported ≡ first_fault ((a, NotSupported) ∷ (b, Invalid) ∷ [])
  first_of_two e = rw e refl

  pub second_of_two : a ≡ false → b ≡ true → Some Invalid ≡ first_fault ((a, NotSupported) ∷ (b, Invalid) ∷ [])
  second_of_two e f = rw (e, f) refl

  pub none_of_two : a ≡ false → b ≡ false → None ≡ first_fault ((a, NotSupported) ∷ (b, Invalid) ∷ [])
  none_of_two e f = rw (e, f) refl

  module _ (c : Bool) where
    pub first_of_three : a ≡ true → Some NotSupported ≡ first_fault ((a, NotSupported) ∷ (b, MsgSize) ∷ (c, NoEntry) ∷ [])
    first_of_three e = rw e refl

    pub second_of_three : a ≡ false → b ≡ true → Some MsgSize ≡ first_fault ((a, NotSupported) ∷ (b, MsgSize) ∷ (c, NoEntry) ∷ [])
    second_of_three e f = rw (e, f) refl

    pub third_of_three : a ≡ false → b ≡ false → c ≡ true → Some NoEntry ≡ first_fault ((a, NotSupported) ∷ (b, MsgSize) ∷ (c, NoEntry) ∷ [])
    third_of_three e f g = rw (e, f, g) refl

    pub none_of_three : a ≡ false → b ≡ false → c ≡ false → None ≡ first_fault ((a, NotSupported) ∷ (b, MsgSize) ∷ (c, NoEntry) ∷ [])
    none_of_three e f g = rw (e, f, g) refl

pub claim_alike : (ctx : ℕ) (s : State) → is_some (option_map seen (claim_under ctx s.rx)) ≡ is_some (claim_of ctx s)
claim_alike ctx s = alike (find (λ k. k.0 == ctx) s.rx.claimed)
  where
    alike : (o : Option (ℕ × Arrival)) → is_some (option_map seen (option_map (λ k. k.1) o)) ≡ (let found : Option Arrival = elim o [ None ↦ None | Some k ↦ Some k.1 ] in is_some found)
    alike None = refl
    alike (Some k) = refl

pub none_is : {X : Type 0} (o : Option X) → is_some o ≡ false → is_none o ≡ true
none_is None e = refl
none_is (Some x) e = absurd (cc)

pub some_is : {X : Type 0} (o : Option X) → is_some o ≡ true → is_none o ≡ false
some_is None e = absurd (cc)
some_is (Some x) e = refl

-- a fault that lasts is final
pub if_final_look : (s : State) (l : Look) (r : Option Fault) → r ≡ lasting_look s l → IfSome r (λ why. is_final (Refused why) ≡ true)
if_final_look s l None e = tt
if_final_look s l (Some why) e = final_two _ _ why (sym e)

pub if_final_claimed : (s : State) (n ctx : ℕ) (r : Option Fault) → r ≡ lasting_claimed s n ctx → IfSome r (λ why. is_final (Refused why) ≡ true)
if_final_claimed s n ctx None e = tt
if_final_claimed s n ctx (Some why) e = final_three _ _ _ why (sym e)

pub look_final : (s : State) (l : Look) (why : Fault) → lasting_look s l ≡ Some why → is_final (Refused why) ≡ true
look_final s l why is = final_two _ _ why is

pub claimed_final : (s : State) (n ctx : ℕ) (why : Fault) → lasting_claimed s n ctx ≡ Some why → is_final (Refused why) ≡ true
claimed_final s n ctx why is = final_three _ _ _ why is

look_judged : (s after : State) (l : Look) → look_fault s l.how l.source l.ctx after ≡ judged (lasting_look s l) (lacks_room s after) (CqFull s.cq.size)
unfolding look_fault
look_judged s after l = behind_two (not (may_receive s true)) (not (source_is_known s l.source) || is_claim l.how && is_some (claim_of l.ctx s)) (lacks_room s after) (CqFull s.cq.size)

claimed_judged : (s after : State) (buf : List ℕ) (ctx : ℕ) → claimed_fault s buf ctx after ≡ judged (lasting_claimed s (length buf) ctx) (lacks_room s after) (CqFull s.cq.size)
unfolding claimed_fault
claimed_judged s after buf ctx = behind_three (not (may_receive s true)) (nat_lt s.most_message (length buf)) (is_none (claim_of ctx s)) (lacks_room s after) (CqFull s.cq.size)

-- ---- the calls

module _ (p : Parts) (read : p.cq.taken_out ≤ length p.cq.written) (now : fits p.cq ≡ true) where
  abbrev s : State
  s = state_of p

  lacks : (after : State) (b : Bool) → fits after.cq ≡ b → lacks_room s after ≡ (draw_due p.rx.rx || not b)
  lacks after b is = rw is refl

  -- a look
  module _ (l : Look) where
    abbrev looked : Parts
    looked = looked_by l.how (look_want s l) l.ctx p

    pub look_call : do_call s (looking l) ≡ answer (judged (lasting_look s l) (is_held 1 p) (CqFull p.cq.size)) s (state_of looked)
    unfolding do_call
    look_call =
        let is = look_is p (look_want s l) l.ctx l.how in
        let room : lacks_room s (look l.how (look_want s l) l.ctx s) ≡ is_held 1 p = lacks (look l.how (look_want s l) l.ctx s) (has_room 1 p.cq) (ap (λ (t : State). fits t.cq) is ∙ fits_writing p.cq read now _ _) in
        rw (do_call, look_judged s (look l.how (look_want s l) l.ctx s) l, room, is) refl

    pub if_look_some : (r : Option Fault) → r ≡ lasting_look s l → IfSome r (λ why. do_call s (looking l) ≡ (Refused why, s))
    if_look_some = if_refused (do_call s (looking l)) s (state_of looked) (lasting_look s l) (is_held 1 p) (CqFull p.cq.size) look_call (look_final s l)

    pub if_look_none : (r : Option Fault) → r ≡ lasting_look s l → IfNone r (is_final (do_call s (looking l)).0 ≡ false)
    if_look_none = if_passing (do_call s (looking l)) s (state_of looked) (lasting_look s l) (is_held 1 p) (CqFull p.cq.size) look_call (look_final s l)

    pub if_looks : (q : Parts) (r : Result (Unit {0}) Fault) → is_final (do_call s (looking l)).0 ≡ false → OnOk r ((is_held 1 p ≡ false) × (q ≡ looked)) → OnOk r (DoesCall (Some (looking l)) (held_of p) (held_of q))
    if_looks q (Ok u) granted does = rw does.1 (done (do_call s (looking l)) s (state_of looked) (lasting_look s l) (is_held 1 p) (CqFull p.cq.size) look_call (look_final s l) granted does.0, sym (held_looked p l (look_want s l)) ∙ none_made (looking l) (held_of p) (state_of looked) refl)
    if_looks q (Err why) granted does = tt

    pub if_looks_not : (r : Result (Unit {0}) Fault) → is_final (do_call s (looking l)).0 ≡ false → IfErr r (λ why. (why ≡ Again (CqFull p.cq.size)) × (is_held 1 p ≡ true)) → IfErr r (λ why. do_call s (looking l) ≡ (Refused why, s))
    if_looks_not (Ok u) granted why_not = tt
    if_looks_not (Err why) granted why_not = rw why_not.0 (again (do_call s (looking l)) s (state_of looked) (lasting_look s l) (is_held 1 p) (CqFull p.cq.size) look_call (look_final s l) granted why_not.1)

    pub if_looks_next : (q : Parts) (r : Result (Unit {0}) Fault) → OnOk r ((is_held 1 p ≡ false) × (q ≡ looked)) → OnErr r (q ≡ p) → StayNext s (state_of q)
    if_looks_next q (Ok u) does same = rw does.1 (looked_next p l.how (look_want s l) l.ctx)
    if_looks_next q (Err why) does same = rw same (λ d item is. is)

  -- what is claimed
  module _ (ctx : ℕ) where
    -- one stands there where the call is not refused for good
    stands : (n : ℕ) → lasting_claimed s n ctx ≡ None → (k : ℕ × Arrival) × (find (λ k. k.0 == ctx) p.rx.rx.claimed ≡ Some k)
    stands n none = by (find (λ k. k.0 == ctx) p.rx.rx.claimed) refl
      where
        some_fault : (a b c : Bool) → first_fault ((a, NotSupported) ∷ (b, MsgSize) ∷ (c, NoEntry) ∷ []) ≡ None → c ≡ true → ⊥
        some_fault true b c e f = absurd (cc)
        some_fault false true c e f = absurd (cc)
        some_fault false false true e f = absurd (cc)
        some_fault false false false e f = absurd (cc)

        lacking : (o : Option (ℕ × Arrival)) → o ≡ None → (let found : Option Arrival = elim o [ None ↦ None | Some k ↦ Some k.1 ] in is_none found) ≡ true
        lacking None e = refl
        lacking (Some k) e = absurd (cc)

        by : (o : Option (ℕ × Arrival)) → find (λ k. k.0 == ctx) p.rx.rx.claimed ≡ o → (k : ℕ × Arrival) × (find (λ k. k.0 == ctx) p.rx.rx.claimed ≡ Some k)
        by (Some k) e = (k, e)
        by None e = absurd (some_fault (not (may_receive s true)) (nat_lt s.most_message n) (is_none (claim_of ctx s)) none (lacking (find (λ k. k.0 == ctx) p.rx.rx.claimed) e))

    -- a drop
    pub drop_call : do_call s (DropClaimed ctx) ≡ answer (judged (lasting_claimed s 0 ctx) (lacks_room s (drop_claimed s ctx)) (CqFull p.cq.size)) s (drop_claimed s ctx)
    unfolding do_call
    drop_call = rw (do_call, claimed_judged s (drop_claimed s ctx) [] ctx) refl

    pub if_drop_some : (r : Option Fault) → r ≡ lasting_claimed s 0 ctx → IfSome r (λ why. do_call s (DropClaimed ctx) ≡ (Refused why, s))
    if_drop_some = if_refused (do_call s (DropClaimed ctx)) s (drop_claimed s ctx) (lasting_claimed s 0 ctx) (lacks_room s (drop_claimed s ctx)) (CqFull p.cq.size) drop_call (claimed_final s 0 ctx)

    pub if_drop_none : (r : Option Fault) → r ≡ lasting_claimed s 0 ctx → IfNone r (is_final (do_call s (DropClaimed ctx)).0 ≡ false)
    if_drop_none = if_passing (do_call s (DropClaimed ctx)) s (drop_claimed s ctx) (lasting_claimed s 0 ctx) (lacks_room s (drop_claimed s ctx)) (CqFull p.cq.size) drop_call (claimed_final s 0 ctx)

    drop_lacks : (k : ℕ × Arrival) → find (λ k. k.0 == ctx) p.rx.rx.claimed ≡ Some k → lacks_room s (drop_claimed s ctx) ≡ is_held 1 p
    drop_lacks k found = lacks (drop_claimed s ctx) (has_room 1 p.cq) (ap (λ (t : State). fits t.cq) (drop_is p ctx k found) ∙ fits_writing p.cq read now _ _)

    pub if_drops : (q : Parts) (r : Result (Unit {0}) Fault) → is_final (do_call s (DropClaimed ctx)).0 ≡ false → OnOk r ((is_held 1 p ≡ false) × (q ≡ dropped_by ctx p)) → OnOk r (DoesCall (Some (DropClaimed ctx)) (held_of p) (held_of q))
    if_drops q (Ok u) granted does =
        let k = stands 0 (none_lasts (do_call s (DropClaimed ctx)) s (drop_claimed s ctx) (lasting_claimed s 0 ctx) (lacks_room s (drop_claimed s ctx)) (CqFull p.cq.size) drop_call (claimed_final s 0 ctx) granted) in
        rw does.1
        (done (do_call s (DropClaimed ctx)) s (drop_claimed s ctx) (lasting_claimed s 0 ctx) (lacks_room s (drop_claimed s ctx)) (CqFull p.cq.size) drop_call (claimed_final s 0 ctx) granted (drop_lacks k.0 k.1 ∙ does.0) ∙ ap (λ (t : State). (Done, t)) (drop_is p ctx k.0 k.1), sym (held_dropped p ctx) ∙ none_made (DropClaimed ctx) (held_of p) (state_of (dropped_by ctx p)) refl)
    if_drops q (Err why) granted does = tt

    pub if_drops_not : (r : Result (Unit {0}) Fault) → is_final (do_call s (DropClaimed ctx)).0 ≡ false → IfErr r (λ why. (why ≡ Again (CqFull p.cq.size)) × (is_held 1 p ≡ true)) → IfErr r (λ why. do_call s (DropClaimed ctx) ≡ (Refused why, s))
    if_drops_not (Ok u) granted why_not = tt
    if_drops_not (Err why) granted why_not =
        let k = stands 0 (none_lasts (do_call s (DropClaimed ctx)) s (drop_claimed s ctx) (lasting_claimed s 0 ctx) (lacks_room s (drop_claimed s ctx)) (CqFull p.cq.size) drop_call (claimed_final s 0 ctx) granted) in
        rw why_not.0 (again (do_call s (DropClaimed ctx)) s (drop_claimed s ctx) (lasting_claimed s 0 ctx) (lacks_room s (drop_claimed s ctx)) (CqFull p.cq.size) drop_call (claimed_final s 0 ctx) granted (drop_lacks k.0 k.1 ∙ why_not.1))

    pub if_drops_next : (q : Parts) (r : Result (Unit {0}) Fault) → OnOk r ((is_held 1 p ≡ false) × (q ≡ dropped_by ctx p)) → OnErr r (q ≡ p) → StayNext s (state_of q)
    if_drops_next q (Ok u) does same = rw does.1 (dropped_next p ctx)
    if_drops_next q (Err why) does same = rw same (λ d item is. is)

    -- a receive
    module _ (buf : List ℕ) where
      pub take_call : do_call s (TakeClaimed buf ctx) ≡ answer (judged (lasting_claimed s (length buf) ctx) (lacks_room s (take_claimed s buf ctx)) (CqFull p.cq.size)) s (take_claimed s buf ctx)
      unfolding do_call
      take_call = rw (do_call, claimed_judged s (take_claimed s buf ctx) buf ctx) refl

      pub if_take_some : (r : Option Fault) → r ≡ lasting_claimed s (length buf) ctx → IfSome r (λ why. do_call s (TakeClaimed buf ctx) ≡ (Refused why, s))
      if_take_some = if_refused (do_call s (TakeClaimed buf ctx)) s (take_claimed s buf ctx) (lasting_claimed s (length buf) ctx) (lacks_room s (take_claimed s buf ctx)) (CqFull p.cq.size) take_call (claimed_final s (length buf) ctx)

      pub if_take_none : (r : Option Fault) → r ≡ lasting_claimed s (length buf) ctx → IfNone r (is_final (do_call s (TakeClaimed buf ctx)).0 ≡ false)
      if_take_none = if_passing (do_call s (TakeClaimed buf ctx)) s (take_claimed s buf ctx) (lasting_claimed s (length buf) ctx) (lacks_room s (take_claimed s buf ctx)) (CqFull p.cq.size) take_call (claimed_final s (length buf) ctx)

      take_lacks : (k : ℕ × Arrival) → find (λ k. k.0 == ctx) p.rx.rx.claimed ≡ Some k → lacks_room s (take_claimed s buf ctx) ≡ is_held_take ctx p
      take_lacks k found = by k.1.bytes refl
        where
          by : (b : Option (List ℕ)) → k.1.bytes ≡ b → lacks_room s (take_claimed s buf ctx) ≡ is_held_take ctx p
          by None none = lacks (take_claimed s buf ctx) true (ap (λ (t : State). fits t.cq) (take_is p ctx k found buf) ∙ rw (found, none) now) ∙ sym (rw (found, none) refl)
          by (Some bytes) some = lacks (take_claimed s buf ctx) (has_room 1 p.cq) (ap (λ (t : State). fits t.cq) (take_is p ctx k found buf) ∙ rw (found, some) (fits_writing p.cq read now _ _)) ∙ sym (rw (found, some) refl)

      claim_of_take : is_final (do_call s (TakeClaimed buf ctx)).0 ≡ false → (k : ℕ × Arrival) × (find (λ k. k.0 == ctx) p.rx.rx.claimed ≡ Some k)
      claim_of_take granted = stands (length buf) (none_lasts (do_call s (TakeClaimed buf ctx)) s (take_claimed s buf ctx) (lasting_claimed s (length buf) ctx) (lacks_room s (take_claimed s buf ctx)) (CqFull p.cq.size) take_call (claimed_final s (length buf) ctx) granted)

      pub claim_there : is_final (do_call s (TakeClaimed buf ctx)).0 ≡ false → is_some (claim_under ctx p.rx.rx) ≡ true
      claim_there granted = (let k = claim_of_take granted in rw k.1 refl)

      pub if_takes : (q : Parts) (r : Result (Unit {0}) Turned) → is_final (do_call s (TakeClaimed buf ctx)).0 ≡ false → OnOk r ((is_held_take ctx p ≡ false) × (q ≡ taken_by buf ctx p)) → OnOk r (DoesCall (Some (TakeClaimed buf ctx)) (held_of p) (held_of q))
      if_takes q (Ok u) granted does =
          let k = claim_of_take granted in
          rw does.1
          (done (do_call s (TakeClaimed buf ctx)) s (take_claimed s buf ctx) (lasting_claimed s (length buf) ctx) (lacks_room s (take_claimed s buf ctx)) (CqFull p.cq.size) take_call (claimed_final s (length buf) ctx) granted (take_lacks k.0 k.1 ∙ does.0) ∙ ap (λ (t : State). (Done, t)) (take_is p ctx k.0 k.1 buf), sym (held_taken p buf ctx) ∙ none_made (TakeClaimed buf ctx) (held_of p) (state_of (taken_by buf ctx p)) refl)
      if_takes q (Err why) granted does = tt

      pub if_takes_not : (r : Result (Unit {0}) Turned) → is_final (do_call s (TakeClaimed buf ctx)).0 ≡ false → IfErr r (λ r. (r.buf ≡ buf) × (r.why ≡ Again (CqFull p.cq.size)) × (is_held_take ctx p ≡ true)) → IfErr r (λ r. (r.buf ≡ buf) × (do_call s (TakeClaimed buf ctx) ≡ (Refused r.why, s)))
      if_takes_not (Ok u) granted why_not = tt
      if_takes_not (Err r) granted why_not =
          let k = claim_of_take granted in
          (why_not.0, rw why_not.1 (again (do_call s (TakeClaimed buf ctx)) s (take_claimed s buf ctx) (lasting_claimed s (length buf) ctx) (lacks_room s (take_claimed s buf ctx)) (CqFull p.cq.size) take_call (claimed_final s (length buf) ctx) granted (take_lacks k.0 k.1 ∙ why_not.2)))

      pub if_takes_next : (q : Parts) (r : Result (Unit {0}) Turned) → OnOk r ((is_held_take ctx p ≡ false) × (q ≡ taken_by buf ctx p)) → OnErr r (q ≡ p) → StayNext s (state_of q)
      if_takes_next q (Ok u) does same = rw does.1 (taken_next p buf ctx)
      if_takes_next q (Err why) does same = rw same (λ d item is. is)

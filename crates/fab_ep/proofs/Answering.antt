-- A receive call: draws, the machine's call, and the draws that are due then.
use Rattle.std.proofs.Common.{◌⊎◌, inl, inr, ◌≡◌, ◌≢◌, ℕ, Bool, true, false, [], ◌∷◌, Option, Some, None, refl, sym, ap, ◌∙◌, subst, arith}
use Rattle.std.specs.Prelude.{◌==◌}
use Rattle.fab_base.specs.declared.faults.Fault.{Fault}
use Rattle.fab_base.specs.declared.faults.Fault.TheVariants.{Again, NotSupported, MsgSize, Invalid, NoData, NoKey, Range, NoEntry, Avail, NoMemory as LacksMemory}
use Rattle.fab_base.specs.declared.faults.Busy.TheVariants.{TxFull, PostedFull, CqFull, LogFull}
use Rattle.fab_base.specs.declared.operations.Receive.{Receive}
use Rattle.fab_base.specs.declared.peers.LineResult.TheVariants.{Refused}
use Rattle.fab_model.specs.State.{State}
use Rattle.fab_model.specs.Receiving.{Posting, post, post_fault, cancel, cancel_fault}
use Rattle.fab_model.specs.Sending.{first_fault}
use Rattle.fab_model.specs.Calls.{Call, Post, answer, do_call}
use Rattle.fab_face.specs.Held.{Held, Seen}
use Rattle.fab_face.specs.Acts.{Did, DoesCall, Went}
use Rattle.fab_face.specs.Answers.{HasPlaces, IsShort, Judged, Receives, ReceivesNot, is_final, is_early}
use Rattle.fab_face.specs.Machine.{IsSteady, StayNext, cancelling}
use Rattle.fab_face.proofs.Repaid.{did_due, did_pledged}
use Rattle.std.specs.Prelude.{Result, Err, IfErr}
use Rattle.fab_face.specs.declared.events.Event.TheVariants.{Call as Called}
use Rattle.fab_ep.specs.Sends.{logging}
use Rattle.fab_ep.specs.Draws.{Crowded, Drawing, Draws}
use Rattle.fab_ep.proofs.Due.{grounds_draws, went_draws}
use Rattle.fab_ep.proofs.Lasting.{Lasts, Persists}
use Rattle.fab_face.proofs.Joining.{went_none, went_then, went_did, ported_did, ported_same}
use Rattle.fab_ep.specs.Tries.{IsTied}
use Rattle.fab_ep.proofs.Accepting.{tied_did}

-- ---- what may pass later

abbrev pub is_passing : Fault → Bool
is_passing (Again (CqFull n)) = true
is_passing (Again (PostedFull n)) = true
is_passing (Again (TxFull n)) = false
is_passing (Again (LogFull n)) = false
is_passing NotSupported = false
is_passing MsgSize = false
is_passing Invalid = false
is_passing NoData = false
is_passing NoKey = false
is_passing Range = false
is_passing NoEntry = false
is_passing Avail = false
is_passing LacksMemory = false

-- a fault that may be told of a receive call, and is not to pass
abbrev pub is_told : Fault → Bool
is_told NotSupported = true
is_told MsgSize = true
is_told Invalid = true
is_told NoEntry = true
is_told (Again busy) = false
is_told NoData = false
is_told NoKey = false
is_told Range = false
is_told Avail = false
is_told LacksMemory = false

abbrev pub IsAnswered : Fault → Type 0
IsAnswered why = (is_told why ≡ true) ⊎ (is_passing why ≡ true)

posted_by : (b1 b2 b3 b4 b5 : Bool) (cq rx : ℕ) (s after : State) (why : Fault)
    → (answer (first_fault ((b1, NotSupported) ∷ (b2, MsgSize) ∷ (b3, Invalid) ∷ (b4, Again (CqFull cq)) ∷ (b5, Again (PostedFull rx)) ∷ [])) s after).0 ≡ Refused why → IsAnswered why
posted_by true b2 b3 b4 b5 cq rx s after why is = (let e : NotSupported ≡ why = cc in subst (λ (x : Fault). IsAnswered x) e (inl refl))
posted_by false true b3 b4 b5 cq rx s after why is = (let e : MsgSize ≡ why = cc in subst (λ (x : Fault). IsAnswered x) e (inl refl))
posted_by false false true b4 b5 cq rx s after why is = (let e : Invalid ≡ why = cc in subst (λ (x : Fault). IsAnswered x) e (inl refl))
posted_by false false false true b5 cq rx s after why is = (let e : Again (CqFull cq) ≡ why = cc in subst (λ (x : Fault). IsAnswered x) e (inr refl))
posted_by false false false false true cq rx s after why is = (let e : Again (PostedFull rx) ≡ why = cc in subst (λ (x : Fault). IsAnswered x) e (inr refl))
posted_by false false false false false cq rx s after why is = absurd (cc)

cancelled_by : (b1 b2 : Bool) (cq : ℕ) (s after : State) (why : Fault) → (answer (first_fault ((b1, NoEntry) ∷ (b2, Again (CqFull cq)) ∷ [])) s after).0 ≡ Refused why → IsAnswered why
cancelled_by true b2 cq s after why is = (let e : NoEntry ≡ why = cc in subst (λ (x : Fault). IsAnswered x) e (inl refl))
cancelled_by false true cq s after why is = (let e : Again (CqFull cq) ≡ why = cc in subst (λ (x : Fault). IsAnswered x) e (inr refl))
cancelled_by false false cq s after why is = absurd (cc)

-- the calls of this file
abbrev pub Ours : Call → Type 0
Ours call = (s : State) (why : Fault) → (do_call s call).0 ≡ Refused why → IsAnswered why

pub posts_ours : (p : Posting) → Ours (Post p)
unfolding do_call post_fault
posts_ours p = λ s why is. posted_by _ _ _ _ _ _ _ s (post s p) why is

pub cancels_ours : (ctx : Option ℕ) → Ours (cancelling ctx)
unfolding do_call cancel_fault
cancels_ours None = λ s why is. cancelled_by _ _ _ s (cancel s (λ (r : Receive). true)) why is
cancels_ours (Some ctx) = λ s why is. cancelled_by _ _ _ s (cancel s (λ (r : Receive). r.ctx == ctx)) why is

pub if_err : {T E : Type 0} (P : E → Type 0) (r : Result T E) (why : E) → r ≡ Err why → P why → IfErr r P
if_err P r why is p = rw is p

-- ---- answers

lacks_not : (why : Fault) → IsAnswered why → why ≢ LacksMemory
lacks_not why ours is = elim ours [ inl told ↦ absurd (cc (rw is at told)) | inr passing ↦ absurd (cc (rw is at passing)) ]

early_last : (why : Fault) → is_early why ≡ true → is_final (Refused why) ≡ false → ⊥
early_last (Again busy) early passing = absurd (cc)
early_last NotSupported early passing = absurd (cc)
early_last MsgSize early passing = absurd (cc)
early_last Invalid early passing = absurd (cc)
early_last NoData early passing = absurd (cc)
early_last NoKey early passing = absurd (cc)
early_last Range early passing = absurd (cc)
early_last NoEntry early passing = absurd (cc)
early_last Avail early passing = absurd (cc)
early_last LacksMemory early passing = absurd (cc)

passing_late : (why : Fault) → is_final (Refused why) ≡ false → is_early why ≡ false
passing_late why passing = by (is_early why) refl
  where
    by : (e : Bool) → is_early why ≡ e → is_early why ≡ false
    by true e = absurd (early_last why e passing)
    by false e = e

module _ {Home : Type 0} where
  -- a call is never short where a refusal that may pass is told
  judged_as : (call : Call) (a b : Seen Home) (short : Type 0) (why : Fault) → IsAnswered why → (short → is_final (Refused why) ≡ false → ⊥) → do_call b.held.state call ≡ (Refused why, b.held.state) → Judged call a b short why
  judged_as call a b short NotSupported ours never is = is
  judged_as call a b short MsgSize ours never is = is
  judged_as call a b short Invalid ours never is = is
  judged_as call a b short NoEntry ours never is = is
  judged_as call a b short (Again (CqFull n)) ours never is = (is, λ s. never s refl)
  judged_as call a b short (Again (PostedFull n)) ours never is = (is, λ s. never s refl)
  judged_as call a b short (Again (TxFull n)) ours never is = (is, λ s. never s refl)
  judged_as call a b short (Again (LogFull n)) ours never is = elim ours [ inl told ↦ absurd (cc) | inr passing ↦ absurd (cc) ]
  judged_as call a b short NoData ours never is = is
  judged_as call a b short NoKey ours never is = is
  judged_as call a b short Range ours never is = is
  judged_as call a b short Avail ours never is = is
  judged_as call a b short LacksMemory ours never is = elim ours [ inl told ↦ absurd (cc) | inr passing ↦ absurd (cc) ]

  -- a refusal before which nothing moves
  pub refused_early : (call : Call) (a : Seen Home) (why : Fault) → Ours call → is_early why ≡ true → do_call a.held.state call ≡ (Refused why, a.held.state) → ReceivesNot call a a why
  refused_early call a why ours early is =
      let answered : IsAnswered why = ours a.held.state why (ap (λ x. x.0) is) in
      record {
        acts = [];
        draws = refl;
        went = went_none (Some call) a a refl refl refl (ported_same a.lanes a.lanes refl);
        pushed = refl;
        next = refl;
        lanes = refl;
        judged = judged_as call a a (Crowded a a) why answered (λ crowded passing. absurd (early_last why early passing)) is;
        early = λ e. refl;
        short = λ s. refl;
        place = λ places. omega (arith, places);
        memory = lacks_not why answered;
        drawn = λ e. absurd (cc);
      }

  -- no draw is made where the log was short
  none_short : (a b : Seen Home) → (d : Drawing a b) → IsShort a → d.acts ≡ []
  none_short a b d short = elim d.room [ inl none ↦ none | inr places ↦ absurd (omega (arith, short, places)) ]

  -- the machine's refusal behind the draws
  pub refused_after : (call : Call) (a b : Seen Home) (why : Fault) → Ours call → Draws a b → is_early why ≡ false → do_call b.held.state call ≡ (Refused why, b.held.state) → ((is_final (Refused why) ≡ true) ⊎ (Crowded a b → ⊥)) → ReceivesNot call a b why
  refused_after call a b why ours drawn late is room =
      let d = drawn.0 in
      let answered : IsAnswered why = ours b.held.state why (ap (λ x. x.0) is) in
      record {
        acts = d.acts;
        draws = d.draws;
        went = went_draws (Some call) a b d;
        pushed = d.pushed;
        next = d.next;
        lanes = d.lanes;
        judged = judged_as call a b (Crowded a b) why answered (λ crowded passing. elim room [ inl last ↦ absurd (cc) | inr free ↦ free crowded ]) is;
        early = λ e. absurd (cc);
        short = none_short a b d;
        place = d.place;
        memory = lacks_not why answered;
        drawn = λ e. drawn.1;
      }

  -- draws leave a call granted that is not refused for good
  pub still_granted : (call : Call) (a b : Seen Home) → Lasts call → Draws a b → is_final (do_call a.held.state call).0 ≡ false → is_final (do_call b.held.state call).0 ≡ false
  still_granted call a b lasts drawn granted = (let d = drawn.0 in lasts a.held.state b.held.state (grounds_draws d.acts a.held b.held d.draws (let went = d.went in went.goes)) ∙ granted)

  -- the log has no place for the call behind the draws
  receives_crowded : (call : Call) (a b : Seen Home) → Draws a b → Crowded a b → is_final (do_call b.held.state call).0 ≡ false → ReceivesNot call a b (Again (LogFull a.log_size))
  receives_crowded call a b drawn crowded granted =
      let d = drawn.0 in
      record {
        acts = d.acts;
        draws = d.draws;
        went = went_draws (Some call) a b d;
        pushed = d.pushed;
        next = d.next;
        lanes = d.lanes;
        judged = (refl, crowded, granted);
        early = λ e. absurd (cc);
        short = none_short a b d;
        place = d.place;
        memory = λ lacks. absurd (cc);
        drawn = λ e. drawn.1;
      }

  pub tied_received : (a b : Seen Home) (call : Call) → IsTied a → DoesCall (Some call) a.held b.held → StayNext a.held.state b.held.state → b.log ≡ a.log → b.log_size ≡ a.log_size → b.lanes ≡ a.lanes → IsSteady a.held → IsTied b
  tied_received a b call tied does stays log size lanes steady =
      tied_did a b tied (λ d item lt is. stays d item is) (ap (λ (h : Held). h.places) does.1) (ap (λ (h : Held). h.begun) does.1) (rw (log, size) tied.within) size lanes
      (did_pledged call a.held b.held does steady.partly tied.pledged) (did_due call a.held b.held does)

  -- the same, where the call was found to be granted there
  pub crowded_there : (call : Call) (a b : Seen Home) (why : Fault) → Draws a b → is_final (do_call b.held.state call).0 ≡ false → why ≡ Again (LogFull a.log_size) → Crowded a b → ReceivesNot call a b why
  crowded_there call a b why drawn granted is crowded = rw is (receives_crowded call a b drawn crowded granted)

  pub crowded_out : (call : Call) (a b : Seen Home) (why : Fault) → Lasts call → Draws a b → is_final (do_call a.held.state call).0 ≡ false → why ≡ Again (LogFull a.log_size) → Crowded a b → ReceivesNot call a b why
  crowded_out call a b why lasts drawn granted is crowded = crowded_there call a b why drawn (still_granted call a b lasts drawn granted) is crowded

  -- what may pass later, told by the machine
  pub refused_by : (call : Call) (a b : Seen Home) (h : Held) (why : Fault) → h ≡ b.held → Ours call → Draws a b → (Crowded a b → ⊥) → is_final (do_call b.held.state call).0 ≡ false → do_call b.held.state call ≡ (Refused why, b.held.state) → ReceivesNot call a (record b { held = h }) why
  refused_by call a b h why same ours drawn free granted is =
      let passing : is_final (Refused why) ≡ false = ap is_final (sym (ap (λ x. x.0) is)) ∙ granted in
      subst (λ (x : Held). ReceivesNot call a (record b { held = x }) why) (sym same) (refused_after call a b why ours drawn (passing_late why passing) is (inr free))

  -- a refusal for good that is not early, told behind the draws
  pub refused_last : (call : Call) (a b : Seen Home) (why : Fault) → Ours call → Persists call → (is_early why ≡ true → b ≡ a) → (is_early why ≡ false → Draws a b) → do_call a.held.state call ≡ (Refused why, a.held.state) → is_final (Refused why) ≡ true → ReceivesNot call a b why
  refused_last call a b why ours persists early draws is last = by (is_early why) refl
    where
      by : (e : Bool) → is_early why ≡ e → ReceivesNot call a b why
      by true e = rw (early e) (refused_early call a why ours e is)
      by false e = (let drawn = draws e in refused_after call a b why ours drawn e (persists a.held.state b.held.state why (grounds_draws drawn.0.acts a.held b.held drawn.0.draws (let went = drawn.0.went in went.goes)) is last) (inl last))

  went_received : (call : Call) (a : Seen Home) (h : Held) → DoesCall (Some call) a.held h → Went (Some call) a (logging Called (record a { held = h })) (Did ∷ [])
  went_received call a h does = went_did call a (logging Called (record a { held = h })) does.0 does.1 refl refl (ported_did a.lanes a.lanes refl)

  -- a call that is Ok, between its draws
  pub received : (call : Call) (a b c : Seen Home) (h : Held) → Draws a b → HasPlaces a → DoesCall (Some call) b.held h → Draws (logging Called (record b { held = h })) c → Receives call a c
  received call a b c h drawn places does then =
      let d = drawn.0 in
      let e = then.0 in
      let mid = logging Called (record b { held = h }) in
      record {
        before = d.acts;
        after = e.acts;
        draws = d.draws;
        then_draws = e.draws;
        went = went_then (Some call) a b c d.acts (Did ∷ e.acts) (went_draws (Some call) a b d) (went_then (Some call) b mid c (Did ∷ []) e.acts (went_received call b h does) (went_draws (Some call) mid c e));
        pushed = e.pushed ∙ d.pushed;
        next = e.next ∙ d.next;
        lanes = e.lanes ∙ d.lanes;
        places = places;
        place = elim e.room [ inl none ↦ inl none | inr room ↦ inr (e.place room) ];
        drawn = then.1;
      }

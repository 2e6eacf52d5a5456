-- Where no buffer for many messages is posted nothing is drawn: a receive call is made in the state as it is, and a poll of no frames
-- moves nothing.
use Rattle.std.proofs.Common.{◌≡◌, ◌+◌, ◌≤◌, Bool, true, false, cond, ◌&&◌, ◌||◌, List, [], ◌∷◌, ◌++◌, Option, Some, None, Ok, refl, sym, ap, subst, ◌∙◌, arith}
use Rattle.std.specs.List.{list_any}
use Rattle.std.specs.Prelude.{count_by, is_some, IfSome}
use Rattle.std.proofs.lemmas.Bool.{both_ways}
use Rattle.std.proofs.lemmas.List.Sums.{sum_by-cons}
use Rattle.fabric.specs.Acts.{Act, Did, Took, Posted, Drew, Had, DoesCall, GoesBy, is_draw, is_move, is_post, is_take}
use Rattle.fabric.specs.Answers.{AllAre, Pops}
use Rattle.fabric.specs.Calls.{Call, do_call}
use Rattle.fabric.specs.Held.{Held, Seen}
use Rattle.fabric.specs.Late.{ReceivesLate}
use Rattle.fabric.specs.Matching.{takes}
use Rattle.fabric.specs.Polls.{Polls, PollsAs}
use Rattle.fabric.specs.Receiving.{draws}
use Rattle.fabric.specs.Words.{Arrival, Done, Entry, ErrEntry, Failure, Polled, PolledEntry, PolledError, Receive, Success, Taken}
use Rattle.fabric_uses.specs.Uses.{first_unread, has_multi}

calm : (unexpected : List Arrival) (posted : List Receive) → has_multi posted ≡ false → list_any (draws unexpected) posted ≡ false
calm unexpected [] none = refl
calm unexpected (r ∷ posted) none = by (is_some r.least) (list_any (takes r.want) unexpected) (has_multi posted) (list_any (draws unexpected) posted) none (calm unexpected posted)
  where
    by : (m d ms ds : Bool) → (m || ms) ≡ false → (ms ≡ false → ds ≡ false) → ((m && d) || ds) ≡ false
    by true d ms ds none rest = absurd (cc (none))
    by false d ms ds none rest = rest none

-- ---- acts

no_draws : (call : Option Call) (acts : List Act) (h k : Held) → has_multi h.state.rx.posted ≡ false → AllAre is_draw acts → GoesBy call h acts k → h ≡ k
no_draws call [] h k none are goes = goes
no_draws call (Did ∷ acts) h k none are goes = absurd (cc (are))
no_draws call (Took source f ∷ acts) h k none are goes = absurd (cc (are))
no_draws call (Posted d f ∷ acts) h k none are goes = absurd (cc (are))
no_draws call (Drew ∷ acts) h k none are (mid, drew, rest) = absurd (both_ways _ (calm h.state.rx.unexpected h.state.rx.posted none) drew.0)
no_draws call (Had ∷ acts) h k none are goes = absurd (cc (are))

did_first : (call : Call) (before after : List Act) (h k : Held) → has_multi h.state.rx.posted ≡ false → AllAre is_draw before → GoesBy (Some call) h (before ++ Did ∷ after) k
    → (m : Held) × DoesCall (Some call) h m × GoesBy (Some call) m after k
did_first call [] after h k none are goes = goes
did_first call (Did ∷ acts) after h k none are goes = absurd (cc (are))
did_first call (Took source f ∷ acts) after h k none are goes = absurd (cc (are))
did_first call (Posted d f ∷ acts) after h k none are goes = absurd (cc (are))
did_first call (Drew ∷ acts) after h k none are (mid, drew, rest) = absurd (both_ways _ (calm h.state.rx.unexpected h.state.rx.posted none) drew.0)
did_first call (Had ∷ acts) after h k none are goes = absurd (cc (are))

-- moves of which none takes or posts a frame
moves_none : (acts : List Act) → AllAre is_move acts → count_by is_take acts + count_by is_post acts ≤ 0 → AllAre is_draw acts
moves_none [] are few = refl
moves_none (Did ∷ acts) are few = absurd (cc (are))
moves_none (Took source f ∷ acts) are few = (let t = sum_by-cons (λ (a : Act). cond (is_take a) 1 0) (Took source f) acts in absurd (omega (arith, few, t)))
moves_none (Posted d f ∷ acts) are few = (let p = sum_by-cons (λ (a : Act). cond (is_post a) 1 0) (Posted d f) acts in absurd (omega (arith, few, p)))
moves_none (Drew ∷ acts) are few =
    let t = sum_by-cons (λ (a : Act). cond (is_take a) 1 0) Drew acts in
    let p = sum_by-cons (λ (a : Act). cond (is_post a) 1 0) Drew acts in
    moves_none acts are (omega (arith, few, t, p))
moves_none (Had ∷ acts) are few = absurd (cc (are))

-- ---- calls

-- the call is made in the state as it was, and nothing else is done where this leaves no buffer for many messages
pub made : {Home : Type 0} (call : Call) (old new : Seen Home) → ReceivesLate call old new → has_multi old.held.state.rx.posted ≡ false
    → (m : Held) × (do_call old.held.state call ≡ (Done, m.state)) × (has_multi m.state.rx.posted ≡ false → new.held ≡ m)
made call old new late none =
    let same = no_draws None late.drew.acts old.held late.mid.held none late.drew.draws late.drew.goes in
    let r = late.receives in
    let (m, does, rest) = did_first call r.before r.after late.mid.held new.held (subst (λ (h : Held). has_multi h.state.rx.posted ≡ false) same none) r.draws r.went.goes in
    (m, ap (λ (h : Held). do_call h.state call) same ∙ does.0, λ still. sym (no_draws (Some call) r.after m new.held still r.then_draws rest))

-- ---- polls

popped : {Home : Type 0} (entry : Taken) (mid new : Seen Home) → Pops entry mid new → first_unread mid.held.state.cq ≡ Some entry
popped entry mid new p = rw p.first (ap (λ (t : Taken). Some t) p.is)

read_now : {Home : Type 0} (fixed : Bool) (old new : Seen Home) (polled : Polled) (p : Polls fixed 0 old new (Ok polled)) → has_multi old.held.state.rx.posted ≡ false
    → (entry : Taken) → Pops entry p.mid new → first_unread old.held.state.cq ≡ Some entry
read_now fixed old new polled p none entry pops =
    let draws = moves_none p.progressed.acts p.progressed.moves p.progressed.most in
    let same = no_draws None p.progressed.acts old.held p.mid.held none draws p.progressed.went.goes in
    subst (λ (h : Held). first_unread h.state.cq ≡ Some entry) (sym same) (popped entry p.mid new pops)

module _ {Home : Type 0} (fixed : Bool) (old new : Seen Home) (polled : Polled) (p : Polls fixed 0 old new (Ok polled)) (none : has_multi old.held.state.rx.posted ≡ false) where
  pub entry_read : (o : Option Entry) → IfSome o (λ e. polled ≡ PolledEntry e) → IfSome o (λ e. first_unread old.held.state.cq ≡ Some (Success e))
  entry_read None is = tt
  entry_read (Some e) is = read_now fixed old new polled p none (Success e) (subst (λ (x : Polled). PollsAs 0 old p.mid new p.progressed.acts p.moved (Ok x)) is p.told)

  pub error_read : (o : Option ErrEntry) → IfSome o (λ e. polled ≡ PolledError e) → IfSome o (λ e. first_unread old.held.state.cq ≡ Some (Failure e))
  error_read None is = tt
  error_read (Some e) is = read_now fixed old new polled p none (Failure e) (subst (λ (x : Polled). PollsAs 0 old p.mid new p.progressed.acts p.moved (Ok x)) is p.told)

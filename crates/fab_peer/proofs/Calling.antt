-- A line whose call was answered, and what it makes of a peer.
use Rattle.std.proofs.Common.{IfOk, ◌≡◌, ◌≢◌, ◌<◌, ◌≤◌, ◌+◌, ◌-◌, ◌⊎◌, inl, inr, ℕ, zero, suc, Bool, true, false, ◌||◌, List, [], ◌∷◌, ◌++◌, length, map, get_or, Option, Some, None, Result, Ok, Err, OnOk, IfErr, refl, sym, ap, ◌∙◌, subst, subst₂, arith, append-nil, append_assoc}
use Rattle.std.specs.Prelude.{◌==◌, slice_get, replicate, find, count_by, take, drop, min, unwrap_or}
use Rattle.std.proofs.lemmas.Bool.{eqb-true, eq-eqb}
use Rattle.fab_base.specs.declared.operations.Written.{Written}
use Rattle.std.proofs.lemmas.Option.{slice_get_within}
use Rattle.fab_base.specs.declared.entries.PeekHow.{PeekHow}
use Rattle.fab_base.specs.declared.entries.PeekHow.TheVariants as how
use Rattle.fab_base.specs.declared.entries.Taken.{Taken}
use Rattle.fab_model.specs.Matching.{remove_first}
use Rattle.std.specs.Option.{option_map}
use Rattle.std.proofs.lemmas.Grind.{flat_map-append}
use Rattle.fab_base.specs.declared.entries.Kept.{Kept}
use Rattle.fab_base.specs.declared.faults.Fault.{Fault}
use Rattle.fab_base.specs.declared.faults.Fault.TheVariants.{Again, NoMemory as LacksMemory, NoData, Invalid, NoKey, Range, MsgSize, NotSupported, NoEntry, Avail}
use Rattle.fab_base.specs.declared.faults.Busy.TheVariants.{TxFull, PostedFull, CqFull, LogFull}
use Rattle.fab_base.specs.declared.faults.NoMemory.{NoMemory}
use Rattle.fab_base.specs.declared.faults.Refused.{Refused as RefusedWith}
use Rattle.fab_base.specs.declared.items.Kind.TheVariants.{Msg, TagMsg}
use Rattle.fab_base.specs.declared.peers.Level.{Level}
use Rattle.fab_base.specs.declared.peers.LineResult.{LineResult}
use Rattle.fab_base.specs.declared.peers.LineResult.TheVariants.{Done, Refused, Waited}
use Rattle.fab_base.specs.declared.peers.Step.{Step}
use Rattle.fab_base.specs.declared.peers.Step.TheVariants.{Do, Read}
use Rattle.fab_base.specs.declared.script.BytesWord.{BytesWord}
use Rattle.fab_base.specs.declared.script.Line.{Line}
use Rattle.fab_base.specs.declared.script.LineOp.{LineOp}
use Rattle.fab_base.specs.declared.script.LineOp.TheVariants.{Send, TSend, Inject, TInject, Recv, TRecv, MRecv, Take, Wait, Cancel as CancelLine, DropClaimed as DropLine}
use Rattle.fab_model.specs.Receiving.{draw_due}
use Rattle.fab_model.specs.State.{State}
use Rattle.fab_model.specs.Calls.{Call, Cancel, Look as LookCall, TakeClaimed, DropClaimed, do_call, call_of, message, word_bytes}
use Rattle.fab_model.specs.Peers.{Actor, do_next, do_line, call_line, after_call, is_again, is_of_ctx, is_only_multi, multi_buf, next_line, with_result, with_state, wait_line, read_next, bytes_kept, part_of, unread}
use Rattle.fab_face.specs.Held.{Held, Seen, IsOpen}
use Rattle.fab_face.specs.Acts.{Act, Did, Took, Posted, Drew, Had, Went, steps_of, steps_by, events, has_read, is_move}
use Rattle.fab_face.specs.Answers.{AllAre, Judged, IsShort, IsSharing, Sends, SendsNot, Receives, ReceivesNot, Pops, after_read, receive_call}
use Rattle.fab_peer.specs.declared.peer.Outcome.{Outcome}
use Rattle.fab_peer.specs.Looks.{look_line}
use Rattle.fab_peer.specs.Turns.{Told, living_of, actor_in, actor_of, hands_back, waited_back, multis_done, IsCounted, SameParts, Lives, Lived, WentOn, Answered, why_of, drained, with_seen, is_only, LentIf, Lent, HasRead, is_some_act, is_some_event, next_op, step_of, ReadOn, is_read}
use Rattle.fab_face.proofs.Joining.{posts_move, draws_move, ported_did, ported_had, ported_same, ported_then}
use Rattle.fab_peer.proofs.Paths.{living, lives_append, goes_split, moves_live, posts_some, draws_some, some_did, no_line, one_line, none_acts, steps_told, steps_called, some_append, lived_then}
use Rattle.fab_peer.proofs.Counting.{IsMarked, MarkedBy, counted_moves, counted_noted, counted_call, counted_waited, counted_read, lent_is}

-- ---- one line

after_answer : (a : Actor) (outcome : LineResult) (s : State) → is_again outcome ≡ false → after_call a (outcome, s) ≡ Some (with_result outcome (with_state a s))
after_answer a outcome s again = rw (again, after_call) refl

after_again : (a : Actor) (outcome : LineResult) (s : State) → is_again outcome ≡ true → after_call a (outcome, s) ≡ None
after_again a outcome s again = rw (again, after_call) refl

-- whatever is held, the next line is this call; a multi-receive is of a line that says so
abbrev pub IsCalled : List Line → List LineResult → List Kept → Call → Type 0
IsCalled lines results kept call = ((m : Held) → do_next (actor_in (living m lines results kept)) ≡ call_line (actor_in (living m lines results kept)) call) × IsMarked lines results call

pub did_lives : (m k : Held) (lines : List Line) (results : List LineResult) (kept : List Kept) (call : Call) (outcome : LineResult)
    → IsCalled lines results kept call → do_call m.state call ≡ (outcome, k.state) → is_again outcome ≡ false → SameParts m k
    → Lives (living m lines results kept) Did (living k lines (results ++ outcome ∷ []) kept)
unfolding call_line
did_lives m k lines results kept call outcome next done again same =
    (next.0 m ∙ ap (after_call (actor_in (living m lines results kept))) done ∙ after_answer (actor_in (living m lines results kept)) outcome k.state again, same)

pub again_held : (m : Held) (lines : List Line) (results : List LineResult) (kept : List Kept) (call : Call) (outcome : LineResult)
    → IsCalled lines results kept call → do_call m.state call ≡ (outcome, m.state) → is_again outcome ≡ true → do_next (actor_in (living m lines results kept)) ≡ None
unfolding call_line
again_held m lines results kept call outcome next done again =
    next.0 m ∙ ap (after_call (actor_in (living m lines results kept))) done ∙ after_again (actor_in (living m lines results kept)) outcome m.state again

pub next_is : (a : Actor) (op : LineOp) → option_map (λ (line : Line). line.op) (next_line a) ≡ Some op → do_next a ≡ do_line a op
unfolding do_next
next_is a op e = by_line (next_line a) refl e
  where
    by_line : (o : Option Line) → next_line a ≡ o → option_map (λ (line : Line). line.op) o ≡ Some op → do_next a ≡ do_line a op
    by_line None there e = absurd (cc)
    by_line (Some line) there e = let is : line.op ≡ op = cc in rw (there, do_next, is) refl

pub calls_tsend : {Home : Type 0} (a : Told Home) (ctx dest tag : ℕ) (word : BytesWord) (imm : Option ℕ) (level : Level) (completion fence : Bool) (bytes : List ℕ)
    → next_op a ≡ Some (TSend ctx dest tag word imm level completion fence) → bytes ≡ word_bytes word
    → IsCalled a.lines a.results a.kept (message TagMsg (Some ctx) dest tag bytes imm level completion fence)
unfolding do_line call_of
calls_tsend a ctx dest tag word imm level completion fence bytes next is = (
  (λ m. next_is (actor_in (living m a.lines a.results a.kept)) _ next
      ∙ ap (λ bs. call_line (actor_in (living m a.lines a.results a.kept)) (message TagMsg (Some ctx) dest tag bs imm level completion fence)) (sym is)),
  tt,
)

pub calls_trecv : {Home : Type 0} (a : Told Home) (ctx : ℕ) (source : Option ℕ) (tag ignore len : ℕ) (buf : List ℕ)
    → next_op a ≡ Some (TRecv ctx source tag ignore len) → buf ≡ replicate len 0 → IsCalled a.lines a.results a.kept (receive_call true source tag ignore buf None ctx)
unfolding do_line call_of
calls_trecv a ctx source tag ignore len buf next is = (
  (λ m. next_is (actor_in (living m a.lines a.results a.kept)) _ next
      ∙ ap (λ bs. call_line (actor_in (living m a.lines a.results a.kept)) (receive_call true source tag ignore bs None ctx)) (sym is)),
  tt,
)

pub calls_send : {Home : Type 0} (a : Told Home) (ctx dest : ℕ) (word : BytesWord) (imm : Option ℕ) (level : Level) (completion fence : Bool) (bytes : List ℕ)
    → next_op a ≡ Some (Send ctx dest word imm level completion fence) → bytes ≡ word_bytes word
    → IsCalled a.lines a.results a.kept (message Msg (Some ctx) dest 0 bytes imm level completion fence)
unfolding do_line call_of
calls_send a ctx dest word imm level completion fence bytes next is = (
  (λ m. next_is (actor_in (living m a.lines a.results a.kept)) _ next
      ∙ ap (λ bs. call_line (actor_in (living m a.lines a.results a.kept)) (message Msg (Some ctx) dest 0 bs imm level completion fence)) (sym is)),
  tt,
)

pub calls_inject : {Home : Type 0} (a : Told Home) (dest : ℕ) (word : BytesWord) (imm : Option ℕ) (bytes : List ℕ)
    → next_op a ≡ Some (Inject dest word imm) → bytes ≡ word_bytes word → IsCalled a.lines a.results a.kept (message Msg None dest 0 bytes imm Level.Inject false false)
unfolding do_line call_of
calls_inject a dest word imm bytes next is = (
  (λ m. next_is (actor_in (living m a.lines a.results a.kept)) _ next
      ∙ ap (λ bs. call_line (actor_in (living m a.lines a.results a.kept)) (message Msg None dest 0 bs imm Level.Inject false false)) (sym is)),
  tt,
)

pub calls_tinject : {Home : Type 0} (a : Told Home) (dest tag : ℕ) (word : BytesWord) (imm : Option ℕ) (bytes : List ℕ)
    → next_op a ≡ Some (TInject dest tag word imm) → bytes ≡ word_bytes word → IsCalled a.lines a.results a.kept (message TagMsg None dest tag bytes imm Level.Inject false false)
unfolding do_line call_of
calls_tinject a dest tag word imm bytes next is = (
  (λ m. next_is (actor_in (living m a.lines a.results a.kept)) _ next
      ∙ ap (λ bs. call_line (actor_in (living m a.lines a.results a.kept)) (message TagMsg None dest tag bs imm Level.Inject false false)) (sym is)),
  tt,
)

pub calls_recv : {Home : Type 0} (a : Told Home) (ctx : ℕ) (source : Option ℕ) (len : ℕ) (buf : List ℕ)
    → next_op a ≡ Some (Recv ctx source len) → buf ≡ replicate len 0 → IsCalled a.lines a.results a.kept (receive_call false source 0 0 buf None ctx)
unfolding do_line call_of
calls_recv a ctx source len buf next is = (
  (λ m. next_is (actor_in (living m a.lines a.results a.kept)) _ next
      ∙ ap (λ bs. call_line (actor_in (living m a.lines a.results a.kept)) (receive_call false source 0 0 bs None ctx)) (sym is)),
  tt,
)

pub calls_mrecv : {Home : Type 0} (a : Told Home) (ctx : ℕ) (source : Option ℕ) (len : ℕ) (least : Option ℕ) (buf : List ℕ) (lowest : ℕ)
    → next_op a ≡ Some (MRecv ctx source len least) → buf ≡ replicate len 0 → lowest ≡ unwrap_or least (min 64 len) → IsCalled a.lines a.results a.kept (receive_call false source 0 0 buf (Some lowest) ctx)
unfolding do_line call_of
calls_mrecv a ctx source len least buf lowest next is lowest_is = (
  (λ m. next_is (actor_in (living m a.lines a.results a.kept)) _ next
      ∙ (λ i. call_line (actor_in (living m a.lines a.results a.kept)) (receive_call false source 0 0 (sym is i) (Some (sym lowest_is i)) ctx))),
  marked (slice_get a.lines (length a.results)) refl next,
)
  where
    marked : (o : Option Line) → slice_get a.lines (length a.results) ≡ o → option_map (λ (line : Line). line.op) o ≡ Some (MRecv ctx source len least) → MarkedBy a.lines a.results ctx (Some lowest)
    marked None there e = absurd (cc)
    marked (Some line) there e = (line, there, (let op : line.op ≡ MRecv ctx source len least = cc in rw op (eq-eqb ctx ctx refl)))

pub calls_cancel : {Home : Type 0} (a : Told Home) (ctx : ℕ) → next_op a ≡ Some (CancelLine ctx) → IsCalled a.lines a.results a.kept (Cancel ctx)
unfolding do_line call_of
calls_cancel a ctx next = ((λ m. next_is (actor_in (living m a.lines a.results a.kept)) _ next), tt)

pub calls_look : {Home : Type 0} (a : Told Home) (how : PeekHow) (ctx : ℕ) (source : Option ℕ) (tag ignore : ℕ) → next_op a ≡ Some (look_line how ctx source tag ignore) → IsCalled a.lines a.results a.kept (LookCall how source tag ignore ctx)
unfolding do_line call_of
calls_look a how.Peek ctx source tag ignore next = ((λ m. next_is (actor_in (living m a.lines a.results a.kept)) _ next), tt)
calls_look a how.Claim ctx source tag ignore next = ((λ m. next_is (actor_in (living m a.lines a.results a.kept)) _ next), tt)
calls_look a how.Discard ctx source tag ignore next = ((λ m. next_is (actor_in (living m a.lines a.results a.kept)) _ next), tt)

pub calls_take : {Home : Type 0} (a : Told Home) (ctx len : ℕ) (buf : List ℕ) → next_op a ≡ Some (Take ctx len) → buf ≡ replicate len 0 → IsCalled a.lines a.results a.kept (TakeClaimed buf ctx)
unfolding do_line call_of
calls_take a ctx len buf next is = (
  (λ m. next_is (actor_in (living m a.lines a.results a.kept)) _ next
      ∙ ap (λ bs. call_line (actor_in (living m a.lines a.results a.kept)) (TakeClaimed bs ctx)) (sym is)),
  tt,
)

pub calls_drop : {Home : Type 0} (a : Told Home) (ctx : ℕ) → next_op a ≡ Some (DropLine ctx) → IsCalled a.lines a.results a.kept (DropClaimed ctx)
unfolding do_line call_of
calls_drop a ctx next = ((λ m. next_is (actor_in (living m a.lines a.results a.kept)) _ next), tt)

-- ---- why a call is refused

module _ {Home : Type 0} (call : Call) (old new : Seen Home) (short : Type 0) where
  pub judged_final : (f : Fault) → Judged call old new short f → is_again (Refused f) ≡ false → f ≢ LacksMemory → do_call new.held.state call ≡ (Refused f, new.held.state)
  judged_final (Again busy) j again memory = absurd (cc)
  judged_final LacksMemory j again memory = absurd (memory refl)
  judged_final NoData j again memory = j
  judged_final Invalid j again memory = j
  judged_final NoKey j again memory = j
  judged_final Range j again memory = j
  judged_final MsgSize j again memory = j
  judged_final NotSupported j again memory = j
  judged_final NoEntry j again memory = j
  judged_final Avail j again memory = j

  pub judged_again : (f : Fault) → Judged call old new short f → is_again (Refused f) ≡ true → (short → ⊥) → do_call new.held.state call ≡ (Refused f, new.held.state)
  judged_again (Again (TxFull n)) j again long = j.0
  judged_again (Again (PostedFull n)) j again long = j.0
  judged_again (Again (CqFull n)) j again long = j.0
  judged_again (Again (LogFull n)) j again long = absurd (long j.1)
  judged_again LacksMemory j again long = absurd (cc)
  judged_again NoData j again long = absurd (cc)
  judged_again Invalid j again long = absurd (cc)
  judged_again NoKey j again long = absurd (cc)
  judged_again Range j again long = absurd (cc)
  judged_again MsgSize j again long = absurd (cc)
  judged_again NotSupported j again long = absurd (cc)
  judged_again NoEntry j again long = absurd (cc)
  judged_again Avail j again long = absurd (cc)

  -- a call that is to come again: the machine says so, or the log is short
  pub judged_waits : (f : Fault) → Judged call old new short f → is_again (Refused f) ≡ true → (do_call new.held.state call ≡ (Refused f, new.held.state)) ⊎ short
  judged_waits (Again (TxFull n)) j again = inl j.0
  judged_waits (Again (PostedFull n)) j again = inl j.0
  judged_waits (Again (CqFull n)) j again = inl j.0
  judged_waits (Again (LogFull n)) j again = inr j.1
  judged_waits LacksMemory j again = absurd (cc)
  judged_waits NoData j again = absurd (cc)
  judged_waits Invalid j again = absurd (cc)
  judged_waits NoKey j again = absurd (cc)
  judged_waits Range j again = absurd (cc)
  judged_waits MsgSize j again = absurd (cc)
  judged_waits NotSupported j again = absurd (cc)
  judged_waits NoEntry j again = absurd (cc)
  judged_waits Avail j again = absurd (cc)

-- an answer leaves the endpoint as it is
pub answered_seen : {Home : Type 0} (r : Result (Unit {0}) Fault) (a b : Told Home) (done : Bool) → Answered r a b done → b.seen ≡ a.seen
answered_seen (Ok u) a b done (was, is) = ap (λ (x : Told _). x.seen) is
answered_seen (Err f) a b true (final, memory, is) = ap (λ (x : Told _). x.seen) is
answered_seen (Err f) a b false (again, is) = ap (λ (x : Told _). x.seen) is

-- ---- a call of a line

module _ {Home : Type 0} (a : Told Home) (e : Seen Home) (call : Call) (next : IsCalled a.lines a.results a.kept call) (none : a.seen.log ≡ []) where
  logged_is : (acts : List Act) (steps : List Step) → e.log ≡ a.seen.log ++ events acts → map step_of (events acts) ≡ steps → a.schedule ++ map step_of e.log ≡ a.schedule ++ steps
  logged_is acts steps log told = ap (λ l. a.schedule ++ map step_of l) (log ∙ ap (λ l. l ++ events acts) none) ∙ ap (λ s. a.schedule ++ s) told

  -- moves alone
  pub lived_moves : (acts : List Act) (o : Option Call) → AllAre is_move acts → Went o a.seen e acts → Lived a (drained (with_seen a e)) acts
  lived_moves acts o are went = record {
    lives = moves_live o acts a.seen.held e.held a.lines a.results a.kept are went.goes;
    schedule = logged_is acts (steps_of acts) went.log (steps_told acts are);
    ported = went.ported;
  }

  pub lived_done : (before after : List Act) → AllAre is_move before → AllAre is_move after → Went (Some call) a.seen e (before ++ Did ∷ after)
      → Lived a (let d = drained (with_seen a e) in record d { results = d.results ++ Done ∷ [] }) (before ++ Did ∷ after)
  lived_done before after b f went =
      let s = goes_split (Some call) before (Did ∷ after) a.seen.held e.held went.goes in
      record {
        lives = lives_append _ (living s.0 a.lines a.results a.kept) _ before (Did ∷ after) (moves_live (Some call) before a.seen.held s.0 a.lines a.results a.kept b s.1) (
          living s.2.0 a.lines (a.results ++ Done ∷ []) a.kept,
          did_lives s.0 s.2.0 a.lines a.results a.kept call Done next s.2.1.0 refl (ap (λ (x : Held). x.places) s.2.1.1, ap (λ (x : Held). x.begun) s.2.1.1),
          moves_live (Some call) after s.2.0 e.held a.lines (a.results ++ Done ∷ []) a.kept f s.2.2,
        );
        schedule = logged_is (before ++ Did ∷ after) (steps_of (before ++ Did ∷ after)) went.log (steps_called before after b f);
        ported = went.ported;
      }

  pub lived_refused : (acts : List Act) (f : Fault) → AllAre is_move acts → Went (Some call) a.seen e acts → do_call e.held.state call ≡ (Refused f, e.held.state) → is_again (Refused f) ≡ false
      → Lived a (let d = drained (with_seen a e) in record d { results = d.results ++ Refused f ∷ []; schedule = d.schedule ++ Do ∷ [] }) (acts ++ Did ∷ [])
  lived_refused acts f are went done again = record {
    lives = lives_append _ (living e.held a.lines a.results a.kept) _ acts (Did ∷ []) (moves_live (Some call) acts a.seen.held e.held a.lines a.results a.kept are went.goes)
        (living e.held a.lines (a.results ++ Refused f ∷ []) a.kept, did_lives e.held e.held a.lines a.results a.kept call (Refused f) next done again (refl, refl), refl);
    schedule = ap (λ l. l ++ Do ∷ []) (logged_is acts (steps_of acts) went.log (steps_told acts are)) ∙ append_assoc a.schedule (steps_of acts) (Do ∷ [])
        ∙ ap (λ steps. a.schedule ++ steps) (sym (flat_map-append steps_by acts (Did ∷ [])));
    ported = ported_then a.seen.lanes e.lanes e.lanes acts (Did ∷ []) went.ported (ported_did e.lanes e.lanes refl);
  }

  -- where nothing moved, the log is empty
  still_log : (acts : List Act) → acts ≡ [] → e.log ≡ a.seen.log ++ events acts → e.log ≡ []
  still_log acts is log = log ∙ ap (λ xs. a.seen.log ++ events xs) is ∙ append-nil a.seen.log ∙ none

  pub sends_on : (fixed : Bool) (dest : ℕ) (buf : List ℕ) (r : Result (Unit {0}) RefusedWith) (b : Told Home) (done : Bool) → IsOpen a.seen
      → OnOk r (Sends fixed call dest a.seen e) → IfErr r (λ x. (x.buf ≡ buf) × SendsNot fixed call a.seen e x.why)
      → Answered (why_of r) (drained (with_seen a e)) b done → WentOn a b done (done || e.pushed)
  sends_on fixed dest buf (Ok u) b done sound ok err (was, is) =
      let before = posts_move ok.before ok.push in
      let after = posts_move ok.after ok.posts in
      rw (was, is) (record {
        acts = ok.before ++ Did ∷ ok.after;
        lived = lived_done ok.before ok.after before after ok.went;
        moved_is = sym (some_did ok.before ok.after);
        held = λ nay. absurd (cc nay);
        log = refl;
        is_done = λ was. refl;
        lines = refl;
        counted = counted_call a.lines a.results a.kept call ok.before ok.after a.seen.held e.held next.1 before after ok.went.goes;
        one = one_line ok.before ok.after before after;
        size = ok.went.size;
        waits = λ nay. absurd (cc nay);
      })
  sends_on fixed dest buf (Err r) b true sound ok err (final, memory, is) =
      let nay = err.1 in
      let moves = posts_move nay.acts nay.push in
      rw is (record {
        acts = nay.acts ++ Did ∷ [];
        lived = lived_refused nay.acts r.why moves nay.went (judged_final call a.seen e (IsShort a.seen) r.why nay.judged final memory) final;
        moved_is = sym (some_did nay.acts []);
        held = λ nay. absurd (cc nay);
        log = refl;
        is_done = λ was. refl;
        lines = refl;
        counted = λ c. counted_noted a.lines a.results a.kept e.held (Refused r.why) (λ ctx. refl) (counted_moves a.lines a.results a.kept (Some call) nay.acts a.seen.held e.held moves nay.went.goes c);
        one = one_line nay.acts [] moves refl;
        size = nay.went.size;
        waits = λ nay. absurd (cc nay);
      })
  sends_on fixed dest buf (Err r) b false sound ok err (again, is) =
      let nay = err.1 in
      let moves = posts_move nay.acts nay.push in
      let waits_now = again_held e.held a.lines a.results a.kept call (Refused r.why) next
      (judged_again call a.seen e (IsShort a.seen) r.why nay.judged again (λ short. (let l : length a.seen.log ≡ 0 = ap length none in omega (arith, short, l, sound.log)))) again in
      rw is (record {
        acts = nay.acts;
        lived = lived_moves nay.acts (Some call) moves nay.went;
        moved_is = nay.pushed ∙ posts_some nay.acts nay.push;
        held = λ d m. waits_now;
        log = refl;
        is_done = λ was. absurd (cc was);
        lines = refl;
        counted = counted_moves a.lines a.results a.kept (Some call) nay.acts a.seen.held e.held moves nay.went.goes;
        one = no_line nay.acts moves;
        size = nay.went.size;
        waits = λ d. inl waits_now;
      })

  pub receives_on : (r : Result (Unit {0}) Fault) (b : Told Home) (done : Bool) → IsOpen a.seen → IsOpen e
      → OnOk r (Receives call a.seen e) → IfErr r (λ f. ReceivesNot call a.seen e f)
      → Answered r (drained (with_seen a e)) b done → WentOn a b done (done || is_some_event e.log)
  receives_on (Ok u) b done sound opened ok err (was, is) =
      let before = draws_move ok.before ok.draws in
      let after = draws_move ok.after ok.then_draws in
      rw (was, is) (record {
        acts = ok.before ++ Did ∷ ok.after;
        lived = lived_done ok.before ok.after before after ok.went;
        moved_is = sym (some_did ok.before ok.after);
        held = λ nay. absurd (cc nay);
        log = refl;
        is_done = λ was. refl;
        lines = refl;
        counted = counted_call a.lines a.results a.kept call ok.before ok.after a.seen.held e.held next.1 before after ok.went.goes;
        one = one_line ok.before ok.after before after;
        size = ok.went.size;
        waits = λ nay. absurd (cc nay);
      })
  receives_on (Err f) b true sound opened ok nay (final, memory, is) =
      let moves = draws_move nay.acts nay.draws in
      rw is (record {
        acts = nay.acts ++ Did ∷ [];
        lived = lived_refused nay.acts f moves nay.went (judged_final call a.seen e _ f nay.judged final memory) final;
        moved_is = sym (some_did nay.acts []);
        held = λ nay. absurd (cc nay);
        log = refl;
        is_done = λ was. refl;
        lines = refl;
        counted = λ c. counted_noted a.lines a.results a.kept e.held (Refused f) (λ ctx. refl) (counted_moves a.lines a.results a.kept (Some call) nay.acts a.seen.held e.held moves nay.went.goes c);
        one = one_line nay.acts [] moves refl;
        size = nay.went.size;
        waits = λ nay. absurd (cc nay);
      })
  receives_on (Err f) b false sound opened ok nay (again, is) =
      let moves = draws_move nay.acts nay.draws in
      let moved : is_some_event e.log ≡ is_some_act nay.acts = ap is_some_event (nay.went.log ∙ ap (λ l. l ++ events nay.acts) none) ∙ draws_some nay.acts nay.draws in
      rw is (record {
        acts = nay.acts;
        lived = lived_moves nay.acts (Some call) moves nay.went;
        moved_is = moved;
        held = λ d m. again_held e.held a.lines a.results a.kept call (Refused f) next
            (judged_again call a.seen e _ f nay.judged again (λ short. not_short nay.acts (none_acts nay.acts (sym moved ∙ m)) nay.went.log short)) again;
        log = refl;
        is_done = λ was. absurd (cc was);
        lines = refl;
        counted = counted_moves a.lines a.results a.kept (Some call) nay.acts a.seen.held e.held moves nay.went.goes;
        one = no_line nay.acts moves;
        size = nay.went.size;
        waits = λ d. elim (judged_waits call a.seen e _ f nay.judged again) [
          | inl there ↦ inl (again_held e.held a.lines a.results a.kept call (Refused f) next there again)
          | inr short ↦ inr (still_due short)
        ];
      })
    where
      not_short : (acts : List Act) → acts ≡ [] → e.log ≡ a.seen.log ++ events acts → (IsShort a.seen ⊎ ((draw_due e.held.state.rx ≡ true) × (e.log_size ≡ length e.log + 1))) → ⊥
      not_short acts is log (inl short) = let l : length a.seen.log ≡ 0 = ap length none in omega (arith, short, l, sound.log)
      not_short acts is log (inr left) = let l : length e.log ≡ 0 = ap length (still_log acts is log) in omega (arith, left.1, l, opened.log)

      still_due : IsShort a.seen ⊎ ((draw_due e.held.state.rx ≡ true) × (e.log_size ≡ length e.log + 1)) → draw_due e.held.state.rx ≡ true
      still_due (inl short) = let l : length a.seen.log ≡ 0 = ap length none in absurd (omega (arith, short, l, sound.log))
      still_due (inr left) = left.0

  -- the same, as a function of a peer sees them
  pub sends_line : (fixed : Bool) (dest : ℕ) (buf : List ℕ) (r : Result (Unit {0}) RefusedWith) (why : Result (Unit {0}) Fault) (b : Told Home) (out : Result Outcome NoMemory) → IsOpen a.seen
      → OnOk r (Sends fixed call dest a.seen e) → IfErr r (λ x. (x.buf ≡ buf) × SendsNot fixed call a.seen e x.why)
      → why ≡ why_of r → IfOk out (λ o. Answered why (drained (with_seen a e)) b o.done) → IfOk out (λ o. o.moved ≡ (o.done || b.seen.pushed)) → IfOk out (λ o. WentOn a b o.done o.moved)
  sends_line fixed dest buf r why b (Ok o) sound ok err is_why answered moved =
      let told : Answered (why_of r) (drained (with_seen a e)) b o.done = subst (λ x. Answered x (drained (with_seen a e)) b o.done) is_why answered in
      let same : b.seen.pushed ≡ e.pushed = ap (λ (x : Seen Home). x.pushed) (answered_seen (why_of r) (drained (with_seen a e)) b o.done told) in
      subst (λ m. WentOn a b o.done m) (sym (moved ∙ ap (λ x. o.done || x) same)) (sends_on fixed dest buf r b o.done sound ok err told)
  sends_line fixed dest buf r why b (Err x) sound ok err is_why answered moved = tt

  pub injects_line : (fixed : Bool) (dest : ℕ) (why : Result (Unit {0}) Fault) (b : Told Home) (out : Result Outcome NoMemory) → IsOpen a.seen
      → OnOk why (Sends fixed call dest a.seen e) → IfErr why (λ x. SendsNot fixed call a.seen e x)
      → IfOk out (λ o. Answered why (drained (with_seen a e)) b o.done) → IfOk out (λ o. o.moved ≡ (o.done || b.seen.pushed)) → IfOk out (λ o. WentOn a b o.done o.moved)
  injects_line fixed dest (Ok u) b out sound ok err answered moved =
      sends_line fixed dest [] (Ok u) (Ok u) b out sound ok tt refl answered moved
  injects_line fixed dest (Err fault) b out sound ok err answered moved =
      sends_line fixed dest [] (Err (record { why = fault; buf = [] })) (Err fault) b out sound tt (refl, err) refl answered moved

  pub receives_line : (r : Result (Unit {0}) Fault) (why : Result (Unit {0}) Fault) (b : Told Home) (out : Result Outcome NoMemory) → IsOpen a.seen → IsOpen e
      → OnOk r (Receives call a.seen e) → IfErr r (λ f. ReceivesNot call a.seen e f)
      → why ≡ r → IfOk out (λ o. Answered why (drained (with_seen a e)) b o.done) → IfOk out (λ o. o.moved ≡ (o.done || is_some_event e.log)) → IfOk out (λ o. WentOn a b o.done o.moved)
  receives_line r why b (Ok o) sound opened ok err is_why answered moved =
      let told : Answered r (drained (with_seen a e)) b o.done = subst (λ x. Answered x (drained (with_seen a e)) b o.done) is_why answered in
      subst (λ m. WentOn a b o.done m) (sym moved) (receives_on r b o.done sound opened ok err told)
  receives_line r why b (Err x) sound opened ok err is_why answered moved = tt

pub why_err : (Q : Fault → Type 0) (buf : List ℕ) (r : Result (Unit {0}) RefusedWith) → IfErr r (λ x. (x.buf ≡ buf) × Q x.why) → IfErr (why_of r) Q
why_err Q buf (Ok u) err = tt
why_err Q buf (Err x) err = err.1

pub why_ok : (Q : Type 0) (r : Result (Unit {0}) RefusedWith) → OnOk r Q → OnOk (why_of r) Q
why_ok Q (Ok u) ok = ok
why_ok Q (Err x) ok = ok

-- ---- waits and reads

module _ {Home : Type 0} where
  pub told_is : (a b : Told Home) → b.seen ≡ a.seen → b.lines ≡ a.lines → b.results ≡ a.results → b.kept ≡ a.kept → b.schedule ≡ a.schedule → b ≡ a
  told_is a b seen lines results kept schedule = λ i. record { seen = seen i; lines = lines i; results = results i; kept = kept i; schedule = schedule i }

  pub lived_same : (a : Told Home) → Lived a a []
  lived_same a = record { lives = refl; schedule = sym (append-nil a.schedule); ported = ported_same a.seen.lanes a.seen.lanes refl }

  pub wait_none : (a b : Told Home) (ctx : Option ℕ) → next_op a ≡ Some (Wait ctx) → find (is_of_ctx ctx) a.kept ≡ None → a.seen.log ≡ [] → b ≡ a → WentOn a b false false
  unfolding do_line wait_line
  wait_none a b ctx next none log same = rw same (record {
    acts = [];
    lived = lived_same a;
    moved_is = refl;
    held = λ d m. next_is (actor_of a) (Wait ctx) next ∙ rw (none, wait_line) refl;
    log = log;
    is_done = λ was. absurd (cc was);
    lines = refl;
    counted = λ c. c;
    one = refl;
    size = refl;
    waits = λ d. inl (next_is (actor_of a) (Wait ctx) next ∙ rw (none, wait_line) refl);
  })

  pub wait_done : (a b : Told Home) (ctx : Option ℕ) (k : Kept) → next_op a ≡ Some (Wait ctx) → find (is_of_ctx ctx) a.kept ≡ Some k → a.seen.log ≡ []
      → b ≡ record a { kept = remove_first (is_of_ctx ctx) a.kept; results = a.results ++ Waited k ∷ []; schedule = a.schedule ++ Do ∷ [] } → WentOn a b true true
  unfolding do_line wait_line
  wait_done a b ctx k next found log is =
      let after = living a.seen.held a.lines (a.results ++ Waited k ∷ []) (remove_first (is_of_ctx ctx) a.kept) in
      let step : do_next (actor_of a) ≡ Some (actor_in after) = next_is (actor_of a) (Wait ctx) next ∙ rw (found, wait_line) refl in
      rw is (record {
        acts = Did ∷ [];
        lived = record {
          lives = (after, (step, (refl, refl)), refl);
          schedule = refl;
          ported = ported_did a.seen.lanes a.seen.lanes refl;
        };
        moved_is = refl;
        held = λ nay. absurd (cc nay);
        log = log;
        is_done = λ was. refl;
        lines = refl;
        counted = counted_waited a.lines a.results a.kept a.seen.held (is_of_ctx ctx) k found;
        one = refl;
        size = refl;
        waits = λ nay. absurd (cc nay);
      })

  pub read_lives : (a : Told Home) (w : Written) → unread a.seen.held.state.cq ≡ Some w
      → Lives (living_of a) Had (living_of (record a { seen = after_read w a.seen; kept = a.kept ++ record { entry = w.entry; bytes = bytes_kept (actor_of a) w } ∷ [] }))
  unfolding read_next
  read_lives a w first = (rw (first, read_next) refl, (refl, refl))

  pub reads_none : (a : Told Home) → ReadOn a a false
  reads_none a = record { acts = []; lived = lived_same a; any_is = refl; lanes = refl; log = refl; lines = refl; results = refl; reads = refl; size = refl; counted = λ c. c }

  -- what the peer knows is what the machine counts
  only_is : (a : Told Home) (ctx : ℕ) → IsCounted (living_of a) → is_only a ctx ≡ is_only_multi (actor_of a) ctx
  only_is a ctx c = ap (λ n. multis_done a.lines a.results ctx == n + 1) (c.known ctx)

  -- no more was read to be released than lines were done
  pub few_released : (a : Told Home) (ctx : ℕ) → IsCounted (living_of a) → count_by (hands_back ctx) a.kept + count_by (waited_back ctx) a.results ≤ multis_done a.lines a.results ctx
  few_released a ctx c = omega (arith, c.lines_are ctx, c.known ctx)

  -- what the endpoint lends after the read are the bytes that the machine keeps
  pub reads_one : (a b : Told Home) (entry : Taken) (e : Seen Home) (bytes : Option (List ℕ)) → IsCounted (living_of a) → IsSharing a.seen.held → Pops entry a.seen e → Lent (with_seen a e) (part_of entry) bytes
      → b ≡ record a { seen = e; kept = a.kept ++ record { entry = entry; bytes = bytes } ∷ []; schedule = a.schedule ++ Read ∷ [] } → HasRead a b
  unfolding bytes_kept
  reads_one a b entry e bytes c sharing pops lent is =
      let w = pops.written in
      let as_lent : Lent (with_seen a (after_read w a.seen)) (part_of w.entry) bytes = subst₂ (λ x t. Lent (with_seen a x) (part_of t) bytes) pops.read (sym pops.is) lent in
      let kept : bytes ≡ bytes_kept (actor_of a) w = by_part w pops.first (part_of w.entry) refl as_lent in
      let all : b ≡ record a { seen = after_read w a.seen; kept = a.kept ++ record { entry = w.entry; bytes = bytes_kept (actor_of a) w } ∷ []; schedule = a.schedule ++ Read ∷ [] } =
      is ∙ (λ i. record { seen = pops.read i; lines = a.lines; results = a.results; kept = a.kept ++ record { entry = sym pops.is i; bytes = kept i } ∷ []; schedule = a.schedule ++ Read ∷ [] }) in
      record {
        entry = w;
        first = pops.first;
        read = all;
        counted = subst (λ (x : Told Home). IsCounted (living_of x)) (sym all) (counted_read a.seen.held w sharing pops.first a.lines a.results a.kept (record { entry = w.entry; bytes = bytes_kept (actor_of a) w }) refl c);
      }
    where
      by_only : (w : Written) → unread a.seen.held.state.cq ≡ Some w → (part : ℕ × ℕ × ℕ) → part_of w.entry ≡ Some part → (o : Bool) → is_only a part.0 ≡ o → LentIf o (has_read w a.seen.held) part.0 part.1 part.2 bytes
          → bytes ≡ (elim o [ true ↦ Some (take part.2 (drop part.1 (multi_buf a.seen.held.state w.call))) | false ↦ None ])
      by_only w first part there false only none = none
      by_only w first part there true only lends =
          let one : multis_done a.lines a.results part.0 ≡ count_by (hands_back part.0) a.kept + count_by (waited_back part.0) a.results + 1 = eqb-true _ _ only in
          lent_is a.seen.held w sharing first part bytes there (omega (arith, one, c.lines_are part.0, c.known part.0)) lends

      by_part : (w : Written) → unread a.seen.held.state.cq ≡ Some w → (o : Option (ℕ × ℕ × ℕ)) → part_of w.entry ≡ o → Lent (with_seen a (after_read w a.seen)) o bytes → bytes ≡ bytes_kept (actor_of a) w
      by_part w first None there none = rw (there, bytes_kept) none
      by_part w first (Some part) there lends =
          rw (there, bytes_kept) (rw (← only_is a part.0 c) (by_only w first part there (is_only a part.0) refl lends))

  -- with each entry read, fewer are unread
  pub reads_less : (a b : Told Home) → HasRead a b → length b.seen.held.state.cq.written - b.seen.held.state.cq.taken_out < length a.seen.held.state.cq.written - a.seen.held.state.cq.taken_out
  reads_less a b r =
      let within = slice_get_within a.seen.held.state.cq.written a.seen.held.state.cq.taken_out r.entry r.first in
      rw r.read (omega (arith, within))

  pub reads_on : (a b c : Told Home) (any : Bool) → ReadOn a b any → HasRead b c → ReadOn a c true
  reads_on a b c any on r = rw r.read (record {
    acts = on.acts ++ Had ∷ [];
    lived = lived_then a b _ on.acts (Had ∷ []) on.lived (record {
      lives = (_, read_lives b r.entry r.first, refl);
      schedule = refl;
      ported = ported_had b.seen.lanes b.seen.lanes refl;
    });
    any_is = sym (some_append on.acts (Had ∷ []) ∙ or_true (is_some_act on.acts));
    lanes = on.lanes;
    log = on.log;
    lines = on.lines;
    results = on.results;
    reads = read_more on.acts on.reads;
    size = on.size;
    counted = λ counted. subst (λ (x : Told Home). IsCounted (living_of x)) r.read r.counted;
  })
    where
      read_more : (acts : List Act) → AllAre is_read acts → AllAre is_read (acts ++ Had ∷ [])
      read_more [] are = refl
      read_more (Did ∷ acts) are = absurd (cc)
      read_more (Took source f ∷ acts) are = absurd (cc)
      read_more (Posted dest f ∷ acts) are = absurd (cc)
      read_more (Drew ∷ acts) are = absurd (cc)
      read_more (Had ∷ acts) are = read_more acts are

      or_true : (b : Bool) → (b || true) ≡ true
      or_true true = refl
      or_true false = refl

pub is_at : {X : Type 0} (xs : List X) (n : ℕ) (x : X) → n < length xs → x ≡ get_or xs n x → slice_get xs n ≡ Some x
is_at [] n x within found = absurd (omega (arith, within))
is_at (y ∷ ys) zero x within found = ap Some (sym found)
is_at (y ∷ ys) (suc n) x within found = is_at ys n x (omega (arith, within)) found

-- what the next line asks for, where a look-up found it
pub next_by : {Home : Type 0} (a : Told Home) (lines : List Line) (n : ℕ) (line : Line) (op : LineOp) → lines ≡ a.lines → n ≡ length a.results → n < length lines → line ≡ get_or lines n line → line.op ≡ op → next_op a ≡ Some op
next_by a lines n line op all count within found is =
    let there : slice_get a.lines (length a.results) ≡ Some line = rw (← all, ← count) (is_at lines n line within found) in
    ap (option_map (λ (x : Line). x.op)) there ∙ ap Some is

-- all lines are done
pub finished_on : {Home : Type 0} (a : Told Home) → slice_get a.lines (length a.results) ≡ None → a.seen.log ≡ [] → WentOn a a false false
unfolding do_next
finished_on a none log = record {
  acts = [];
  lived = lived_same a;
  moved_is = refl;
  held = λ d m. rw (none, do_next) refl;
  log = log;
  is_done = λ was. absurd (cc was);
  lines = refl;
  counted = λ c. c;
  one = refl;
  size = refl;
  waits = λ d. inl (rw (none, do_next) refl);
}

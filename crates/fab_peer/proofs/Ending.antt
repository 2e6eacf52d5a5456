-- The end of a peer: what is still posted is cancelled, and the completions are read.
use Rattle.std.proofs.Common.{◌≡◌, ◌<◌, ◌+◌, ◌⊎◌, inl, inr, ◌||◌, ◌&&◌, Bool, true, false, not, cond, List, [], ◌∷◌, ◌++◌, length, Option, Some, None, refl, sym, ap, ◌∙◌, subst, arith, append-nil, append_assoc}
use Rattle.std.specs.Prelude.{find, is_some, is_none}
use Rattle.std.specs.List.{list_all}
use Rattle.std.proofs.lemmas.Bool.{and_from}
use Rattle.std.proofs.lemmas.List.Folds.{list_all-append}
use Rattle.fab_base.specs.declared.entries.Class.TheVariants.{Recv}
use Rattle.fab_base.specs.declared.entries.ErrKind.TheVariants.{Canceled}
use Rattle.fab_base.specs.declared.faults.Fault.{Fault}
use Rattle.fab_base.specs.declared.faults.Fault.TheVariants.{Again, NoEntry}
use Rattle.fab_base.specs.declared.faults.Busy.TheVariants.{CqFull}
use Rattle.fab_base.specs.declared.items.Item.{Item}
use Rattle.fab_base.specs.declared.operations.Receive.{Receive}
use Rattle.fab_base.specs.declared.peers.LineResult.{LineResult}
use Rattle.fab_base.specs.declared.peers.LineResult.TheVariants.{Done, Refused}
use Rattle.fab_base.specs.declared.peers.Step.TheVariants.{Final}
use Rattle.fab_model.specs.Matching.{remove_first}
use Rattle.fab_model.specs.Complete.{error}
use Rattle.fab_model.specs.State.{State, Receiving, fits, with_rx, write, count, called}
use Rattle.fab_model.specs.Receiving.{draw_due, draws, may_leave, cancellable, without_posted, cancel, cancel_fault, lacks_room}
use Rattle.fab_model.specs.Calls.{Call, CancelFirst, do_call, answer}
use Rattle.fab_model.specs.Peers.{Actor, Facts, facts, fabric, step, final_step, with_state, is_again, is_finished, unread, read_next}
use Rattle.fab_model.specs.Views.{View, Walk}
use Rattle.fab_model.proofs.Parts.{some_is, some_same, if_gives}
use Rattle.fab_model.proofs.Patient.{still_none}
use Rattle.fab_face.specs.Held.{Held, Seen, IsOpen}
use Rattle.fab_face.specs.Acts.{Act, Did, Took, Posted, Drew, Had, GoesBy, steps_of, events, is_draw}
use Rattle.fab_face.specs.Answers.{AllAre, Receives, ReceivesNot, IsShort}
use Rattle.fab_peer.specs.Turns.{Told, Living, IsCounted, living_of, actor_in, actor_of, LivesBy, Ended, IsQuiet, IsRead, ReadOn, is_ending, is_read}
use Rattle.fab_face.proofs.Joining.{draws_move}
use Rattle.fab_peer.proofs.Paths.{goes_split}
use Rattle.fab_peer.proofs.Calling.{judged_final, judged_again}
use Rattle.fab_face.proofs.Holding.{fits_two}
use Rattle.fab_face.proofs.Writing.{adds_more, adds_cancel}
use Rattle.fab_peer.proofs.Counting.{counted_final}
use Rattle.fab_peer.proofs.Showing.{had_walk, walk_append}

-- ---- the machine's cancel

answer_done : (fault : Option Fault) (s after u : State) → answer fault s after ≡ (Done, u) → (fault ≡ None) × (after ≡ u)
answer_done None s after u e = (refl, ap (λ (x : LineResult × State). x.1) e)
answer_done (Some fault) s after u e = absurd (let other : Refused fault ≡ Done = ap (λ (x : LineResult × State). x.0) e in cc)

faults_none : (a b : Bool) (x y : Fault) → cond a (Some x) (cond b (Some y) None) ≡ None → (a ≡ false) × (b ≡ false)
faults_none true b x y e = absurd (cc)
faults_none false true x y e = absurd (cc)
faults_none false false x y e = (refl, refl)

some_by : {X : Type 0} (o : Option X) → is_none o ≡ false → is_some o ≡ true
some_by None e = absurd (cc)
some_by (Some x) e = refl

fits_by : (a b : Bool) → (a || not b) ≡ false → b ≡ true
fits_by true b e = absurd (cc)
fits_by false true e = refl
fits_by false false e = absurd (cc)

-- a cancel that is Ok
call_gives : (s u : State) → do_call s CancelFirst ≡ (Done, u) → (is_some (cancellable (λ r. true) s.rx) ≡ true) × (fits (cancel s (λ r. true)).cq ≡ true) × (u ≡ cancel s (λ r. true))
unfolding do_call cancel_fault
call_gives s u e =
    let done = answer_done (cancel_fault s (λ r. true)) s (cancel s (λ r. true)) u e in
    let none = faults_none (is_none (cancellable (λ r. true) s.rx)) (lacks_room s (cancel s (λ r. true))) _ _ done.0 in
    (some_by (cancellable (λ r. true) s.rx) none.0, fits_by (draw_due s.rx) (fits (cancel s (λ r. true)).cq) none.1, sym done.1)

-- one that finds nothing
call_finds : (s : State) → do_call s CancelFirst ≡ (Refused NoEntry, s) → cancellable (λ r. true) s.rx ≡ None
unfolding do_call cancel_fault
call_finds s e = by_found (cancellable (λ r. true) s.rx) refl
  where
    by_room : (b : Bool) (n : Fault) (after : State) → (n ≡ NoEntry → ⊥) → answer (cond b (Some n) None) s after ≡ (Refused NoEntry, s) → ⊥
    by_room true n after other e = other (let same : Refused n ≡ Refused NoEntry = ap (λ (x : LineResult × State). x.0) e in cc)
    by_room false n after other e = let same : Done ≡ Refused NoEntry = ap (λ (x : LineResult × State). x.0) e in absurd (cc)

    by_found : (o : Option Receive) → cancellable (λ r. true) s.rx ≡ o → cancellable (λ r. true) s.rx ≡ None
    by_found None is = is
    by_found (Some r) is =
        let other : answer (cond (is_none (Some r)) (Some NoEntry) (cond (lacks_room s (cancel s (λ r. true))) (Some (Again (CqFull s.cq.size))) None)) s (cancel s (λ r. true)) ≡ (Refused NoEntry, s) = rw is at e in
        absurd (by_room (lacks_room s (cancel s (λ r. true))) (Again (CqFull s.cq.size)) (cancel s (λ r. true)) (λ same. cc) other)

-- where it has room, a cancel is refused for want of a receive alone
refused_first : (none lacks : Bool) (x y why : Fault) (s after : State) → lacks ≡ false → answer (cond none (Some x) (cond lacks (Some y) None)) s after ≡ (Refused why, s) → why ≡ x
refused_first true lacks x y why s after room e = let same : Refused x ≡ Refused why = ap (λ (x : LineResult × State). x.0) e in cc
refused_first false true x y why s after room e = absurd (cc)
refused_first false false x y why s after room e = let same : Done ≡ Refused why = ap (λ (x : LineResult × State). x.0) e in absurd (cc)

call_refuses : (s : State) (why : Fault) → draw_due s.rx ≡ false → fits (cancel s (λ r. true)).cq ≡ true → do_call s CancelFirst ≡ (Refused why, s) → why ≡ NoEntry
unfolding do_call cancel_fault
call_refuses s why due room e = refused_first (is_none (cancellable (λ r. true) s.rx)) (lacks_room s (cancel s (λ r. true))) NoEntry _ why s (cancel s (λ r. true)) (rw (due, room) refl) e

fewer_by : {X : Type 0} (left : Bool) (x : X) (xs rest : List X) → (left ≡ false → length rest < length xs) → length (let ys : List X = elim left [ true ↦ xs | false ↦ x ∷ rest ] in ys) < length (x ∷ xs)
fewer_by true x xs rest less = omega arith
fewer_by false x xs rest less = let l = less refl in omega (arith, l)

found_later : {X : Type 0} (test : X → Bool) (x : X) (xs : List X) → is_some (find test (x ∷ xs)) ≡ true → test x ≡ false → is_some (find test xs) ≡ true
found_later test x xs some e = rw e at some

fewer_left : {X : Type 0} (test : X → Bool) (xs : List X) → is_some (find test xs) ≡ true → length (remove_first test xs) < length xs
fewer_left test [] some = absurd (cc)
fewer_left test (x ∷ xs) some = fewer_by (test x) x xs (remove_first test xs) (λ e. fewer_left test xs (found_later test x xs some e))

-- what a cancel leaves
record Stays (s u : State) : Type 0 where
  pub tx : u.tx ≡ s.tx
  pub tails : u.rx.tails ≡ s.rx.tails
  pub coming : u.rx.coming ≡ s.rx.coming
  pub draws : draw_due u.rx ≡ false
  pub size : u.cq.size ≡ s.cq.size

cancel_stays : (s : State) → draw_due s.rx ≡ false → Stays s (cancel s (λ r. true))
unfolding cancel
cancel_stays s none = go (cancellable (λ r. true) s.rx)
  where
    go : (o : Option Receive) → Stays s (elim o [
      | None ↦ s
      | Some r ↦ write (Some r.call) (error (Some r.ctx) Canceled (Some r.buf)) (count Recv false (called (with_rx (without_posted (λ r. true) s.rx) s)))
    ])
    go None = record { tx = refl; tails = refl; coming = refl; draws = none; size = refl }
    go (Some r) = record { tx = refl; tails = refl; coming = refl; draws = still_none (draws s.rx.unexpected) (may_leave s.rx (λ r. true)) s.rx.posted none; size = refl }

cancel_fewer : (s : State) → is_some (cancellable (λ r. true) s.rx) ≡ true → length (cancel s (λ r. true)).rx.posted < length s.rx.posted
unfolding cancel
cancel_fewer s some = go (cancellable (λ r. true) s.rx) refl
  where
    go : (o : Option Receive) → cancellable (λ r. true) s.rx ≡ o → length (cancel s (λ r. true)).rx.posted < length s.rx.posted
    go None e = absurd (cc)
    go (Some r) e = rw (e, cancel) (fewer_left (may_leave s.rx (λ r. true)) s.rx.posted some)

-- ---- the endpoint's cancel

-- where no draw is due, none is made
no_draws : (call : Option Call) (acts : List Act) (h k : Held) → AllAre is_draw acts → GoesBy call h acts k → draw_due h.state.rx ≡ false → h ≡ k
no_draws call [] h k are goes none = goes
no_draws call (Drew ∷ acts) h k are (mid, (due, room, is), rest) none = absurd (cc)
no_draws call (Did ∷ acts) h k are goes none = absurd (cc)
no_draws call (Took source f ∷ acts) h k are goes none = absurd (cc)
no_draws call (Posted dest f ∷ acts) h k are goes none = absurd (cc)
no_draws call (Had ∷ acts) h k are goes none = absurd (cc)

module _ {Home : Type 0} (a : Told Home) (e : Seen Home) (quiet : IsQuiet a) where
  -- it is the machine's
  cancelled_by : Receives CancelFirst a.seen e → do_call a.seen.held.state CancelFirst ≡ (Done, e.held.state)
  cancelled_by r =
      let parts = goes_split (Some CancelFirst) r.before (Did ∷ r.after) a.seen.held e.held r.went.goes in
      let first : a.seen.held ≡ parts.0 = no_draws (Some CancelFirst) r.before a.seen.held parts.0 r.draws parts.1 quiet.draws in
      let mid = parts.2.0 in
      let did : do_call a.seen.held.state CancelFirst ≡ (Done, mid.state) = ap (λ (h : Held). do_call h.state CancelFirst) first ∙ parts.2.1.0 in
      let gives = call_gives a.seen.held.state mid.state did in
      let none : draw_due mid.state.rx ≡ false = ap (λ (s : State). draw_due s.rx) gives.2 ∙ (cancel_stays a.seen.held.state quiet.draws).draws in
      let last : mid ≡ e.held = no_draws (Some CancelFirst) r.after mid e.held r.then_draws parts.2.2 none in
      did ∙ ap (λ (h : Held). (Done, h.state)) last

  -- refused, where all was read: there is no such receive
  module _ (sound : IsOpen a.seen) (read : IsRead a.seen) (why : Fault) (r : ReceivesNot CancelFirst a.seen e why) where
    same_held : a.seen.held ≡ e.held
    same_held = no_draws (Some CancelFirst) r.acts a.seen.held e.held r.draws r.went.goes quiet.draws

    no_draw : draw_due e.held.state.rx ≡ false
    no_draw = ap (λ (h : Held). draw_due h.state.rx) (sym same_held) ∙ quiet.draws

    has_room : fits (cancel e.held.state (λ r. true)).cq ≡ true
    has_room = subst (λ (h : Held). fits (cancel h.state (λ r. true)).cq ≡ true) same_held
        (fits_two a.seen.held.state _ (adds_more 1 2 a.seen.held.state _ (omega arith) (adds_cancel a.seen.held.state (λ r. true))) read sound.cq)

    not_short : (IsShort a.seen ⊎ ((draw_due e.held.state.rx ≡ true) × (e.log_size ≡ length e.log + 1))) → ⊥
    not_short (inl short) = let l : length a.seen.log ≡ 0 = ap length quiet.log in omega (arith, short, l, sound.log)
    not_short (inr (due, left)) = (let none = no_draw in cc)

    says : (again : Bool) → is_again (Refused why) ≡ again → do_call e.held.state CancelFirst ≡ (Refused why, e.held.state)
    says true is = judged_again CancelFirst a.seen e _ why r.judged is not_short
    says false is = judged_final CancelFirst a.seen e _ why r.judged is r.memory

    refused_by : (e.held ≡ a.seen.held) × (cancellable (λ r. true) e.held.state.rx ≡ None)
    refused_by =
        let is = call_refuses e.held.state why no_draw has_room (says _ refl) in
        (sym same_held, call_finds e.held.state (says _ refl ∙ ap (λ (f : Fault). (Refused f, e.held.state)) is))

and_three : (a b c : Bool) → a ≡ true → b ≡ true → c ≡ true → (a && b && c) ≡ true
and_three a b c x y z = rw (x, y, z) refl

final_walk : (v : View Item) (a : Actor) (u : State) → v.calm ≡ true → do_call a.state CancelFirst ≡ (Done, u) → fabric.step v a Final ≡ Some (with_state a u)
unfolding fabric step final_step
final_walk v a u calm done =
    let gives = call_gives a.state u done in
    if_gives _ _ _ (and_three _ _ _ calm gives.0 gives.1) (ap (λ (x : LineResult × State). with_state a x.1) done)

facts_same : (done : Bool) (x y : State) → y.tx ≡ x.tx → y.rx.tails ≡ x.rx.tails → draw_due y.rx ≡ draw_due x.rx
    → (let f : Facts = record { finished = done; accepted = y.tx.accepted; tails = y.rx.tails; draw_due = draw_due y.rx } in f) ≡ (let f : Facts = record { finished = done; accepted = x.tx.accepted; tails = x.rx.tails; draw_due = draw_due x.rx } in f)
facts_same done x y tx tails due = rw (tx, tails, due) refl

module _ {Home : Type 0} where
  pub ended_same : (a b : Told Home) → actor_of b ≡ actor_of a → b.schedule ≡ a.schedule → Ended a b
  ended_same a b same schedule = record {
    steps = [];
    schedule = schedule ∙ sym (append-nil a.schedule);
    walk = λ v calm. sym same;
    facts_are = ap facts same;
    tx = ap (λ (x : Actor). x.state.tx) same;
    size = ap (λ (x : Actor). x.state.cq.size) same;
    coming = ap (λ (x : Actor). x.state.rx.coming) same;
    only = refl;
    lines = ap (λ (x : Actor). x.lines) same;
    results = ap (λ (x : Actor). x.results) same;
  }

  pub ended_then : (a b c : Told Home) → Ended a b → Ended b c → Ended a c
  ended_then a b c x y = record {
    steps = x.steps ++ y.steps;
    schedule = y.schedule ∙ ap (λ xs. xs ++ y.steps) x.schedule ∙ append_assoc a.schedule x.steps y.steps;
    walk = λ v calm. walk_append v (actor_of a) (actor_of b) (actor_of c) x.steps y.steps (x.walk v calm) (y.walk v calm);
    facts_are = y.facts_are ∙ x.facts_are;
    tx = y.tx ∙ x.tx;
    size = y.size ∙ x.size;
    coming = y.coming ∙ x.coming;
    only = list_all-append is_ending x.steps y.steps ∙ and_from _ _ x.only y.only;
    lines = y.lines ∙ x.lines;
    results = y.results ∙ x.results;
  }

  -- a receive is cancelled, and the log emptied
  pub cancelled : (a b : Told Home) (e : Seen Home) → IsQuiet a → Receives CancelFirst a.seen e → b ≡ record a { seen = record e { log = [] }; schedule = a.schedule ++ Final ∷ [] }
      → Ended a b × IsQuiet b × (length b.seen.held.state.rx.posted < length a.seen.held.state.rx.posted)
  cancelled a b e quiet r is =
      let done = cancelled_by a e quiet r in
      let gives = call_gives a.seen.held.state e.held.state done in
      let state : e.held.state ≡ cancel a.seen.held.state (λ r. true) = gives.2 in
      let stays : Stays a.seen.held.state e.held.state = subst (λ (s : State). Stays a.seen.held.state s) (sym state) (cancel_stays a.seen.held.state quiet.draws) in
      let fewer : length e.held.state.rx.posted < length a.seen.held.state.rx.posted = subst (λ (s : State). length s.rx.posted < length a.seen.held.state.rx.posted) (sym state) (cancel_fewer a.seen.held.state gives.0) in
      subst (λ (x : Told Home). Ended a x × IsQuiet x × (length x.seen.held.state.rx.posted < length a.seen.held.state.rx.posted)) (sym is) (
        record {
          steps = Final ∷ [];
          schedule = refl;
          walk = λ v calm. (_, final_walk v (actor_of a) e.held.state calm done, refl);
          facts_are = facts_same (is_finished (actor_of a)) a.seen.held.state e.held.state stays.tx stays.tails (stays.draws ∙ sym quiet.draws);
          tx = stays.tx;
          size = stays.size;
          coming = stays.coming;
          only = refl;
          lines = refl;
          results = refl;
        },
        record {
          counted = counted_final a.lines a.results a.kept r.before r.after a.seen.held e.held (draws_move r.before r.draws) (draws_move r.after r.then_draws) r.went.goes quiet.counted;
          log = refl;
          draws = stays.draws;
        },
        fewer,
      )

  -- no receive may be cancelled
  pub none_cancelled : (a b : Told Home) → IsQuiet a → IsOpen a.seen → IsRead a.seen → (why : Fault) → ReceivesNot CancelFirst a.seen b.seen why → b ≡ record a { seen = b.seen }
      → Ended a b × IsQuiet b × (cancellable (λ r. true) b.seen.held.state.rx ≡ None) × (b.seen.held ≡ a.seen.held)
  none_cancelled a b quiet sound read why r is =
      let same = refused_by a b.seen quiet sound read why r in
      let acts = no_acts a.seen.held r.acts b.seen.held r.draws r.went.goes quiet.draws in
      let lines = ap (λ (x : Told Home). x.lines) is in
      let results = ap (λ (x : Told Home). x.results) is in
      let kept = ap (λ (x : Told Home). x.kept) is in (
        ended_same a b (λ i. record { state = ap (λ (h : Held). h.state) same.0 i; lines = lines i; results = results i; kept = kept i }) (ap (λ (x : Told Home). x.schedule) is),
        record { counted = subst (λ (x : Living). IsCounted x) (λ i. record { held = sym same.0 i; lines = sym lines i; results = sym results i; kept = sym kept i }) quiet.counted; log = r.went.log ∙ ap (λ xs. a.seen.log ++ events xs) acts ∙ append-nil a.seen.log ∙ quiet.log; draws = ap (λ (h : Held). draw_due h.state.rx) same.0 ∙ quiet.draws },
        same.1,
        same.0,
      )
    where
      no_acts : (h : Held) (acts : List Act) (k : Held) → AllAre is_draw acts → GoesBy (Some CancelFirst) h acts k → draw_due h.state.rx ≡ false → acts ≡ []
      no_acts h [] k are goes none = refl
      no_acts h (Drew ∷ acts) k are (mid, (due, room, is), rest) none = absurd (cc)
      no_acts h (Did ∷ acts) k are goes none = absurd (cc)
      no_acts h (Took source f ∷ acts) k are goes none = absurd (cc)
      no_acts h (Posted dest f ∷ acts) k are goes none = absurd (cc)
      no_acts h (Had ∷ acts) k are goes none = absurd (cc)

-- ---- reads

record Reads (a b : Actor) : Type 0 where
  pub facts_are : facts b ≡ facts a
  pub tx : b.state.tx ≡ a.state.tx
  pub rx : b.state.rx ≡ a.state.rx
  pub size : b.state.cq.size ≡ a.state.cq.size

read_keeps : (a b : Actor) → read_next a ≡ Some b → Reads a b
unfolding read_next
read_keeps a b e =
    let i = some_is (unread a.state.cq) _ b e in
    subst (λ (x : Actor). Reads a x) (some_same _ b i.2) (record { facts_are = refl; tx = refl; rx = refl; size = refl })

reads_keep : (acts : List Act) (p q : Living) → AllAre is_read acts → LivesBy p acts q → Reads (actor_in p) (actor_in q)
reads_keep [] p q are is = subst (λ (x : Living). Reads (actor_in p) (actor_in x)) is (record { facts_are = refl; tx = refl; rx = refl; size = refl })
reads_keep (Had ∷ acts) p q are (mid, (had, same), rest) =
    let first = read_keeps (actor_in p) (actor_in mid) had in
    let then = reads_keep acts mid q are rest in
    record { facts_are = then.facts_are ∙ first.facts_are; tx = then.tx ∙ first.tx; rx = then.rx ∙ first.rx; size = then.size ∙ first.size }
reads_keep (Did ∷ acts) p q are lives = absurd (cc)
reads_keep (Took source f ∷ acts) p q are lives = absurd (cc)
reads_keep (Posted dest f ∷ acts) p q are lives = absurd (cc)
reads_keep (Drew ∷ acts) p q are lives = absurd (cc)

reads_walk : (v : View Item) (acts : List Act) (p q : Living) → AllAre is_read acts → LivesBy p acts q → Walk fabric v (actor_in p) (steps_of acts) (actor_in q)
reads_walk v [] p q are is = ap actor_in is
reads_walk v (Had ∷ acts) p q are (mid, (had, same), rest) = (actor_in mid, had_walk v (actor_in p) (actor_in mid) had, reads_walk v acts mid q are rest)
reads_walk v (Did ∷ acts) p q are lives = absurd (cc)
reads_walk v (Took source f ∷ acts) p q are lives = absurd (cc)
reads_walk v (Posted dest f ∷ acts) p q are lives = absurd (cc)
reads_walk v (Drew ∷ acts) p q are lives = absurd (cc)

reads_only : (acts : List Act) → AllAre is_read acts → list_all is_ending (steps_of acts) ≡ true
reads_only [] are = refl
reads_only (Had ∷ acts) are = reads_only acts are
reads_only (Did ∷ acts) are = absurd (cc)
reads_only (Took source f ∷ acts) are = absurd (cc)
reads_only (Posted dest f ∷ acts) are = absurd (cc)
reads_only (Drew ∷ acts) are = absurd (cc)

module _ {Home : Type 0} (a b : Told Home) (any : Bool) (on : ReadOn a b any) where
  kept : Reads (actor_of a) (actor_of b)
  kept = reads_keep on.acts (living_of a) (living_of b) on.reads on.lived.lives

  pub read_ended : Ended a b
  read_ended = record {
    only = reads_only on.acts on.reads;
    lines = on.lines;
    results = on.results;
    steps = steps_of on.acts;
    schedule = on.lived.schedule;
    walk = λ v calm. reads_walk v on.acts (living_of a) (living_of b) on.reads on.lived.lives;
    facts_are = kept.facts_are;
    tx = kept.tx;
    size = kept.size;
    coming = ap (λ (rx : Receiving). rx.coming) kept.rx;
  }

  pub read_quiet : IsQuiet a → IsQuiet b
  read_quiet quiet = record { counted = on.counted quiet.counted; log = on.log ∙ quiet.log; draws = ap draw_due kept.rx ∙ quiet.draws }

  pub read_posted : length b.seen.held.state.rx.posted ≡ length a.seen.held.state.rx.posted
  read_posted = ap (λ (rx : Receiving). length rx.posted) kept.rx

-- What a step's test says of the step.
use Rattle.std.proofs.Common.{◌≡◌, ℕ, ◌+◌, ◌<◌, ◌≤◌, ◌≢◌, ◌==◌, Bool, true, false, not, ◌&&◌, List, [], ◌∷◌, ◌++◌, length, Option, Some, None, Result, IfOk, refl, sym, ap, ap₂, subst, ◌∙◌, arith}
use Rattle.std.specs.Prelude.{nat_lt, nat_le, slice_get, slice_index, is_some}
use Rattle.fab_base.specs.declared.items.Item.{Item}
use Rattle.fab_base.specs.declared.items.ItemHead.{ItemHead}
use Rattle.fab_base.specs.declared.operations.Receive.{Receive}
use Rattle.fab_model.specs.Views.{View}
use Rattle.std.proofs.lemmas.Bool.{lt-ltb, ne_eqb, eq-eqb, and_right as and_false}
use Rattle.std.proofs.lemmas.Bool.Decides.{nat_tests}
use Rattle.fab_base.specs.declared.entries.Class.{Class}
use Rattle.fab_base.specs.declared.peers.LineResult.{LineResult}
use Rattle.fab_base.specs.declared.script.Bound.{Bound}
use Rattle.fab_base.specs.declared.script.Line.{Line}
use Rattle.fab_base.specs.declared.script.LineOp.TheVariants.{Wait, Reach}
use Rattle.fab_model.specs.Arrivals.{do_head, do_tail, do_draw}
use Rattle.fab_model.specs.Calls.{Call, CancelFirst, call_of, do_call}
use Rattle.fab_model.specs.Receiving.{draw_due, cancel, cancellable}
use Rattle.fab_model.specs.Replay.{bind_line, bind_op}
use Rattle.fab_model.specs.State.{State, accepted_for, fits, tally_of}
use Rattle.fab_model.specs.Sending.{do_sent}
use Rattle.fab_model.specs.Peers.{Actor, only_if, with_state, next_line, do_next, do_line, wait_line, call_line, head_step, tail_step, sent_step, draw_step, final_step}
use Rattle.fab_checker_machine.specs.Room.{has_room, entries_sent, entries_tail, entries_drawn}
use Rattle.fab_checker_machine.proofs.Growing.{fits_sent, fits_cancel}
use Rattle.fab_replay.specs.Seen.{Took}
use Rattle.fab_replay.proofs.Again.{line_calls}
use Rattle.fab_replay.proofs.Filling.{fits_drawn, fits_tail}

both_needed : (b c : Bool) (a : Actor) → c ≡ false → only_if (b && c) a ≡ None
both_needed true c a e = rw (e, only_if) refl
both_needed false c a e = refl

-- ---- a wait for a counter

pub reach_not : (a : Actor) (class : Class) (n : ℕ) → (tally_of a.state.counters class).ok < n → do_line a (Reach class n) ≡ None
unfolding do_line
reach_not a class n below = let no : nat_le n (tally_of a.state.counters class).ok ≡ false = grind (arith, nat_tests) in rw (no, do_line) refl

pub reach_done : (a : Actor) (class : Class) (n : ℕ) (results : List LineResult) → n ≤ (tally_of a.state.counters class).ok → results ≡ a.results ++ LineResult.Done ∷ [] → do_line a (Reach class n) ≡ Some (record a { results = results })
unfolding do_line
reach_done a class n results enough is =
    let yes : nat_le n (tally_of a.state.counters class).ok ≡ true = grind (arith, nat_tests) in
    rw (yes, do_line) (ap (λ (r : List LineResult). Some (record a { results = r })) (sym is))

-- ---- transmission

abbrev to_send : Actor → ℕ → Bool
to_send a t = nat_lt (slice_index a.state.tx.sent t) (length (accepted_for a.state.tx t))

pub sent_none : (a : Actor) (t sent accepted : ℕ) → sent ≡ slice_index a.state.tx.sent t → accepted ≡ length (accepted_for a.state.tx t) → accepted ≤ sent → sent_step a t ≡ None
unfolding sent_step
sent_none a t sent accepted is all past = let no : to_send a t ≡ false = grind (arith, nat_tests) in rw (no, only_if) refl

pub sent_full : (a : Actor) (t n : ℕ) → n ≡ entries_sent t a.state → has_room n a.state.cq ≡ false → sent_step a t ≡ None
unfolding sent_step
sent_full a t n is full =
    both_needed (to_send a t) (fits (do_sent a.state t).cq) (with_state a (do_sent a.state t)) (fits_sent a.state t ∙ ap (λ k. has_room k a.state.cq) (sym is) ∙ full)

pub sent_some : (a : Actor) (t n sent accepted : ℕ) (after : State) → sent ≡ slice_index a.state.tx.sent t → accepted ≡ length (accepted_for a.state.tx t) → sent < accepted → n ≡ entries_sent t a.state → has_room n a.state.cq ≡ true → after ≡ do_sent a.state t
    → sent_step a t ≡ Some (with_state a after)
unfolding sent_step
sent_some a t n sent accepted after is all below entries room next =
    let one : to_send a t ≡ true = grind (arith, nat_tests) in
    let two : fits (do_sent a.state t).cq ≡ true = fits_sent a.state t ∙ ap (λ k. has_room k a.state.cq) (sym entries) ∙ room in
    rw (one, two, only_if) (ap (λ s. Some (with_state a s)) (sym next))

-- ---- draws

pub draw_none : (a : Actor) → draw_due a.state.rx ≡ false → draw_step a ≡ None
unfolding draw_step
draw_none a calm = rw (calm, only_if) refl

pub draw_full : (a : Actor) (n : ℕ) → n ≡ entries_drawn a.state → has_room n a.state.cq ≡ false → draw_step a ≡ None
unfolding draw_step
draw_full a n is full = both_needed (draw_due a.state.rx) (fits (do_draw a.state).cq) (with_state a (do_draw a.state)) (fits_drawn a.state ∙ ap (λ k. has_room k a.state.cq) (sym is) ∙ full)

pub draw_some : (a : Actor) (n : ℕ) (after : State) → draw_due a.state.rx ≡ true → n ≡ entries_drawn a.state → has_room n a.state.cq ≡ true → after ≡ do_draw a.state → draw_step a ≡ Some (with_state a after)
unfolding draw_step
draw_some a n after due is room next =
    let fit : fits (do_draw a.state).cq ≡ true = fits_drawn a.state ∙ ap (λ k. has_room k a.state.cq) (sym is) ∙ room in
    rw (due, fit, only_if) (ap (λ s. Some (with_state a s)) (sym next))

-- ---- the next line

pub next_wait : (a : Actor) (bound : Bound) (line : Line) (ctx : Option ℕ) → next_line a ≡ Some (bind_line bound line) → line.op ≡ Wait ctx → wait_line a ctx ≡ do_next a
unfolding do_next do_line
next_wait a bound line ctx next is = sym (rw (next, do_next) (ap (λ op. do_line a (bind_op bound op)) is))

pub next_none : (a : Actor) (bound : Bound) (line : Line) → next_line a ≡ Some (bind_line bound line) → ((ctx : Option ℕ) → line.op ≡ Wait ctx → ⊥) → ((class : Class) (n : ℕ) → line.op ≡ Reach class n → ⊥)
    → call_of (bind_op bound line.op) ≡ None → do_next a ≡ None
unfolding do_next
next_none a bound line next no_wait no_reach none = rw (next, do_next) (line_calls a bound line.op no_wait no_reach ∙ rw none refl)

pub next_call : (a : Actor) (bound : Bound) (line : Line) (c : Call) → next_line a ≡ Some (bind_line bound line) → ((ctx : Option ℕ) → line.op ≡ Wait ctx → ⊥) → ((class : Class) (n : ℕ) → line.op ≡ Reach class n → ⊥)
    → call_of (bind_op bound line.op) ≡ Some c → call_line a c ≡ do_next a
unfolding do_next
next_call a bound line c next no_wait no_reach some = sym (rw (next, do_next) (line_calls a bound line.op no_wait no_reach ∙ rw some refl))

-- ---- what was tried is told of an equal step

pub carried : {E : Type 0} (r : Result Bool E) (a b : Actor) (x y : Option Actor) → x ≡ y → IfOk r (λ took. Took took a b x) → IfOk r (λ took. Took took a b y)
carried r a b x y e h = subst (λ next. IfOk r (λ took. Took took a b next)) e h

-- ---- arrival

abbrev arrives : Actor → ℕ → Bool
arrives a source = (slice_index a.state.rx.heads source == slice_index a.state.rx.tails source) && not (draw_due a.state.rx)

head_not_by : (v : View Item) (a : Actor) (source : ℕ) (o : Option Item) → slice_get (v.ready source) (slice_index a.state.rx.heads source) ≡ o → arrives a source ≡ false → head_step v a source ≡ None
unfolding head_step
head_not_by v a source None e waits = rw (e, head_step) refl
head_not_by v a source (Some item) e waits = rw (e, head_step, waits, only_if) refl

head_not : (v : View Item) (a : Actor) (source : ℕ) → arrives a source ≡ false → head_step v a source ≡ None
head_not v a source waits = head_not_by v a source (slice_get (v.ready source) (slice_index a.state.rx.heads source)) refl waits

pub head_differs : (v : View Item) (a : Actor) (source n m : ℕ) → n ≡ slice_index a.state.rx.heads source → m ≡ slice_index a.state.rx.tails source → n ≢ m → head_step v a source ≡ None
head_differs v a source n m heads tails differ =
    let no : (slice_index a.state.rx.heads source == slice_index a.state.rx.tails source) ≡ false = ne_eqb _ _ (λ same. differ (heads ∙ same ∙ sym tails)) in
    head_not v a source (ap (λ b. b && not (draw_due a.state.rx)) no)

pub head_waits : (v : View Item) (a : Actor) (source : ℕ) → draw_due a.state.rx ≡ true → head_step v a source ≡ None
head_waits v a source due = head_not v a source (and_false _ _ (ap not due))

pub head_missing : (v : View Item) (a : Actor) (source : ℕ) → slice_get (v.ready source) (slice_index a.state.rx.heads source) ≡ None → head_step v a source ≡ None
unfolding head_step
head_missing v a source none = rw (none, head_step) refl

pub head_arrives : (v : View Item) (a : Actor) (source n m : ℕ) (item : Item) → n ≡ slice_index a.state.rx.heads source → m ≡ slice_index a.state.rx.tails source → n ≡ m → draw_due a.state.rx ≡ false
    → slice_get (v.ready source) (slice_index a.state.rx.heads source) ≡ Some item → head_step v a source ≡ Some (with_state a (do_head a.state source item.head))
unfolding head_step
head_arrives v a source n m item heads tails same calm there =
    let one : (slice_index a.state.rx.heads source == slice_index a.state.rx.tails source) ≡ true = eq-eqb _ _ (sym heads ∙ same ∙ tails) in
    rw (there, head_step, one, calm, only_if) refl

-- ---- an item that is whole

pub tail_missing : (v : View Item) (a : Actor) (source : ℕ) → slice_get (v.ready source) (slice_index a.state.rx.tails source) ≡ None → tail_step v a source ≡ None
unfolding tail_step
tail_missing v a source none = rw (none, tail_step) refl

abbrev pub may_complete : Actor → ℕ → ItemHead → ℕ → List ℕ → Bool
may_complete a source head sent bytes =
    (slice_index a.state.rx.heads source == slice_index a.state.rx.tails source + 1) && nat_lt (slice_index a.state.rx.tails source) sent && fits (do_tail a.state source head bytes).cq

tail_is : (v : View Item) (a : Actor) (source : ℕ) (item : Item) → slice_get (v.ready source) (slice_index a.state.rx.tails source) ≡ Some item
    → tail_step v a source ≡ only_if (may_complete a source item.head (v.sent source) item.bytes) (with_state a (do_tail a.state source item.head item.bytes))
unfolding tail_step
tail_is v a source item there = rw (there, tail_step) refl

pub tail_by : (v : View Item) (a : Actor) (source sent : ℕ) (item : Item) (b : Bool) → slice_get (v.ready source) (slice_index a.state.rx.tails source) ≡ Some item → v.sent source ≡ sent → may_complete a source item.head sent item.bytes ≡ b
    → tail_step v a source ≡ only_if b (with_state a (do_tail a.state source item.head item.bytes))
tail_by v a source sent item b there is may =
    tail_is v a source item there ∙ ap (λ c. only_if c (with_state a (do_tail a.state source item.head item.bytes))) (ap (λ n. may_complete a source item.head n item.bytes) is ∙ may)

pub may_is : (s : State) (source h t sent n : ℕ) (head : ItemHead) (bytes : List ℕ) (room : Bool) → h ≡ slice_index s.rx.heads source → t ≡ slice_index s.rx.tails source → h ≡ t + 1 → t < sent → n ≡ entries_tail source head s → room ≡ has_room n s.cq
    → room ≡ ((slice_index s.rx.heads source == slice_index s.rx.tails source + 1) && nat_lt (slice_index s.rx.tails source) sent && fits (do_tail s source head bytes).cq)
may_is s source h t sent n head bytes room heads tails one below entries is =
    let yes : (slice_index s.rx.heads source == slice_index s.rx.tails source + 1) ≡ true = eq-eqb _ _ (sym heads ∙ one ∙ ap (λ k. k + 1) tails) in
    let less : nat_lt (slice_index s.rx.tails source) sent ≡ true = lt-ltb _ _ (omega (arith, tails)) in
    let fit : fits (do_tail s source head bytes).cq ≡ room = fits_tail s source head bytes ∙ ap (λ k. has_room k s.cq) (sym entries) ∙ sym is in
    rw (yes, less) (sym fit)

-- ---- the final cancels

nothing : (x y : Bool) → (x && false && y) ≡ false
nothing true y = refl
nothing false y = refl

final_by : (v : View Item) (a : Actor) (o : Option Receive) (room calm : Bool) → cancellable (λ r. true) a.state.rx ≡ o → room ≡ has_room 1 a.state.cq → calm ≡ v.calm
    → final_step v a ≡ only_if (is_some o && room && calm) (with_state a (do_call a.state CancelFirst).1)
unfolding final_step
final_by v a None room calm e f g = ap (λ b. only_if (v.calm && is_some b && fits (cancel a.state (λ r. true)).cq) (with_state a (do_call a.state CancelFirst).1)) e ∙ ap (λ b. only_if b (with_state a (do_call a.state CancelFirst).1)) (nothing v.calm (fits (cancel a.state (λ r. true)).cq))
final_by v a (Some r) room calm e f g =
    let fit : fits (cancel a.state (λ r. true)).cq ≡ room = fits_cancel a.state (λ r. true) r e ∙ sym f in
    ap (λ b. only_if (v.calm && is_some b && fits (cancel a.state (λ r. true)).cq) (with_state a (do_call a.state CancelFirst).1)) e
    ∙ ap₂ (λ (x y : Bool). only_if (x && true && y) (with_state a (do_call a.state CancelFirst).1)) (sym g) fit
    ∙ ap (λ b. only_if b (with_state a (do_call a.state CancelFirst).1)) (turned calm room)
  where
    turned : (x y : Bool) → (x && true && y) ≡ (true && y && x)
    turned true true = refl
    turned true false = refl
    turned false true = refl
    turned false false = refl

pub final_is : (v : View Item) (a : Actor) (can room calm : Bool) → can ≡ is_some (cancellable (λ r. true) a.state.rx) → room ≡ has_room 1 a.state.cq → calm ≡ v.calm
    → final_step v a ≡ only_if (can && room && calm) (with_state a (do_call a.state CancelFirst).1)
final_is v a can room calm e f g =
    final_by v a (cancellable (λ r. true) a.state.rx) room calm refl f g ∙ ap (λ b. only_if (b && room && calm) (with_state a (do_call a.state CancelFirst).1)) (sym e)

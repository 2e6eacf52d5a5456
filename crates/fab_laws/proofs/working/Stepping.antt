-- Each step of a peer lowers its work.
--     Falls v a b     the peer's work is less, and no item arrived
--     Head            one more item of the source has arrived
use Rattle.std.proofs.Common.{◌≡◌, ◌≤◌, ◌<◌, ◌+◌, ℕ, zero, suc, Bool, true, false, List, [], ◌∷◌, ◌++◌, length, length-append, get_or, slice_get, Option, Some, None, refl, sym, ap, subst, arith}
use Rattle.std.specs.Prelude.{find, is_some, is_none, slice_index, cond}
use Rattle.std.proofs.lemmas.Bool.{and_parts}
use Rattle.std.proofs.lemmas.Option.{slice_get_within}
use Rattle.fab_base.specs.declared.items.Item.{Item}
use Rattle.fab_base.specs.declared.faults.Fault.{Fault}
use Rattle.fab_base.specs.declared.operations.Receive.{Receive}
use Rattle.fab_base.specs.declared.peers.LineResult.{LineResult}
use Rattle.fab_base.specs.declared.peers.Step.{Step}
use Rattle.fab_base.specs.declared.peers.Step.TheVariants.{Do, Head, Tail, Draw, Final}
use Rattle.fab_base.specs.declared.script.Line.{Line}
use Rattle.fab_base.specs.declared.script.LineOp.{LineOp}
use Rattle.fab_base.specs.declared.script.LineOp.TheVariants.{Wait, Reach}
use Rattle.fab_model.specs.State.{State, fits}
use Rattle.fab_model.specs.Receiving.{cancel, cancel_fault, cancellable, draw_due}
use Rattle.fab_model.specs.Arrivals.{do_draw, do_tail}
use Rattle.fab_model.specs.Sending.{do_sent}
use Rattle.fab_model.specs.Calls.{Call, CancelFirst, answer, call_of, do_call}
use Rattle.fab_model.specs.Peers.{Actor, after_call, call_line, do_line, do_next, draw_step, fabric, final_step, head_step, is_again, is_of_ctx, next_line, read_next, reading, sent_step, step, tail_step, unread, wait_line, with_result, with_state}
use Rattle.fab_model.specs.Views.{View}
use Rattle.fab_model.proofs.Parts.{if_is, some_is, some_same}
use Rattle.fab_model.proofs.Patient.{accepted_within as within}
use Rattle.fab_laws.specs.Scripts.{deed_of, next_call, peer_of}
use Rattle.fab_laws.specs.Work.{Sized, actor_work, item_work, lines_work}
use Rattle.fab_laws.proofs.Scripts.{Alike, of_step}
use Rattle.fab_laws.proofs.Stepping.{StepIs, line_keeps, step_is}
use Rattle.fab_laws.proofs.working.Costs.{Adds, Arrives, Falls, adds_less, adds_none, call_adds, cancel_falls, draw_falls, head_arrives, sent_falls, tail_falls}

-- ---- lines

abbrev Noted : Actor → Actor → Type 0
Noted a b = (length b.results ≡ length a.results + 1) × (b.lines ≡ a.lines)

to : (a m b : Actor) → m ≡ b → Noted a m → Noted a b
to a m b is noted = subst (λ (x : Actor). Noted a x) is noted

one_more : (a : Actor) (result : LineResult) → length (a.results ++ result ∷ []) ≡ length a.results + 1
one_more a result = omega (arith, length-append a.results (result ∷ []))

call_noted : (a b : Actor) (done : LineResult × State) → after_call a done ≡ Some b → Noted a b
call_noted a b done e = go (is_again done.0) e
  where
    go : (again : Bool) → elim again [ true ↦ None | false ↦ Some (with_result done.0 (with_state a done.1)) ] ≡ Some b → Noted a b
    go true e = absurd (cc)
    go false e = to a _ b (some_same _ b e) (one_more a done.0, refl)

op_noted : (a b : Actor) (c : Option Call) → elim c [ None ↦ None | Some call ↦ call_line a call ] ≡ Some b → Noted a b
unfolding call_line
op_noted a b None e = absurd (cc)
op_noted a b (Some c) e = call_noted a b (do_call a.state c) e

line_noted : (a b : Actor) (op : LineOp) → do_line a op ≡ Some b → Noted a b
unfolding do_line wait_line
line_noted a b (Wait ctx) e = let i = some_is (find (is_of_ctx ctx) a.kept) _ b e in to a _ b (some_same _ b i.2) (one_more a _, refl)
line_noted a b (Reach class n) e = let i = if_is _ _ b e in to a _ b i.1 (one_more a _, refl)
line_noted a b op e = op_noted a b (call_of op) e

-- there was a line, and its result is noted
do_noted : (a b : Actor) → do_next a ≡ Some b → Noted a b × (length a.results < length a.lines)
unfolding do_next
do_noted a b e = let i = some_is (next_line a) (λ (line : Line). do_line a line.op) b e in (line_noted a b i.0.op i.2, slice_get_within a.lines (length a.results) i.0 i.1)

-- ---- other steps

-- the lines, the results and what a step but Do makes of the state
abbrev Only : Actor → Actor → Type 0
Only a b = (b.lines ≡ a.lines) × (b.results ≡ a.results)

only : (a m b : Actor) → m ≡ b → Only a m → Only a b
only a m b is same = subst (λ (x : Actor). Only a x) is same

head_only : (v : View Item) (a b : Actor) (source : ℕ) → head_step v a source ≡ Some b → Only a b
unfolding head_step
head_only v a b source e = let i = some_is (slice_get (v.ready source) _) _ b e in only a _ b (if_is _ _ b i.2).1 (refl, refl)

tail_only : (v : View Item) (a b : Actor) (source : ℕ) → tail_step v a source ≡ Some b → Only a b
unfolding tail_step
tail_only v a b source e = let i = some_is (slice_get (v.ready source) _) _ b e in only a _ b (if_is _ _ b i.2).1 (refl, refl)

sent_only : (a b : Actor) (t : ℕ) → sent_step a t ≡ Some b → Only a b
unfolding sent_step
sent_only a b t e = only a _ b (if_is _ _ b e).1 (refl, refl)

draw_only : (a b : Actor) → draw_step a ≡ Some b → Only a b
unfolding draw_step
draw_only a b e = only a _ b (if_is _ _ b e).1 (refl, refl)

read_only : (a b : Actor) → read_next a ≡ Some b → Only a b × (a.state.cq.taken_out < length a.state.cq.written)
unfolding read_next
read_only a b e = let i = some_is (unread a.state.cq) _ b e in (only a _ b (some_same _ b i.2) (refl, refl), slice_get_within a.state.cq.written a.state.cq.taken_out i.0 i.1)

final_only : (v : View Item) (a b : Actor) → final_step v a ≡ Some b → Only a b
unfolding final_step
final_only v a b e = only a _ b (if_is _ _ b e).1 (refl, refl)

-- ---- the work of a peer

pub record Lowers (a b : Actor) : Type 0 where
  pub heads : b.state.rx.heads ≡ a.state.rx.heads
  pub tails : length b.state.rx.tails ≡ length a.state.rx.tails
  pub sent : length b.state.tx.sent ≡ length a.state.tx.sent
  pub count : length b.state.tx.accepted ≡ length a.state.tx.accepted
  pub less : (n : ℕ) (at : ℕ → ℕ) → actor_work n at b + 1 ≤ actor_work n at a

lines_same : (a b : Actor) → Only a b → lines_work b ≡ lines_work a
lines_same a b same = rw (same.0, same.1) refl

falls_lowers : (a b : Actor) (u : State) → b.state ≡ u → Only a b → Falls a.state u → Lowers a b
falls_lowers a b u is same f =
    let g : Falls a.state b.state = subst (λ (s : State). Falls a.state s) (sym is) f in
    record { heads = g.heads; tails = g.tails; sent = g.sent; count = g.count; less = λ n at. (let k = g.less n at in let l = lines_same a b same in omega (arith, k, l)) }

adds_lowers : (a b : Actor) → Noted a b × (length a.results < length a.lines) → Adds 20 a.state b.state → Lowers a b
adds_lowers a b (noted, lt) adds = record {
  heads = adds.heads;
  tails = ap length adds.tails;
  sent = ap length adds.sent;
  count = adds.count;
  less = λ n at. (let k = adds.most n at in let l = ap length noted.1 in let m = noted.0 in omega (arith, k, l, m, lt));
}

read_falls : (s : State) → s.cq.taken_out < length s.cq.written → Falls s (reading s)
read_falls s lt = record { heads = refl; tails = refl; sent = refl; count = refl; less = λ n at. omega (arith, lt) }

-- ---- the final cancel

first_none : (s u : State) (f : Option Fault) → f ≡ None → Falls s u → Falls s (answer f s u).1
first_none s u None e falls = falls
first_none s u (Some fault) e falls = absurd (cc (e))

no_fault : (s : State) → is_some (cancellable (λ r. true) s.rx) ≡ true → draw_due s.rx ≡ false → fits (cancel s (λ r. true)).cq ≡ true → cancel_fault s (λ r. true) ≡ None
unfolding cancel_fault
no_fault s some none fit = rw (none, fit) (go (cancellable (λ r. true) s.rx) some)
  where
    go : (o : Option Receive) → is_some o ≡ true → cond (is_none o) (Some Fault.NoEntry) None ≡ None
    go None e = absurd (cc)
    go (Some r) e = refl

final_falls : (s : State) → is_some (cancellable (λ r. true) s.rx) ≡ true → draw_due s.rx ≡ false → fits (cancel s (λ r. true)).cq ≡ true → Falls s (do_call s CancelFirst).1
unfolding do_call
final_falls s some none fit = first_none s (cancel s (λ r. true)) (cancel_fault s (λ r. true)) (no_fault s some none fit) (go (cancellable (λ r. true) s.rx) refl some)
  where
    go : (o : Option Receive) → cancellable (λ r. true) s.rx ≡ o → is_some o ≡ true → Falls s (cancel s (λ r. true))
    go None f e = absurd (cc)
    go (Some r) f e = cancel_falls s (λ r. true) r f

final_is : (v : View Item) (a b : Actor) → final_step v a ≡ Some b → (is_some (cancellable (λ r. true) a.state.rx) ≡ true) × (fits (cancel a.state (λ r. true)).cq ≡ true) × (b.state ≡ (do_call a.state CancelFirst).1)
unfolding final_step
final_is v a b e = let i = if_is _ _ b e in let both = and_parts _ _ i.0 in ((and_parts _ _ both.0).1, both.1, ap (λ (x : Actor). x.state) (sym i.1))

-- ---- each step

-- what holds where the step is taken: the lists by peer are long enough, and no draw is due where a receive is cancelled at the end
abbrev pub Enough : ℕ → Step → Actor → Type 0
Enough n Final a = draw_due a.state.rx ≡ false
Enough n Do a = Sized n a.state
Enough n (Head source) a = Sized n a.state
Enough n (Tail source) a = Sized n a.state
Enough n (Step.Sent t) a = Sized n a.state
Enough n Draw a = Sized n a.state
Enough n Step.Read a = Sized n a.state

-- an item of the source arrived and brought work, or the work is less
abbrev pub Works : View Item → Actor → Step → Actor → Type 0
Works v a Do b = Lowers a b
Works v a (Head source) b = (item : Item) × (slice_get (v.ready source) (slice_index a.state.rx.heads source) ≡ Some item) × (source < length a.state.rx.heads → Arrives source (item_work item) a.state b.state) × (lines_work b ≡ lines_work a)
Works v a (Tail source) b = Lowers a b
Works v a (Step.Sent t) b = Lowers a b
Works v a Draw b = Lowers a b
Works v a Step.Read b = Lowers a b
Works v a Final b = Lowers a b

number_within : (xs : List ℕ) (t k : ℕ) → get_or xs t 0 ≡ k + 1 → t < length xs
number_within [] t k e = absurd (omega (arith, e))
number_within (x ∷ xs) zero k e = omega arith
number_within (x ∷ xs) (suc t) k e = let ih = number_within xs t k e in omega arith

module _ (n : ℕ) (v : View Item) (a b : Actor) where
  works : (x : Step) → StepIs v (peer_of a) (deed_of a x) (peer_of b) → fabric.step v a x ≡ Some b → Enough n x a → Works v a x b
  unfolding fabric step
  works Do is e sized = adds_lowers a b (do_noted a b e) (line_keeps (Adds 20 a.state) (next_call a) a.state b.state (adds_less 0 20 a.state a.state (omega arith) (adds_none a.state)) (call_adds a.state) is)
  works (Head source) (item, has, level, none, is) e sized = (item, has, λ lt. subst (λ (u : State). Arrives source (item_work item) a.state u) (sym is) (head_arrives a.state source item.head level lt), lines_same a b (head_only v a b source e))
  works (Tail source) (item, has, odd, sent, is) e sized =
      let lt = number_within a.state.rx.heads source (slice_index a.state.rx.tails source) odd in
      falls_lowers a b (do_tail a.state source item.head item.bytes) is (tail_only v a b source e) (tail_falls a.state source item.head item.bytes odd (omega (arith, lt, sized.heads, sized.tails)))
  works (Step.Sent t) (less, is) e sized =
      let lt = within a.state.tx.accepted t (slice_index a.state.tx.sent t) less in
      falls_lowers a b (do_sent a.state t) is (sent_only a b t e) (sent_falls a.state t less (omega (arith, lt, sized.accepted, sized.sent)))
  works Draw (due, is) e sized = falls_lowers a b (do_draw a.state) is (draw_only a b e) (draw_falls a.state due)
  works Step.Read is e sized = let r = read_only a b e in falls_lowers a b (reading a.state) is r.0 (read_falls a.state r.1)
  works Final is e none = let f = final_is v a b e in falls_lowers a b (do_call a.state CancelFirst).1 f.2 (final_only v a b e) (final_falls a.state f.0 none f.1)

  pub step_works : (x : Step) → fabric.step v a x ≡ Some b → Enough n x a → Works v a x b
  step_works x e =
      let same : Alike v v = record { ready = λ source. refl; sent = λ source. refl } in
      works x (step_is v (peer_of a) (peer_of b) (deed_of a x) (of_step v v same a b x e)) e

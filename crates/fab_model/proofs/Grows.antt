-- What a step asks for and leaves, and that what a peer shows to others only grows by its steps.
--     StepIs v a x b      the step x leads from a to b
use Rattle.std.proofs.Common.{◌≡◌, ◌≤◌, ◌<◌, ◌+◌, ℕ, Bool, true, false, List, length, Option, Some, None, inl, inr, refl, sym, ap, subst, arith, slice_get}
use Rattle.std.specs.Prelude.{slice_index, find}
use Rattle.std.proofs.lemmas.Bool.{and_parts, ltb-true, eqb-true}
use Rattle.std.proofs.lemmas.Option.{same_Some as some_same}
use Rattle.fab_base.specs.declared.items.Item.{Item}
use Rattle.fab_base.specs.declared.peers.Step.{Step}
use Rattle.fab_base.specs.declared.peers.Step.TheVariants.{Do, Head, Tail, Draw, Final}
use Rattle.fab_base.specs.declared.peers.LineResult.{LineResult}
use Rattle.fab_base.specs.declared.script.Line.{Line}
use Rattle.fab_base.specs.declared.script.LineOp.{LineOp}
use Rattle.fab_base.specs.declared.script.LineOp.TheVariants.{Wait, Reach}
use Rattle.fab_model.specs.State.{State, accepted_for, raise, with_rx, with_tx}
use Rattle.fab_model.specs.Sending.{transmitting}
use Rattle.fab_model.specs.Receiving.{draw_due}
use Rattle.fab_model.specs.Arrivals.{made_whole}
use Rattle.fab_model.specs.Calls.{Call, CancelFirst, do_call, call_of}
use Rattle.fab_model.specs.Peers.{Actor, with_state, with_result, facts, next_line, is_again, is_of_ctx, after_call, call_line, wait_line, do_line, do_next, unread, read_next, head_step, tail_step, sent_step, draw_step, final_step, step, fabric}
use Rattle.fab_model.specs.Views.{View, IsPrefixOf}
use Rattle.fab_model.proofs.Parts.{get_or-set, some_is, if_is}
use Rattle.fab_model.proofs.Passes.{Passes, same, call_passes, head_passes, draw_passes, tail_passes, sent_passes}

-- ---- lines

-- the state after a step is known once the peer after it is
passes_to : (s : State) (a b : Actor) → a ≡ b → Passes s a.state → Passes s b.state
passes_to s a b is passes = subst (λ (x : Actor). Passes s x.state) is passes

call_passes_to : (a b : Actor) (done : LineResult × State) → Passes a.state done.1 → after_call a done ≡ Some b → Passes a.state b.state
call_passes_to a b done passes e = go (is_again done.0) e
  where
    go : (again : Bool) → elim again [ true ↦ None | false ↦ Some (with_result done.0 (with_state a done.1)) ] ≡ Some b → Passes a.state b.state
    go true e = absurd (cc)
    go false e = passes_to a.state _ b (some_same _ b e) passes

op_passes : (a b : Actor) (c : Option Call) → elim c [ None ↦ None | Some call ↦ call_line a call ] ≡ Some b → Passes a.state b.state
unfolding call_line
op_passes a b None e = absurd (cc)
op_passes a b (Some c) e = call_passes_to a b (do_call a.state c) (call_passes a.state c) e

line_passes : (a b : Actor) (op : LineOp) → do_line a op ≡ Some b → Passes a.state b.state
unfolding do_line wait_line
line_passes a b (Wait ctx) e = let i = some_is (find (is_of_ctx ctx) a.kept) _ b e in passes_to a.state _ b (some_same _ b i.2) (same refl refl refl)
line_passes a b (Reach class n) e = let i = if_is _ _ b e in passes_to a.state _ b i.1 (same refl refl refl)
line_passes a b op e = op_passes a b (call_of op) e

do_is : (a b : Actor) → do_next a ≡ Some b → (line : Line) × (next_line a ≡ Some line) × Passes a.state b.state
unfolding do_next
do_is a b e = let i = some_is (next_line a) _ b e in (i.0, i.1, line_passes a b i.0.op i.2)

-- ---- every step

-- what the final cancels ask of a peer stays as it was
read_is : (a b : Actor) → read_next a ≡ Some b → (facts b ≡ facts a) × Passes a.state b.state
unfolding read_next
read_is a b e =
    let i = some_is (unread a.state.cq) _ b e in
    let is = some_same _ b i.2 in
    (subst (λ (x : Actor). facts x ≡ facts a) is refl, passes_to a.state _ b is (same refl refl refl))

abbrev pub heads_of : Actor → ℕ → ℕ
heads_of a source = slice_index a.state.rx.heads source

abbrev pub tails_of : Actor → ℕ → ℕ
tails_of a source = slice_index a.state.rx.tails source

head_is : (v : View Item) (a b : Actor) (source : ℕ) → head_step v a source ≡ Some b → (item : Item) × (slice_get (v.ready source) (heads_of a source) ≡ Some item) × (heads_of a source ≡ tails_of a source) × Passes a.state b.state
unfolding head_step
head_is v a b source e =
    let i = some_is (slice_get (v.ready source) (heads_of a source)) _ b e in
    let t = if_is _ _ b i.2 in
    (i.0, i.1, eqb-true _ _ (and_parts _ _ t.0).0, passes_to a.state _ b t.1 (head_passes a.state source i.0.head))

tail_is : (v : View Item) (a b : Actor) (source : ℕ) → tail_step v a source ≡ Some b
    → (item : Item) × (slice_get (v.ready source) (tails_of a source) ≡ Some item) × (tails_of a source < v.sent source) × Passes (with_rx (made_whole source a.state.rx) a.state) b.state
unfolding tail_step
tail_is v a b source e =
    let i = some_is (slice_get (v.ready source) (tails_of a source)) _ b e in
    let t = if_is _ _ b i.2 in
    let sent = (and_parts _ _ (and_parts _ _ t.0).0).1 in
    (i.0, i.1, ltb-true _ _ sent, passes_to _ _ b t.1 (tail_passes a.state source i.0.head i.0.bytes))

sent_is : (a b : Actor) (t : ℕ) → sent_step a t ≡ Some b → (slice_index a.state.tx.sent t < length (accepted_for a.state.tx t)) × Passes (with_tx (transmitting t a.state.tx) a.state) b.state
unfolding sent_step
sent_is a b t e = let i = if_is _ _ b e in (ltb-true _ _ (and_parts _ _ i.0).0, passes_to _ _ b i.1 (sent_passes a.state t))

draw_is : (a b : Actor) → draw_step a ≡ Some b → (draw_due a.state.rx ≡ true) × Passes a.state b.state
unfolding draw_step
draw_is a b e = let i = if_is _ _ b e in ((and_parts _ _ i.0).0, passes_to a.state _ b i.1 (draw_passes a.state))

final_is : (v : View Item) (a b : Actor) → final_step v a ≡ Some b → (v.calm ≡ true) × (b ≡ with_state a (do_call a.state CancelFirst).1) × Passes a.state b.state
unfolding final_step
final_is v a b e =
    let i = if_is _ _ b e in
    ((and_parts _ _ (and_parts _ _ i.0).0).0, sym (i.1), passes_to a.state _ b i.1 (call_passes a.state CancelFirst))

abbrev pub StepIs : View Item → Actor → Step → Actor → Type 0
StepIs v a Do b = (line : Line) × (next_line a ≡ Some line) × Passes a.state b.state
StepIs v a (Head source) b = (item : Item) × (slice_get (v.ready source) (heads_of a source) ≡ Some item) × (heads_of a source ≡ tails_of a source) × Passes a.state b.state
StepIs v a (Tail source) b =
    (item : Item) × (slice_get (v.ready source) (tails_of a source) ≡ Some item) × (tails_of a source < v.sent source) × Passes (with_rx (made_whole source a.state.rx) a.state) b.state
StepIs v a (Step.Sent t) b = (slice_index a.state.tx.sent t < length (accepted_for a.state.tx t)) × Passes (with_tx (transmitting t a.state.tx) a.state) b.state
StepIs v a Draw b = (draw_due a.state.rx ≡ true) × Passes a.state b.state
StepIs v a Step.Read b = (facts b ≡ facts a) × Passes a.state b.state
StepIs v a Final b = (v.calm ≡ true) × (b ≡ with_state a (do_call a.state CancelFirst).1) × Passes a.state b.state

pub step_is : (v : View Item) (a b : Actor) (x : Step) → fabric.step v a x ≡ Some b → StepIs v a x b
unfolding fabric step
step_is v a b Do e = do_is a b e
step_is v a b (Head source) e = head_is v a b source e
step_is v a b (Tail source) e = tail_is v a b source e
step_is v a b (Step.Sent t) e = sent_is a b t e
step_is v a b Draw e = draw_is a b e
step_is v a b Step.Read e = read_is a b e
step_is v a b Final e = final_is v a b e

-- ---- what is shown

-- to the receiver q, the peer with the state u shows all that it showed with the state s
abbrev pub Shown : State → State → ℕ → Type 0
Shown s u q = IsPrefixOf (accepted_for s.tx q) (accepted_for u.tx q) × (slice_index s.tx.sent q ≤ slice_index u.tx.sent q)

pub passes_shown : (s u : State) → Passes s u → (q : ℕ) → Shown s u q
passes_shown s u passes q = (passes.ready q, omega (arith, ap (λ xs. slice_index xs q) passes.sent))

pub raised : (xs : List ℕ) (t q : ℕ) → slice_index xs q ≤ slice_index (raise xs t) q
raised xs t q = elim (get_or-set xs t q (slice_index xs t + 1) 0) [ inl e ↦ omega (arith, e) | inr e ↦ omega (arith, e.1, ap (slice_index xs) e.0) ]

shown : (v : View Item) (a b : Actor) (x : Step) → StepIs v a x b → (q : ℕ) → Shown a.state b.state q
unfolding transmitting made_whole
shown v a b Do (line, has, passes) q = passes_shown a.state b.state passes q
shown v a b (Head source) (item, has, none, passes) q = passes_shown a.state b.state passes q
shown v a b (Tail source) (item, has, lt, passes) q = passes_shown _ b.state passes q
shown v a b (Step.Sent t) (lt, passes) q = let p = passes_shown _ b.state passes q in (p.0, omega (arith, p.1, raised a.state.tx.sent t q))
shown v a b Draw (due, passes) q = passes_shown a.state b.state passes q
shown v a b Step.Read (same, passes) q = passes_shown a.state b.state passes q
shown v a b Final (calm, is, passes) q = passes_shown a.state b.state passes q

pub grows : (v : View Item) (a b : Actor) (x : Step) → fabric.step v a x ≡ Some b → (q : ℕ) → IsPrefixOf (fabric.ready a q) (fabric.ready b q) × (fabric.sent a q ≤ fabric.sent b q)
unfolding fabric
grows v a b x e q = shown v a b x (step_is v a b x e) q

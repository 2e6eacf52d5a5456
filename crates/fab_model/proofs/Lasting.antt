-- What no step changes: a peer's lines, and how many completions may be unread.
--     Lasts a b      the two peers have the same lines, and their completion queues the same size
use Rattle.std.proofs.Common.{◌≡◌, ℕ, Bool, true, false, List, [], ◌∷◌, Option, Some, None, inl, inr, refl, sym, ap, subst, ◌∙◌}
use Rattle.std.specs.Prelude.{find, slice_get, slice_set}
use Rattle.std.specs.Option.{option_and_then}
use Rattle.std.proofs.lemmas.Bool.{cases_eq}
use Rattle.std.proofs.lemmas.Option.{slice_get_within, same_Some as some_same}
use Rattle.fab_base.specs.declared.items.Item.{Item}
use Rattle.fab_base.specs.declared.peers.Step.{Step}
use Rattle.fab_base.specs.declared.peers.Step.TheVariants.{Do, Head, Tail, Draw, Final}
use Rattle.fab_base.specs.declared.peers.LineResult.{LineResult}
use Rattle.fab_base.specs.declared.script.LineOp.{LineOp}
use Rattle.fab_base.specs.declared.script.LineOp.TheVariants.{Wait, Reach}
use Rattle.fab_model.specs.State.{State}
use Rattle.fab_model.specs.Calls.{Call, do_call, call_of}
use Rattle.fab_model.specs.Orders.{Turn, Leads}
use Rattle.fab_model.specs.Peers.{Actor, with_state, with_result, next_line, is_again, is_of_ctx, after_call, call_line, wait_line, do_line, do_next, unread, read_next, head_step, tail_step, sent_step, draw_step, final_step, step, fabric}
use Rattle.fab_model.specs.Views.{View, rule, seen}
use Rattle.fab_model.proofs.Parts.{some_is, if_is}
use Rattle.fab_model.proofs.Grows.{StepIs, step_is}
use Rattle.fab_model.proofs.Turns.{slice_get-set_other, slice_get-set_same}

pub record Lasts (a b : Actor) : Type 0 where
  pub lines : b.lines ≡ a.lines
  pub size : b.state.cq.size ≡ a.state.cq.size

-- ---- lines

abbrev SameLines : Actor → Actor → Type 0
SameLines a b = b.lines ≡ a.lines

to : (a m b : Actor) → m ≡ b → SameLines a m → SameLines a b
to a m b is same = subst (λ (x : Actor). SameLines a x) is same

call_keeps : (a b : Actor) (done : LineResult × State) → after_call a done ≡ Some b → SameLines a b
call_keeps a b done e = go (is_again done.0) e
  where
    go : (again : Bool) → elim again [ true ↦ None | false ↦ Some (with_result done.0 (with_state a done.1)) ] ≡ Some b → SameLines a b
    go true e = absurd (cc)
    go false e = to a _ b (some_same _ b e) refl

op_keeps : (a b : Actor) (c : Option Call) → elim c [ None ↦ None | Some call ↦ call_line a call ] ≡ Some b → SameLines a b
unfolding call_line
op_keeps a b None e = absurd (cc)
op_keeps a b (Some c) e = call_keeps a b (do_call a.state c) e

line_keeps : (a b : Actor) (op : LineOp) → do_line a op ≡ Some b → SameLines a b
unfolding do_line wait_line
line_keeps a b (Wait ctx) e = let i = some_is (find (is_of_ctx ctx) a.kept) _ b e in to a _ b (some_same _ b i.2) refl
line_keeps a b (Reach class n) e = let i = if_is _ _ b e in to a _ b i.1 refl
line_keeps a b op e = op_keeps a b (call_of op) e

keeps : (v : View Item) (a b : Actor) (x : Step) → fabric.step v a x ≡ Some b → SameLines a b
unfolding fabric step do_next read_next head_step tail_step sent_step draw_step final_step
keeps v a b Do e = let i = some_is (next_line a) _ b e in line_keeps a b i.0.op i.2
keeps v a b (Head source) e = let i = some_is (slice_get (v.ready source) _) _ b e in to a _ b (if_is _ _ b i.2).1 refl
keeps v a b (Tail source) e = let i = some_is (slice_get (v.ready source) _) _ b e in to a _ b (if_is _ _ b i.2).1 refl
keeps v a b (Step.Sent t) e = to a _ b (if_is _ _ b e).1 refl
keeps v a b Draw e = to a _ b (if_is _ _ b e).1 refl
keeps v a b Step.Read e = let i = some_is (unread a.state.cq) _ b e in to a _ b (some_same _ b i.2) refl
keeps v a b Final e = to a _ b (if_is _ _ b e).1 refl

-- ---- sizes

size_of : (v : View Item) (a b : Actor) (x : Step) → StepIs v a x b → b.state.cq.size ≡ a.state.cq.size
size_of v a b Do (line, has, passes) = passes.size
size_of v a b (Head source) (item, has, none, passes) = passes.size
size_of v a b (Tail source) (item, has, lt, passes) = passes.size
size_of v a b (Step.Sent t) (lt, passes) = passes.size
size_of v a b Draw (due, passes) = passes.size
size_of v a b Step.Read (same, passes) = passes.size
size_of v a b Final (calm, is, passes) = passes.size

-- ---- turns

step_lasts : (v : View Item) (a b : Actor) (x : Step) → fabric.step v a x ≡ Some b → Lasts a b
step_lasts v a b x e = record { lines = keeps v a b x e; size = size_of v a b x (step_is v a b x e) }

lasts_then : (a b c : Actor) → Lasts a b → Lasts b c → Lasts a c
lasts_then a b c f g = record { lines = g.lines ∙ f.lines; size = g.size ∙ f.size }

-- a turn of any peer
rule_lasts : (states : List Actor) (p k : ℕ) (x : Step) (s a : Actor) → rule fabric states p x ≡ Some s → slice_get (slice_set states p s) k ≡ Some a → (b : Actor) × (slice_get states k ≡ Some b) × Lasts b a
rule_lasts states p k x s a stands has = elim (cases_eq k p) [
  | inl same ↦ (let at_p : slice_get (slice_set states p s) p ≡ Some a = subst (λ i. slice_get (slice_set states p s) i ≡ Some a) same has in
      let from = of (slice_get states p) refl stands in
      let is : s ≡ a = some_same s a (sym (slice_get-set_same states p s (slice_get_within states p from.0 from.1)) ∙ at_p) in
      (from.0, ap (slice_get states) same ∙ from.1, subst (λ (y : Actor). Lasts from.0 y) is from.2))
  | inr other ↦ (a, sym (slice_get-set_other states p k s (λ e. other (sym e))) ∙ has, record { lines = refl; size = refl })
]
  where
    of : (o : Option Actor) → slice_get states p ≡ o → option_and_then (λ b. fabric.step (seen fabric states p) b x) o ≡ Some s → (b : Actor) × (slice_get states p ≡ Some b) × Lasts b s
    of None e stands = absurd (cc)
    of (Some b) e stands = (b, e, step_lasts (seen fabric states p) b s x stands)

-- in any order of turns, each peer ends with its own lines and size
pub leads_lasts : (turns : List (Turn Step)) (states last : List Actor) (k : ℕ) (a : Actor) → Leads (rule fabric) states turns last → slice_get last k ≡ Some a → (b : Actor) × (slice_get states k ≡ Some b) × Lasts b a
leads_lasts [] states last k a leads has = (a, ap (λ xs. slice_get xs k) leads ∙ has, record { lines = refl; size = refl })
leads_lasts (t ∷ turns) states last k a (s, stands, rest) has =
    let later = leads_lasts turns (slice_set states t.peer s) last k a rest has in
    let first = rule_lasts states t.peer k t.step s later.0 stands later.1 in
    (first.0, first.1, lasts_then first.0 later.0 a first.2 later.2)

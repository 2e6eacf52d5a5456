-- What every call and every arrival keeps of a peer's state, every step keeps.
--     Kept P      calls, arrivals, draws, reads and the transmission of an item keep what P says
use Rattle.std.proofs.Common.{◌≡◌, ℕ, Bool, true, false, List, Option, Some, None, subst, slice_get}
use Rattle.std.specs.Prelude.{find}
use Rattle.std.proofs.lemmas.Option.{same_Some as some_same}
use Rattle.fab_base.specs.declared.items.Item.{Item}
use Rattle.fab_base.specs.declared.items.ItemHead.{ItemHead}
use Rattle.fab_base.specs.declared.peers.Step.{Step}
use Rattle.fab_base.specs.declared.peers.Step.TheVariants.{Do, Head, Tail, Draw, Final}
use Rattle.fab_base.specs.declared.peers.LineResult.{LineResult}
use Rattle.fab_base.specs.declared.script.LineOp.{LineOp}
use Rattle.fab_base.specs.declared.script.LineOp.TheVariants.{Wait, Reach}
use Rattle.fab_model.specs.State.{State}
use Rattle.fab_model.specs.Sending.{do_sent}
use Rattle.fab_model.specs.Arrivals.{do_head, do_draw, do_tail}
use Rattle.fab_model.specs.Calls.{Call, CancelFirst, do_call, call_of}
use Rattle.fab_model.specs.Peers.{Actor, with_state, with_result, next_line, is_again, is_of_ctx, after_call, call_line, wait_line, do_line, do_next, unread, reading, read_next, head_step, tail_step, sent_step, draw_step, final_step, step, fabric}
use Rattle.fab_model.specs.Views.{View}
use Rattle.fab_model.proofs.Parts.{some_is, if_is}

pub record Kept (P : State → Type 0) : Type 1 where
  pub call : (s : State) (c : Call) → P s → P (do_call s c).1
  pub head : (s : State) (source : ℕ) (head : ItemHead) → P s → P (do_head s source head)
  pub tail : (s : State) (source : ℕ) (head : ItemHead) (bytes : List ℕ) → P s → P (do_tail s source head bytes)
  pub sent : (s : State) (t : ℕ) → P s → P (do_sent s t)
  pub draw : (s : State) → P s → P (do_draw s)
  pub read : (s : State) → P s → P (reading s)

module _ (P : State → Type 0) (kept : Kept P) where
  to : (a b : Actor) → a ≡ b → P a.state → P b.state
  to a b is p = subst (λ (x : Actor). P x.state) is p

  call_keeps : (a b : Actor) (done : LineResult × State) → P done.1 → after_call a done ≡ Some b → P b.state
  call_keeps a b done p e = go (is_again done.0) e
    where
      go : (again : Bool) → elim again [ true ↦ None | false ↦ Some (with_result done.0 (with_state a done.1)) ] ≡ Some b → P b.state
      go true e = absurd (cc)
      go false e = to _ b (some_same _ b e) p

  op_keeps : (a b : Actor) (c : Option Call) → elim c [ None ↦ None | Some call ↦ call_line a call ] ≡ Some b → P a.state → P b.state
  unfolding call_line
  op_keeps a b None e p = absurd (cc)
  op_keeps a b (Some c) e p = call_keeps a b (do_call a.state c) (kept.call a.state c p) e

  line_keeps : (a b : Actor) (op : LineOp) → do_line a op ≡ Some b → P a.state → P b.state
  unfolding do_line wait_line
  line_keeps a b (Wait ctx) e p = let i = some_is (find (is_of_ctx ctx) a.kept) _ b e in to _ b (some_same _ b i.2) p
  line_keeps a b (Reach class n) e p = let i = if_is _ _ b e in to _ b i.1 p
  line_keeps a b op e p = op_keeps a b (call_of op) e p

  pub step_keeps : (v : View Item) (a b : Actor) (x : Step) → fabric.step v a x ≡ Some b → P a.state → P b.state
  unfolding fabric step do_next read_next head_step tail_step sent_step draw_step final_step
  step_keeps v a b Do e p = let i = some_is (next_line a) _ b e in line_keeps a b i.0.op i.2 p
  step_keeps v a b (Head source) e p =
      let i = some_is (slice_get (v.ready source) _) _ b e in
      to _ b (if_is _ _ b i.2).1 (kept.head a.state source i.0.head p)
  step_keeps v a b (Tail source) e p =
      let i = some_is (slice_get (v.ready source) _) _ b e in
      to _ b (if_is _ _ b i.2).1 (kept.tail a.state source i.0.head i.0.bytes p)
  step_keeps v a b (Step.Sent t) e p = to _ b (if_is _ _ b e).1 (kept.sent a.state t p)
  step_keeps v a b Draw e p = to _ b (if_is _ _ b e).1 (kept.draw a.state p)
  step_keeps v a b Step.Read e p = let i = some_is (unread a.state.cq) _ b e in to _ b (some_same _ b i.2) (kept.read a.state p)
  step_keeps v a b Final e p = to _ b (if_is _ _ b e).1 (kept.call a.state CancelFirst p)

-- A step that stands also stands where more is seen, and does the same.
use Rattle.std.proofs.Common.{◌≡◌, ℕ, Some, slice_get}
use Rattle.std.specs.Prelude.{slice_index}
use Rattle.std.proofs.lemmas.Bool.{and_parts, and_from}
use Rattle.fab_base.specs.declared.items.Item.{Item}
use Rattle.fab_base.specs.declared.peers.Step.{Step}
use Rattle.fab_base.specs.declared.peers.Step.TheVariants.{Do, Head, Tail, Draw, Final}
use Rattle.fab_model.specs.Views.{View, More}
use Rattle.fab_model.specs.Peers.{Actor, fabric, step, head_step, tail_step, final_step}
use Rattle.fab_model.proofs.Parts.{more_item, more_sent, some_is, some_gives, if_is, if_gives}

head_waits : (v w : View Item) (a b : Actor) (source : ℕ) → More v w → head_step v a source ≡ Some b → head_step w a source ≡ Some b
unfolding head_step
head_waits v w a b source more e =
    let k = slice_index a.state.rx.heads source in
    let i = some_is (slice_get (v.ready source) k) _ b e in
    some_gives (slice_get (w.ready source) k) _ i.0 b (more_item v w source k i.0 more i.1) i.2

tail_waits : (v w : View Item) (a b : Actor) (source : ℕ) → More v w → tail_step v a source ≡ Some b → tail_step w a source ≡ Some b
unfolding tail_step
tail_waits v w a b source more e =
    let rx = a.state.rx in
    let k = slice_index rx.tails source in
    let i = some_is (slice_get (v.ready source) k) _ b e in
    let t = if_is _ _ b i.2 in
    let arrived = and_parts _ _ t.0 in
    let sent = and_parts _ _ arrived.0 in
    some_gives (slice_get (w.ready source) k) _ i.0 b (more_item v w source k i.0 more i.1) (if_gives _ _ b (and_from _ _ (and_from _ _ sent.0 (more_sent v w source k more sent.1)) arrived.1) t.1)

final_waits : (v w : View Item) (a b : Actor) → More v w → final_step v a ≡ Some b → final_step w a ≡ Some b
unfolding final_step
final_waits v w a b more e =
    let t = if_is _ _ b e in
    let fit = and_parts _ _ t.0 in
    let calm = and_parts _ _ fit.0 in
    if_gives _ _ b (and_from _ _ (and_from _ _ (more.calm calm.0) calm.1) fit.1) t.1

pub waits : (v w : View Item) (a b : Actor) (x : Step) → More v w → fabric.step v a x ≡ Some b → fabric.step w a x ≡ Some b
unfolding fabric step
waits v w a b Do more e = e
waits v w a b (Head source) more e = head_waits v w a b source more e
waits v w a b (Tail source) more e = tail_waits v w a b source more e
waits v w a b (Step.Sent t) more e = e
waits v w a b Draw more e = e
waits v w a b Step.Read more e = e
waits v w a b Final more e = final_waits v w a b more e

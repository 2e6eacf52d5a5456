use Rattle.std.proofs.Common.{◌-◌, length, sum_by, take_all, ap, ◌∙◌, arith}
use Rattle.fab_checker_halves.proofs.LetOut.{left_more, none_left}
use Rattle.fab_checker_halves.proofs.halves.Transmitting.is_full.Goals as goal

pub loop-held-init : goal.loop-held-init
loop-held-init c = let n = c.saturating_sub-left.ensures in let m = c.len.ensures in omega (arith, n, m)

pub loop-held-preserved : goal.loop-held-preserved
loop-held-preserved c =
    let xs = c.deref-held-items.result.now in
    let here = ap length c.as_slice.ensures in
    let is = ap length c.held-item.is in
    c.saturating_sub-left-in-loop-held.ensures ∙ ap (λ n. c.loop-held.left - n) (here ∙ is) ∙ left_more xs c.loop-held.held-index c.loop-held.left _ c.held-item.result c.loop-held-test.true c.loop-held.invariant

pub returns : goal.returns
returns c =
    let xs = c.deref-held-items.result.now in
    let all = ap (sum_by length) (take_all c.loop-held.held-index xs c.loop-held-test.false) in
    none_left c.loop-held.left c.args.most (length c.args.self.now.live.items) _ (c.loop-held.invariant ∙ ap (λ n. c.args.most - length c.args.self.now.live.items - n) (all ∙ ap (sum_by length) c.deref-held-items.ensures.value))

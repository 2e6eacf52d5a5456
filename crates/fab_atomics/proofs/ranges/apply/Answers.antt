use Rattle.std.proofs.Common.{◌*◌, ◌/◌, ◌+◌, ◌≤◌, ◌<◌, length, ap, arith}
use Rattle.std.proofs.Math.Nat.{add-mul, div-add-mod', mul-le-mul_right}
use Rattle.fab_base.specs.Elements.{element_size}
use Rattle.fab_atomics.proofs.Elements.{one_more, all_done, each_done}
use Rattle.fab_atomics.proofs.ranges.apply.Goals as goal

pub loop-i-preserved : goal.loop-i-preserved
loop-i-preserved c =
    let size = c.element_size-size.ensures.size in
    let i = c.loop-i.i in
    let n = length c.args.target.now in
    let test = rw c.element_size-size.ensures.size at c.loop-i-test.true in
    let some : 0 < element_size c.args.num = omega (arith, c.element_size-size.ensures.size, c.element_size-size.ensures.low) in
    let up = mul-le-mul_right {m = i + 1} {n = n / element_size c.args.num} (element_size c.args.num) (omega (arith, test)) in
    let at_is = ap (λ s. i * s) size in
    one_more c.args.op c.args.num c.args.target.now c.args.operand.now c.args.compare.now i (i * c.element_size-size.result) c.loop-i.target c.change.new.target at_is some
    (omega (arith, up, add-mul i 1 (element_size c.args.num), at_is, div-add-mod' n (element_size c.args.num))) c.loop-i.auto.target
    (rw (c.number_at-b.ensures.value, c.number_at-c.ensures.value) at c.change.ensures.bytes)
    (rw (c.number_at-b.ensures.value, c.number_at-c.ensures.value) at c.change.ensures.value) c.loop-i.invariant

pub returns-clause-changed : goal.returns-clause-changed
returns-clause-changed c =
    let n = length c.args.target.now in
    let low : n / element_size c.args.num ≤ c.loop-i.i = rw c.element_size-size.ensures.size at c.loop-i-test.false in
    let high : c.loop-i.i ≤ n / element_size c.args.num = rw c.element_size-size.ensures.size at c.loop-i.auto.i-end in
    all_done c.args.op c.args.num c.args.target.now c.args.operand.now c.args.compare.now c.loop-i.target c.loop-i.i c.requires.whole (omega (arith, low, high)) c.loop-i.auto.target c.loop-i.invariant

pub returns-clause-each : goal.returns-clause-each
returns-clause-each c =
    let n = length c.args.target.now in
    let low : n / element_size c.args.num ≤ c.loop-i.i = rw c.element_size-size.ensures.size at c.loop-i-test.false in
    let high : c.loop-i.i ≤ n / element_size c.args.num = rw c.element_size-size.ensures.size at c.loop-i.auto.i-end in
    let some : 0 < element_size c.args.num = omega (arith, c.element_size-size.ensures.size, c.element_size-size.ensures.low) in
    each_done c.args.op c.args.num c.args.target.now c.args.operand.now c.args.compare.now c.loop-i.target c.loop-i.i (omega (arith, low, high)) some c.loop-i.invariant

use Rattle.std.proofs.Common.{◌≡◌, ◌-◌, ◌<◌, length, arith, ◌∙◌}
use Rattle.std.proofs.lemmas.Bool.Decides.{nat_tests}
use Rattle.fab_checker_values.proofs.Elements.{elements_step, elements_end, elements_all}
use Rattle.fab_checker_values.proofs.atomics.elements.Goals as goal

pub returns-then-is_empty : goal.returns-then-is_empty
returns-then-is_empty c =
    let none : length c.loop-element.ts.now ≡ 0 = grind (arith, nat_tests, c.is_empty.ensures, c.if-is_empty.true) in
    c.from_vec.ensures ∙ elements_end _ c.loop-element.out.items _ c.args.atom c.loop-element.ts.now c.loop-element.bs.now c.loop-element.cs.now none c.loop-element.invariant

pub loop-element-preserved : goal.loop-element-preserved
loop-element-preserved c =
    let lt : c.loop-element._element < length c.args.old.now = omega arith in
    let some : 0 < length c.loop-element.ts.now = grind (arith, nat_tests, c.is_empty.ensures, c.if-is_empty.false) in
    let step = elements_step _ c.loop-element.out.items (length c.args.old.now) c.loop-element._element c.args.atom c.loop-element.ts.now c.loop-element.bs.now c.loop-element.cs.now lt some c.loop-element.invariant in
    rw (c.in_ok-push_element.ensures, c.split.ensures.rest, c.split-in-loop-element.ensures.rest, c.split-in-loop-element-2.ensures.rest, c.element_size-size.ensures.size) step

pub returns : goal.returns
returns c =
    let all : length c.args.old.now - c.loop-element._element ≡ 0 = omega arith in
    c.from_vec-2.ensures ∙ elements_all _ c.loop-element.out.items _ c.args.atom c.loop-element.ts.now c.loop-element.bs.now c.loop-element.cs.now all c.loop-element.invariant

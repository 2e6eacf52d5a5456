use Rattle.std.proofs.Common.{drop, length, ap, ◌∙◌, arith}
use Rattle.std.proofs.lemmas.List.{take-append-le, take_all}
use Rattle.fab_model.specs.Target.{elements}
use Rattle.fab_rma.proofs.elements.Elements.change.Goals as goal

pub returns-clause-changed : goal.returns-clause-changed
returns-clause-changed c =
    let same = c.as_mut_slice.ensures.value ∙ c.refill.ensures.items in
    let a = c.apply.auto.target in
    let l = c.as_mut_slice.ensures.len in
    take-append-le c.refill.new.copy.len c.apply.new.target (drop (length c.apply.new.target) c.refill.new.copy.items) (omega (arith, a, l))
    ∙ take_all c.refill.new.copy.len c.apply.new.target (omega (arith, a, l))
    ∙ c.apply.ensures.changed c.args.atom.form ∙ ap (λ xs. elements (length xs) c.args.atom xs c.args.operand.now c.args.compare.now) same

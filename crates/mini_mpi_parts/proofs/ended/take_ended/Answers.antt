use Rattle.std.proofs.Common.{◌≡◌, ◌==◌, Some, rules, position, ap, ◌∙◌}
use Rattle.std.proofs.lemmas.Bool.{eqb-true}
use Rattle.std.proofs.lemmas.List.Quantifiers.{position-Some}
use Rattle.mini_mpi_parts.proofs.ended.take_ended.Goals as goal

pub returns-clause-own : goal.returns-clause-own
returns-clause-own g c =
    let at : position (λ one. one.id == c.args.id) c.args.ended.now.items ≡ Some c.in-Some.at = search rules in
    let passes = (position-Some (λ one. one.id == c.args.id) c.args.ended.now.items c.in-Some.at c.remove.result at).1 in
    eqb-true c.remove.result.id c.args.id (ap (λ one. one.id == c.args.id) c.remove.ensures.value ∙ passes)

pub returns-clause-first : goal.returns-clause-first
returns-clause-first g c =
    let at : position (λ one. one.id == c.args.id) c.args.ended.now.items ≡ Some c.in-Some.at = search rules in
    (c.in-Some.at, at, c.remove.ensures.value, c.remove.ensures.items)

use Rattle.std.proofs.Common.{rules, Some, None, ◌≡◌, sym, ap, ◌∙◌}
use Rattle.std.specs.Prelude.{position}
use Rattle.fab_model.specs.Target.{is_keyed}
use Rattle.fab_model.proofs.Firsts.{first_at, first_none}
use Rattle.fab_checker_values.proofs.target.take_region.Goals as goal

pub returns-in_default-clause-found : goal.returns-in_default-clause-found
returns-in_default-clause-found c =
    let none : position (is_keyed c.args.key) c.args.regions.now.items ≡ None = search rules in
    sym ((first_none (is_keyed c.args.key) c.args.regions.now.items none).0)

pub returns-in_default-clause-rest : goal.returns-in_default-clause-rest
returns-in_default-clause-rest c =
    let none : position (is_keyed c.args.key) c.args.regions.now.items ≡ None = search rules in
    sym ((first_none (is_keyed c.args.key) c.args.regions.now.items none).1)

pub returns-clause-found : goal.returns-clause-found
returns-clause-found c =
    let at : position (is_keyed c.args.key) c.args.regions.now.items ≡ Some c.in-Some.at = search rules in
    let first = first_at (is_keyed c.args.key) c.remove.result c.args.regions.now.items c.in-Some.at at in
    ap Some c.remove.ensures.value ∙ sym (first.found)

pub returns-clause-rest : goal.returns-clause-rest
returns-clause-rest c =
    let at : position (is_keyed c.args.key) c.args.regions.now.items ≡ Some c.in-Some.at = search rules in
    let first = first_at (is_keyed c.args.key) c.remove.result c.args.regions.now.items c.in-Some.at at in
    c.remove.ensures.items ∙ sym (first.rest)

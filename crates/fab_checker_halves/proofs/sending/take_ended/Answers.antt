use Rattle.std.proofs.Common.{rules, Some, None, ◌≡◌, sym, ap, ◌∙◌}
use Rattle.std.specs.Prelude.{position}
use Rattle.fab_model.specs.Sending.{is_of_item}
use Rattle.fab_model.proofs.Firsts.{first_at, first_none}
use Rattle.fab_checker_halves.proofs.sending.take_ended.Goals as goal

pub returns-in_default-clause-found : goal.returns-in_default-clause-found
returns-in_default-clause-found c =
    let none : position (is_of_item c.args.to c.args.place) c.args.live.now.items ≡ None = search rules in
    sym ((first_none (is_of_item c.args.to c.args.place) c.args.live.now.items none).0)

pub returns-in_default-clause-rest : goal.returns-in_default-clause-rest
returns-in_default-clause-rest c =
    let none : position (is_of_item c.args.to c.args.place) c.args.live.now.items ≡ None = search rules in
    sym ((first_none (is_of_item c.args.to c.args.place) c.args.live.now.items none).1)

pub returns-clause-found : goal.returns-clause-found
returns-clause-found c =
    let at : position (is_of_item c.args.to c.args.place) c.args.live.now.items ≡ Some c.in-Some.at = search rules in
    let first = first_at (is_of_item c.args.to c.args.place) c.remove.result c.args.live.now.items c.in-Some.at at in
    ap Some c.remove.ensures.value ∙ sym (first.found)

pub returns-clause-rest : goal.returns-clause-rest
returns-clause-rest c =
    let at : position (is_of_item c.args.to c.args.place) c.args.live.now.items ≡ Some c.in-Some.at = search rules in
    let first = first_at (is_of_item c.args.to c.args.place) c.remove.result c.args.live.now.items c.in-Some.at at in
    c.remove.ensures.items ∙ sym (first.rest)

use Rattle.std.proofs.Common.{◌≡◌, ◌∙◌, None, Some, sym, rules}
use Rattle.std.specs.Prelude.{position}
use Rattle.fab_model.proofs.Firsts.{remove_first_at, remove_first-none, list_any-none}
use Rattle.fab_settling.specs.Members.{is_first}
use Rattle.fab_settling.proofs.places.remove_read.Goals as goal

pub returns-in_default-clause-items : goal.returns-in_default-clause-items
returns-in_default-clause-items c =
    let none : position is_first c.args.places.now.items ≡ None = search rules in
    sym (remove_first-none is_first c.args.places.now.items (list_any-none is_first c.args.places.now.items none))

pub returns-clause-items : goal.returns-clause-items
returns-clause-items c =
    let at : position is_first c.args.places.now.items ≡ Some c.in-Some.place = search rules in
    c.remove.ensures.items ∙ sym (remove_first_at is_first c.args.places.now.items c.in-Some.place at)

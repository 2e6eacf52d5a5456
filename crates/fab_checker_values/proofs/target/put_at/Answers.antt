use Rattle.std.proofs.Common.{rules, Some, None, ◌≡◌, sym, ap, ◌∙◌}
use Rattle.std.specs.Prelude.{position, slice_set}
use Rattle.fab_model.specs.State.{Region}
use Rattle.fab_model.specs.Target.{is_keyed, put_range}
use Rattle.fab_checker_values.proofs.Changing.{change_first_at, change_first_none}
use Rattle.fab_checker_values.proofs.target.put_at.Goals as goal

pub returns-in_default : goal.returns-in_default
returns-in_default c =
    let none : position (is_keyed c.args.key) c.args.regions.now.items ≡ None = search rules in
    sym (change_first_none (is_keyed c.args.key) (put_range c.args.at c.args.bytes.now) c.args.regions.now.items none)

pub returns : goal.returns
returns c =
    let at : position (is_keyed c.args.key) c.args.regions.now.items ≡ Some c.in-Some.place = search rules in
    ap (λ (x : Region). slice_set c.args.regions.now.items c.in-Some.place x) (c.in_ok-put_range.ensures ∙ ap (put_range c.args.at c.args.bytes.now) c.index_mut.ensures.value)
    ∙ sym (change_first_at (is_keyed c.args.key) (put_range c.args.at c.args.bytes.now) c.index_mut.result.now c.args.regions.now.items c.in-Some.place at)

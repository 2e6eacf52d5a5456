use Rattle.std.proofs.Common.{rules, Some, None, ◌≡◌, sym, ap, ◌∙◌, List, ℕ}
use Rattle.std.specs.Prelude.{position, slice_set}
use Rattle.fab_base.specs.declared.operations.Receive.{Receive}
use Rattle.fab_model.specs.Complete.{is_made_by, filled}
use Rattle.fab_checker_values.proofs.Changing.{change_first_at, change_first_none}
use Rattle.fab_checker_halves.proofs.filling.fill_first.Goals as goal

abbrev with_buf : Receive → List ℕ → Receive
with_buf r buf = record r { buf = buf }

pub returns-in_default : goal.returns-in_default
returns-in_default c =
    let none : position (is_made_by c.args.call) c.args.receives.now.items ≡ None = search rules in
    sym (change_first_none (is_made_by c.args.call) (filled c.args.place c.args.bytes.now) c.args.receives.now.items none)

pub returns : goal.returns
returns c =
    let at : position (is_made_by c.args.call) c.args.receives.now.items ≡ Some c.in-Some.at = search rules in
    let f = filled c.args.place c.args.bytes.now in
    let r = c.index_mut.result.now in
    ap (λ (buf : List ℕ). slice_set c.args.receives.now.items c.in-Some.at (with_buf r buf)) c.paste.ensures
    ∙ ap (λ (x : Receive). slice_set c.args.receives.now.items c.in-Some.at (filled c.args.place c.args.bytes.now x)) c.index_mut.ensures.value
    ∙ sym (change_first_at (is_made_by c.args.call) (filled c.args.place c.args.bytes.now) r c.args.receives.now.items c.in-Some.at at)

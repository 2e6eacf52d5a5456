use Rattle.std.proofs.Common.{◌≡◌, Some, List, false, rules, ap, sym, ◌∙◌}
use Rattle.std.specs.Prelude.{find}
use Rattle.fab_base.specs.declared.operations.Receive.{Receive}
use Rattle.fab_model.specs.State.{under_way}
use Rattle.fab_model.specs.Complete.{is_made_by}
use Rattle.fab_checker_machine.specs.Seen.{state_of}
use Rattle.fab_checker_machine.proofs.Releasing.{release_some, let_go_in}
use Rattle.fab_checker_machine.proofs.state.State.release_multi.Goals as goal

pub returns : goal.returns
returns c =
    let s = state_of c.args.self.now in
    let found : find (is_made_by c.args.call) s.rx.closing ≡ Some c.in-Some.receive = search rules in
    let free : under_way s.rx c.args.call ≡ false = search rules in
    c.in_ok-write.ensures ∙ ap (λ (closing : List Receive). let_go_in closing c.in-Some.receive s) c.in-Some.ensures.rest ∙ sym (release_some s c.args.call c.in-Some.receive found free)

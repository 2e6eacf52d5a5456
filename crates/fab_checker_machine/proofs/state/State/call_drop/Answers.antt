use Rattle.std.proofs.Common.{ap, ◌∙◌}
use Rattle.fab_base.specs.declared.peers.LineResult.{LineResult}
use Rattle.fab_base.specs.declared.peers.LineResult.TheVariants.{Done}
use Rattle.fab_model.specs.State.{State}
use Rattle.fab_model.specs.Calls.{answer, do_call}
use Rattle.fab_model.specs.Receiving.{drop_claimed}
use Rattle.fab_checker_machine.specs.Seen.{state_of}
use Rattle.fab_checker_machine.proofs.Growing.{drop_grown}
use Rattle.fab_checker_machine.proofs.state.State.call_drop.Goals as goal

pub returns-in-Some : goal.returns-in-Some
unfolding do_call
returns-in-Some c =
    let s = state_of c.args.self.now in
    let after = drop_claimed s c.args.ctx in
    ap (λ fault. answer fault s after) (c.in-Some.ensures after (λ some. drop_grown s c.args.ctx some))

pub returns : goal.returns
unfolding do_call
returns c =
    let s = state_of c.args.self.now in
    let after = drop_claimed s c.args.ctx in
    ap (λ (x : State). let y : LineResult × State = (Done, x) in y) c.in_ok-drop_claimed.ensures ∙ ap (λ fault. answer fault s after) (c.in_default.ensures after (λ some. drop_grown s c.args.ctx some))

use Rattle.std.proofs.Common.{ap, ◌∙◌}
use Rattle.fab_base.specs.declared.peers.LineResult.{LineResult}
use Rattle.fab_base.specs.declared.peers.LineResult.TheVariants.{Done}
use Rattle.fab_model.specs.State.{State}
use Rattle.fab_model.specs.Calls.{answer, do_call}
use Rattle.std.specs.Prelude.{replicate}
use Rattle.fab_model.specs.Receiving.{take_claimed}
use Rattle.fab_checker_machine.specs.Seen.{state_of}
use Rattle.fab_checker_machine.proofs.Growing.{take_grown}
use Rattle.fab_checker_machine.proofs.state.State.call_take.Goals as goal

pub returns-in-Some : goal.returns-in-Some
unfolding do_call
returns-in-Some c =
    let s = state_of c.args.self.now in
    let after = take_claimed s (replicate c.args.len 0) c.args.ctx in
    ap (λ fault. answer fault s after) (c.in-Some.ensures after (λ some. take_grown s (replicate c.args.len 0) c.args.ctx _ some c.entries_taken-entries.ensures))

pub returns : goal.returns
unfolding do_call
returns c =
    let s = state_of c.args.self.now in
    let after = take_claimed s (replicate c.args.len 0) c.args.ctx in
    ap (λ (x : State). let y : LineResult × State = (Done, x) in y) c.in_ok-take_claimed.ensures ∙ ap (λ fault. answer fault s after) (c.in_default.ensures after (λ some. take_grown s (replicate c.args.len 0) c.args.ctx _ some c.entries_taken-entries.ensures))

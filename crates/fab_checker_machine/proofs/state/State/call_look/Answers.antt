use Rattle.std.proofs.Common.{true, ap, ◌∙◌}
use Rattle.fab_base.specs.declared.peers.LineResult.{LineResult}
use Rattle.fab_base.specs.declared.peers.LineResult.TheVariants.{Done}
use Rattle.fab_model.specs.State.{State}
use Rattle.fab_model.specs.Calls.{answer, do_call}
use Rattle.fab_base.specs.declared.items.Want.{Want}
use Rattle.fab_model.specs.Receiving.{want_of, look}
use Rattle.fab_checker_machine.specs.Seen.{state_of}
use Rattle.fab_checker_machine.proofs.Growing.{fits_look}
use Rattle.fab_checker_machine.proofs.state.State.call_look.Goals as goal

pub returns-in-Some : goal.returns-in-Some
unfolding do_call
returns-in-Some c =
    let s = state_of c.args.self.now in
    let after = look c.args.how (want_of s true c.args.source c.args.tag c.args.ignore) c.args.ctx s in
    ap (λ fault. answer fault s after) (c.in-Some.ensures after (fits_look c.args.how (want_of s true c.args.source c.args.tag c.args.ignore) c.args.ctx s))

pub returns : goal.returns
unfolding do_call
returns c =
    let s = state_of c.args.self.now in
    let after = look c.args.how (want_of s true c.args.source c.args.tag c.args.ignore) c.args.ctx s in
    ap (λ (x : State). let y : LineResult × State = (Done, x) in y) (c.in_ok-look.ensures ∙ ap (λ (want : Want). look c.args.how want c.args.ctx s) c.want_of-want.ensures) ∙ ap (λ fault. answer fault s after) (c.in_default.ensures after (fits_look c.args.how (want_of s true c.args.source c.args.tag c.args.ignore) c.args.ctx s))

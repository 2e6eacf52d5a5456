use Rattle.std.proofs.Common.{ap}
use Rattle.fab_model.specs.Peers.{with_state}
use Rattle.fab_checker_machine.specs.Seen.{state_of, seen_call}
use Rattle.fab_replay.specs.Seen.{actor_of}
use Rattle.fab_replay.proofs.Again.{call_again}
use Rattle.fab_replay.proofs.actor.Actor.call.Goals as goal

pub returns-in-None : goal.returns-in-None
returns-in-None c = λ bound.
    let a = actor_of bound c.args.self.now in
    let h = call_again a (seen_call c.args.call) c.in_ok-answer.answer (state_of c.do_call.new.self) c.in_ok-answer.ensures c.in-None.ensures in
    (h.0, ap (with_state a) h.1)

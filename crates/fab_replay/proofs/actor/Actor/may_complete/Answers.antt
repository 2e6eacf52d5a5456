use Rattle.std.proofs.Common.{arith, rules}
use Rattle.fab_checker_machine.specs.Seen.{state_of}
use Rattle.fab_replay.proofs.Steps.{may_is}
use Rattle.fab_replay.proofs.actor.Actor.may_complete.Goals as goal

pub returns : goal.returns
returns c = λ bytes.
    may_is (state_of c.args.self.now.state) c.args.source c.number_at-heads.result c.number_at-tails.result c.args.sent c.entries_at_tail-entries.result c.args.head.now bytes c.has_room.result
    (search rules) (search rules) (omega (arith, c.if-heads-eq0.false, c.if-heads-tails.false)) (omega (arith, c.if-tails-sent.false)) c.entries_at_tail-entries.ensures c.has_room.ensures

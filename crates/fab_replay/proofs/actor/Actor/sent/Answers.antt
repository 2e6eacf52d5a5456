use Rattle.std.proofs.Common.{refl, rules}
use Rattle.fab_replay.specs.Seen.{actor_of}
use Rattle.fab_replay.proofs.Steps.{sent_none, sent_full, sent_some}
use Rattle.fab_checker_machine.specs.Seen.{state_of}
use Rattle.fab_replay.proofs.actor.Actor.sent.Goals as goal
use Rattle.fab_replay.proofs.actor.Actor.sent.Goals.{then-sent-accepted_len-via-then-sent-accepted_len, then-sent-accepted_len-via-else-sent-accepted_len+then-not-has_room}

pub returns-then-sent-accepted_len : goal.returns-then-sent-accepted_len
returns-then-sent-accepted_len c = λ bound.
    let a = actor_of bound c.args.self.now in
    elim c.then-sent-accepted_len.branch [
      | then-sent-accepted_len-via-then-sent-accepted_len w ↦ (sent_none a c.args.to c.number_at-sent.result c.accepted_len.result (search rules) c.accepted_len.ensures w.if-sent-accepted_len.true, refl)
      | then-sent-accepted_len-via-else-sent-accepted_len+then-not-has_room w ↦ (sent_full a c.args.to c.entries_at_sent-entries.result c.entries_at_sent-entries.ensures (search rules), refl)
    ]

pub returns : goal.returns
returns c = λ bound.
    let a = actor_of bound c.args.self.now in
    sent_some a c.args.to c.entries_at_sent-entries.result c.number_at-sent.result c.accepted_len.result (state_of c.do_sent.new.self) (search rules) c.accepted_len.ensures c.if-sent-accepted_len.false c.entries_at_sent-entries.ensures (search rules) c.in_ok-do_sent.ensures

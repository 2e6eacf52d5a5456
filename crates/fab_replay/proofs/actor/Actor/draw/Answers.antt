use Rattle.std.proofs.Common.{refl, rules}
use Rattle.fab_checker_machine.specs.Seen.{state_of}
use Rattle.fab_replay.specs.Seen.{actor_of}
use Rattle.fab_replay.proofs.Steps.{draw_none, draw_full, draw_some}
use Rattle.fab_replay.proofs.actor.Actor.draw.Goals as goal
use Rattle.fab_replay.proofs.actor.Actor.draw.Goals.{then-not-draw_due-via-then-not-draw_due, then-not-draw_due-via-else-not-draw_due+then-not-has_room}

pub returns-then-not-draw_due : goal.returns-then-not-draw_due
returns-then-not-draw_due c = λ bound.
    let a = actor_of bound c.args.self.now in
    elim c.then-not-draw_due.branch [
      | then-not-draw_due-via-then-not-draw_due w ↦ (draw_none a (search rules), refl)
      | then-not-draw_due-via-else-not-draw_due+then-not-has_room w ↦ (draw_full a c.in_ok-entries.entries c.in_ok-entries.ensures (search rules), refl)
    ]

pub returns : goal.returns
returns c = λ bound. draw_some (actor_of bound c.args.self.now) c.in_ok-entries.entries (state_of c.do_draw.new.self) (search rules) c.in_ok-entries.ensures (search rules) c.in_ok-do_draw.ensures

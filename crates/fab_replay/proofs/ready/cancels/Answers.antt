use Rattle.std.proofs.Common.{sym, ◌∙◌, rules, refl, true, false}
use Rattle.fab_checker_machine.specs.Room.{has_room}
use Rattle.fab_replay.specs.Seen.{actor_of}
use Rattle.fab_replay.proofs.Steps.{final_is}
use Rattle.fab_replay.proofs.ready.cancels.Goals as goal
use Rattle.fab_replay.proofs.ready.cancels.Goals.{then-not-can_cancel-via-then-not-can_cancel, then-not-can_cancel-via-else-not-can_cancel+then-not-has_room}

pub returns-then-not-can_cancel : goal.returns-then-not-can_cancel
returns-then-not-can_cancel c = λ v calm.
    let a = actor_of c.args.bound.now c.args.actor.now in
    elim c.then-not-can_cancel.branch [
      | then-not-can_cancel-via-then-not-can_cancel w ↦ final_is v a false (has_room 1 a.state.cq) v.calm (search rules) refl refl
      | then-not-can_cancel-via-else-not-can_cancel+then-not-has_room w ↦ final_is v a true false v.calm (search rules) (search rules) refl
    ]

pub returns : goal.returns
returns c = λ v calm. final_is v (actor_of c.args.bound.now c.args.actor.now) true true c.is_calm.result (search rules) (search rules) (c.is_calm.ensures ∙ sym calm)

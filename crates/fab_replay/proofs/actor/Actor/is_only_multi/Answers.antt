use Rattle.std.proofs.Common.{◌∙◌, rules, count_by, take, refl}
use Rattle.fab_model.specs.Peers.{is_release}
use Rattle.fab_replay.specs.Seen.{actor_of}
use Rattle.fab_replay.proofs.Multis.{only_is, one_more_is, none_is, zero_below}
use Rattle.fab_replay.proofs.actor.Actor.is_only_multi.Goals as goal

pub returns-then-made-gt0 : goal.returns-then-made-gt0
returns-then-made-gt0 c =
    only_is (actor_of c.args.bound.now c.args.self.now) c.args.bound.now c.lines_in.result.now c.args.ctx c.multis_made-made.result c.releases.result _ c.lines_in.ensures (search rules) (search rules)
    (one_more_is c.multis_made-made.result c.releases.result c.if-made-gt0.true)

pub returns-else-made-gt0 : goal.returns-else-made-gt0
returns-else-made-gt0 c =
    let a = actor_of c.args.bound.now c.args.self.now in
    zero_below c.multis_made-made.result c.if-made-gt0.false
    ∙ only_is a c.args.bound.now c.lines_in.result.now c.args.ctx c.multis_made-made.result (count_by (is_release c.args.ctx) (take a.state.cq.taken_out a.state.cq.written)) _ c.lines_in.ensures (search rules) refl
    (none_is c.multis_made-made.result _ c.if-made-gt0.false)

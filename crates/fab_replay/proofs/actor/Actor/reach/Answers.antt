use Rattle.std.proofs.Common.{refl, rules}
use Rattle.fab_replay.specs.Seen.{actor_of}
use Rattle.fab_replay.proofs.Steps.{reach_not, reach_done}
use Rattle.fab_replay.proofs.actor.Actor.reach.Goals as goal

pub returns-then-tally_of-n : goal.returns-then-tally_of-n
returns-then-tally_of-n c = λ bound. (reach_not (actor_of bound c.args.self.now) c.args.class c.args.n (search rules), refl)

pub returns : goal.returns
returns c = λ bound. reach_done (actor_of bound c.args.self.now) c.args.class c.args.n c.push.new.self.items (search rules) (search rules)

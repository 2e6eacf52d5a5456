use Rattle.std.proofs.Common.{◌≡◌, drop}
use Rattle.fab_base.specs.declared.script.Bound.{Bound}
use Rattle.fab_model.specs.Replay.{agree_all}
use Rattle.fab_replay.specs.Seen.{actor_of, actors_of}
use Rattle.fab_replay.proofs.rest.agrees_with_all.Given as goal

abbrev pub invariant-loop-of : goal.invariant-loop-of
invariant-loop-of l = (bound : Bound) → agree_all l.number l.of (actor_of bound l.receiver) (actors_of bound (drop l.of l.peers)) ≡ agree_all l.number 0 (actor_of bound l.receiver) (actors_of bound l.peers)

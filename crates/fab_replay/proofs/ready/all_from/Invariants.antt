use Rattle.std.proofs.Common.{◌≡◌, true, map}
use Rattle.fab_base.specs.declared.script.Bound.{Bound}
use Rattle.fab_model.specs.Peers.{all_below, facts, has_all}
use Rattle.fab_replay.specs.Seen.{actors_of}
use Rattle.fab_replay.proofs.ready.all_from.Given as goal

abbrev pub invariant-loop-receiver : goal.invariant-loop-receiver
invariant-loop-receiver l = (bound : Bound) → all_below (has_all (map facts (actors_of bound l.peers)) l.sender) l.receiver ≡ true

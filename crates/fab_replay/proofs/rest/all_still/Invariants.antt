use Rattle.std.proofs.Common.{◌≡◌, drop}
use Rattle.fab_base.specs.declared.script.Bound.{Bound}
use Rattle.fab_replay.specs.Rest.{all_still}
use Rattle.fab_replay.specs.Seen.{actors_of}
use Rattle.fab_replay.proofs.rest.all_still.Given as goal

abbrev pub invariant-loop-number : goal.invariant-loop-number
invariant-loop-number l = (bound : Bound) → all_still (actors_of bound l.peers) l.number (actors_of bound (drop l.number l.peers)) ≡ all_still (actors_of bound l.peers) 0 (actors_of bound l.peers)

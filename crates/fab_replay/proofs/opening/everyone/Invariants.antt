use Rattle.std.proofs.Common.{◌≡◌, Some, map}
use Rattle.fab_model.specs.Calls.{upto}
use Rattle.fab_replay.proofs.opening.everyone.Given as goal

abbrev pub invariant-loop-peer : goal.invariant-loop-peer
invariant-loop-peer l = l.av.items ≡ map Some (upto l.peer)

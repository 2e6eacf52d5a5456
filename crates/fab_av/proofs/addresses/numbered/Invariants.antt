use Rattle.std.proofs.Common.{◌≡◌, map, Some}
use Rattle.fab_model.specs.Calls.{upto}
use Rattle.fab_av.proofs.addresses.numbered.Given as goal

abbrev pub invariant-loop-peer : goal.invariant-loop-peer
invariant-loop-peer l = l.all.items ≡ map Some (upto l.peer)

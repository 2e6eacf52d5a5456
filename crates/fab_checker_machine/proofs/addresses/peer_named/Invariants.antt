use Rattle.std.proofs.Common.{◌≡◌, None}
use Rattle.fab_model.specs.Calls.{peer_named}
use Rattle.fab_checker_machine.proofs.addresses.peer_named.Given as goal

abbrev pub invariant-loop-peer : goal.invariant-loop-peer
invariant-loop-peer l = peer_named l.peer l.name ≡ None

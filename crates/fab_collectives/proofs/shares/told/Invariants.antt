use Rattle.std.proofs.Common.{◌≡◌, ◌++◌, length}
use Rattle.fab_topology.specs.Rounds.{width}
use Rattle.fab_collectives.specs.Routes.{heard_within, topology_of}
use Rattle.fab_collectives.proofs.shares.told.Given as goal

abbrev pub invariant-loop-k : goal.invariant-loop-k
invariant-loop-k l = let topology = topology_of l.fn.work (length l.fn.own) in
    l.bytes.items ≡ l.fn.own ++ heard_within topology (length l.fn.own) l.fn.received (width topology l.fn.work.peers l.fn.round) l.k

use Rattle.std.proofs.Common.{◌≡◌, ◌++◌, length, map}
use Rattle.std.specs.List.{All}
use Rattle.fab_domain.specs.Domain.{AreReady, IsOpened, port_of}
use Rattle.fab_domain.proofs.opening.open_all.Given as goal

abbrev pub invariant-loop-alloc : goal.invariant-loop-alloc
invariant-loop-alloc l = record {
  ready : AreReady l.info.peers l.ports.items;
  ports : map port_of l.all.items ++ l.ports.items ≡ l.fn.ports.items;
  opened : All (IsOpened l.info l.selective) l.all.items;
}

abbrev pub decreases-loop-alloc : goal.decreases-loop-alloc
decreases-loop-alloc l = length l.ports.items

use Rattle.std.proofs.Common.{◌≡◌, length}
use Rattle.std.specs.List.{All}
use Rattle.fab_open.specs.Machine.{machine_held}
use Rattle.fab_finish.specs.Joined.{start}
use Rattle.fab_command_runs.proofs.peers.machines.Given as goal

abbrev pub invariant-loop-peer : goal.invariant-loop-peer
invariant-loop-peer l = (length l.all.items ≡ l._peer) × All (λ machine. machine_held machine ≡ start l.conf) l.all.items

use Rattle.std.proofs.Common.{◌≡◌, ◌+◌, length}
use Rattle.std.specs.List.{All}
use Rattle.fab_finish.specs.Joined.{start}
use Rattle.fab_rounds_tests.specs.Opening.{Begins}
use Rattle.fab_rounds_tests.proofs.opening.open.Given as goal

abbrev pub invariant-loop-peer : goal.invariant-loop-peer
invariant-loop-peer g l = record {
  machines : length l.machines.items + l.peer ≡ l.bound.script.conf.peers;
  start : All (λ m. g.C.Machine.held m ≡ start l.bound.script.conf) l.machines.items;
  ports : length l.ports.items + l.peer ≡ l.bound.script.conf.peers;
  begins : All (λ p. Begins l.bound.script.conf.peers (g.P.Port.peer_count p) (g.P.Port.outs p) (g.P.Port.ins p)) l.ports.items;
  count : length l.runners.items ≡ l.peer;
}

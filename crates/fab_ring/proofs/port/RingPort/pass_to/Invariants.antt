use Rattle.std.proofs.Common.{◌≡◌, ◌-◌, ◌≤◌}
use Rattle.fab_ring.specs.Ports.{part_of, SamePort}
use Rattle.fab_ring.proofs.port.RingPort.pass_to.Given as goal

abbrev pub invariant-loop-self : goal.invariant-loop-self
invariant-loop-self l = SamePort l.fn.self l.self × (part_of l.self ≡ part_of l.fn.self) × (l.self.turn ≤ l.peer)
    × (l.self.gots ≡ l.fn.self.gots) × (l.self.opened ≡ l.fn.self.opened) × (l.self.lent ≡ l.fn.self.lent) × (l.self.commands ≡ l.fn.self.commands) × (l.self.buffers ≡ l.fn.self.buffers)

abbrev pub decreases-loop-self : goal.decreases-loop-self
decreases-loop-self l = l.peer - l.self.turn

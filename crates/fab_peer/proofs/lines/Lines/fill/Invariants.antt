use Rattle.std.proofs.Common.{◌≡◌}
use Rattle.fab_peer.proofs.lines.Lines.fill.Given as goal

abbrev pub invariant-loop-at : goal.invariant-loop-at
invariant-loop-at l = l.self ≡ l.fn.self

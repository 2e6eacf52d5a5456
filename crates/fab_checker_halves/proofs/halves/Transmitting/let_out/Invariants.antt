use Rattle.std.proofs.Common.{◌≡◌, ◌<◌, length}
use Rattle.fab_model.specs.Sending.{letting_out}
use Rattle.fab_checker_halves.specs.Seen.{tx_of}
use Rattle.fab_checker_halves.proofs.halves.Transmitting.let_out.Given as goal

abbrev pub invariant-loop-held : goal.invariant-loop-held
invariant-loop-held l = (letting_out l.to l.held.items (tx_of l.self) ≡ letting_out l.fn.to l.fn.held.items (tx_of l.fn.self)) × (l.to ≡ l.fn.to) × (l.to < length l.self.accepted.items)

abbrev pub decreases-loop-held : goal.decreases-loop-held
decreases-loop-held l = length l.held.items

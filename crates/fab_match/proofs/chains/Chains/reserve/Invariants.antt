use Rattle.std.proofs.Common.{◌≡◌}
use Rattle.fab_match.proofs.Writes.{IsLonger}
use Rattle.fab_match.proofs.chains.Chains.reserve.Given as goal

abbrev pub invariant-loop : goal.invariant-loop
invariant-loop l = (l.self.heads ≡ l.fn.self.heads) × IsLonger l.fn.self.links.items l.self.links.items l.counter

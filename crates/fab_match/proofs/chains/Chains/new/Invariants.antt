use Rattle.fab_match.proofs.Writes.{AreAlone}
use Rattle.fab_match.proofs.chains.Chains.new.Given as goal

abbrev pub invariant-loop-head : goal.invariant-loop-head
invariant-loop-head l = AreAlone l.links.items l.head

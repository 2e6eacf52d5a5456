use Rattle.std.proofs.Common.{arith}
use Rattle.fab_match.proofs.list_matcher.ListMatcherMatcher.remove_posted.Goals as goal

pub invariant_of-self : goal.invariant_of-self
invariant_of-self c = record {
  posted = c.remove_pair.ensures.distinct;
  unexpected = c.self.invariant.unexpected;
  within = omega arith;
  reserved = omega arith;
}

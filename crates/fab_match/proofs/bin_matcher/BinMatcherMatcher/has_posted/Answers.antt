use Rattle.std.proofs.Common.{◌∙◌, ap}
use Rattle.fab_match.specs.Matcher.{Store, has_id}
use Rattle.fab_match.specs.Bucket.{cards}
use Rattle.fab_match.proofs.Matching.{has_id-pairs}
use Rattle.fab_match.proofs.bin_matcher.BinMatcherMatcher.has_posted.Goals as goal

pub returns : goal.returns
returns c = c.has.ensures ∙ (has_id-pairs c.args.id (cards c.self.inside.posted) ∙ ap (λ (s : Store). has_id c.args.id s.posted) c.self.view_is)

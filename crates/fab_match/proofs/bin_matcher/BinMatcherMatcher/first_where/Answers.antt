use Rattle.std.proofs.Common.{◌∙◌, ap}
use Rattle.std.specs.Prelude.{find}
use Rattle.std.specs.Option.{option_map}
use Rattle.fab_base.specs.declared.items.Want.{Want}
use Rattle.fab_match.specs.Matcher.{Store, ids}
use Rattle.fab_match.specs.declared.bucket.Card.{Card}
use Rattle.fab_match.specs.Bucket.{cards}
use Rattle.fab_match.proofs.Matching.{find-ids-pairs}
use Rattle.fab_match.proofs.bin_matcher.BinMatcherMatcher.first_where.Goals as goal

pub returns : goal.returns
returns g c =
    c.id_of.ensures
    ∙ (ap (option_map (λ (card : Card Want). card.id)) c.first.ensures
    ∙ (find-ids-pairs (g.T.IdTest.passes c.args.test.now) (cards c.self.inside.posted) ∙ ap (λ (s : Store). find (g.T.IdTest.passes c.args.test.now) (ids s.posted)) c.self.view_is))

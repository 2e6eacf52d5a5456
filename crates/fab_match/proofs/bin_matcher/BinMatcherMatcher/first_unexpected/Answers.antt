use Rattle.std.proofs.Common.{◌∙◌, ap}
use Rattle.std.specs.Option.{option_map}
use Rattle.fab_base.specs.declared.items.Sign.{Sign}
use Rattle.fab_match.specs.Signs.{fits}
use Rattle.fab_match.specs.Matcher.{Store, first_id}
use Rattle.fab_match.specs.declared.bucket.Card.{Card}
use Rattle.fab_match.specs.Bucket.{cards}
use Rattle.fab_match.proofs.Matching.{first_id-pairs}
use Rattle.fab_match.proofs.bin_matcher.BinMatcherMatcher.first_unexpected.Goals as goal

pub returns-clause-first : goal.returns-clause-first
returns-clause-first c =
    c.id_of.ensures
    ∙ (ap (option_map (λ (card : Card Sign). card.id)) c.first_arrived.ensures
    ∙ (first_id-pairs (λ sign. fits c.args.want.now sign) (cards c.self.inside.unexpected) ∙ ap (λ (s : Store). first_id (λ sign. fits c.args.want.now sign) s.unexpected) c.self.view_is))

use Rattle.std.proofs.Common.{◌∙◌, ap, arith}
use Rattle.std.specs.Option.{option_map}
use Rattle.fab_base.specs.declared.items.Want.{Want}
use Rattle.fab_match.specs.Signs.{fits}
use Rattle.fab_match.specs.Matcher.{Store, first_id}
use Rattle.fab_match.specs.declared.bucket.Card.{Card}
use Rattle.fab_match.specs.Bucket.{cards}
use Rattle.fab_match.proofs.Matching.{first_id-pairs}
use Rattle.fab_match.proofs.bin_matcher.BinMatcherMatcher.first_posted.Goals as goal

pub first_numbered-requires-clause-numbers : goal.first_numbered-requires-clause-numbers
first_numbered-requires-clause-numbers c = (c.self.inside.number, c.self.invariant.numbers (omega arith))

pub returns-then-self-clause-first : goal.returns-then-self-clause-first
returns-then-self-clause-first c =
    c.id_of.ensures
    ∙ (ap (option_map (λ (card : Card Want). card.id)) c.first.ensures
    ∙ (first_id-pairs (λ want. fits want c.args.sign.now) (cards c.self.inside.posted) ∙ ap (λ (s : Store). first_id (λ want. fits want c.args.sign.now) s.posted) c.self.view_is))

pub returns-clause-first : goal.returns-clause-first
returns-clause-first c =
    c.id_of-2.ensures
    ∙ (ap (option_map (λ (card : Card Want). card.id)) c.first_numbered.ensures
    ∙ (first_id-pairs (λ want. fits want c.args.sign.now) (cards c.self.inside.posted) ∙ ap (λ (s : Store). first_id (λ want. fits want c.args.sign.now) s.posted) c.self.view_is))

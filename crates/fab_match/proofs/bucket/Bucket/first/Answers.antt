use Rattle.std.proofs.Common.{◌∙◌}
use Rattle.fab_match.proofs.Keeping.{all_chain, card_of_all}
use Rattle.fab_match.proofs.bucket.Bucket.first.Goals as goal

pub first_of-requires : goal.first_of-requires
first_of-requires g c = all_chain c.args.self.now c.requires

pub returns : goal.returns
returns g c = c.card_at.ensures ∙ card_of_all c.args.self.now c.requires (λ card. g.T.Test.passes c.args.test.now card) c.first_of.result c.first_of.ensures

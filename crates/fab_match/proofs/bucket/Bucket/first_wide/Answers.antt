use Rattle.std.proofs.Common.{◌∙◌}
use Rattle.fab_match.proofs.Keeping.{the_chain, card_found}
use Rattle.fab_match.proofs.bucket.Bucket.first_wide.Goals as goal

pub first_of-requires : goal.first_of-requires
first_of-requires g c = the_chain c.args.self.now c.args.self.now.wide (λ card. card.wide) c.requires.kept.wide c.args.head c.requires.head

pub returns : goal.returns
returns g c =
    c.card_at.ensures ∙ card_found c.args.self.now c.args.self.now.wide (λ card. card.wide) c.requires.kept.wide c.args.head c.requires.head (λ card. g.T.Test.passes c.args.test.now card) c.first_of.result c.first_of.ensures

use Rattle.std.proofs.Common.{◌∙◌, ◌==◌, ap, is_some}
use Rattle.fab_match.specs.Bucket.{places}
use Rattle.fab_match.proofs.Filing.{any-listed}
use Rattle.fab_match.proofs.bucket.Bucket.has.Goals as goal

pub returns : goal.returns
returns g c = c.is_some.ensures ∙ (ap is_some c.place_of.ensures.first ∙ any-listed c.args.self.now.cards (λ card. card.id == c.args.id) (places c.args.self.now))

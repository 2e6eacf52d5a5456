use Rattle.std.proofs.Common.{◌∙◌, sym}
use Rattle.fab_match.proofs.Keeping.{length-cards}
use Rattle.fab_match.proofs.bucket.Bucket.len.Goals as goal

pub returns : goal.returns
returns g c = c.len.ensures ∙ sym (length-cards c.args.self.now c.requires)

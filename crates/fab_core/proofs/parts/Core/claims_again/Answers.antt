use Rattle.std.proofs.Common.{◌∙◌, sym}
use Rattle.fab_core.proofs.Judging.{both, not_both}
use Rattle.fab_core.proofs.parts.Core.claims_again.Goals as goal

pub returns-then-not-is_claim : goal.returns-then-not-is_claim
returns-then-not-is_claim g c = not_both _ _ (sym c.is_claim.ensures ∙ c.if-not-is_claim.true)

pub returns : goal.returns
returns g c = both _ _ _ (sym c.is_claim.ensures ∙ c.if-not-is_claim.false) c.has_claim.ensures

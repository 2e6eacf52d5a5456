use Rattle.std.proofs.Common.{◌∙◌, not, sym, ap}
use Rattle.std.proofs.lemmas.Bool.{or_left, or_right, or_from as neither}
use Rattle.fab_core.proofs.Judging.{first_of_two, none_of_two, second_of_two}
use Rattle.fab_core.proofs.parts.Core.seek_fault.Goals as goal

pub returns-then-not-may_receive : goal.returns-then-not-may_receive
returns-then-not-may_receive g c = first_of_two _ _ (ap not (sym c.may_receive.ensures ∙ c.if-not-may_receive.true))

pub returns-then-not-knows : goal.returns-then-not-knows
returns-then-not-knows g c = second_of_two _ _ (ap not (sym c.may_receive.ensures ∙ c.if-not-may_receive.false)) (or_left _ _ (ap not (sym c.knows.ensures ∙ c.if-not-knows.true)))

pub returns-then-claims_again : goal.returns-then-claims_again
returns-then-claims_again g c = second_of_two _ _ (ap not (sym c.may_receive.ensures ∙ c.if-not-may_receive.false)) (or_right _ _ (sym c.claims_again.ensures ∙ c.if-claims_again.true))

pub returns : goal.returns
returns g c =
    none_of_two _ _ (ap not (sym c.may_receive.ensures ∙ c.if-not-may_receive.false)) (neither _ _ (ap not (sym c.knows.ensures ∙ c.if-not-knows.false)) (sym c.claims_again.ensures ∙ c.if-claims_again.false))

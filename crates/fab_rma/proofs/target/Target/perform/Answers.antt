use Rattle.std.proofs.Common.{◌∙◌, sym, ap}
use Rattle.fab_rma.specs.Serving.{Serving}
use Rattle.fab_rma.proofs.Performing.{outcome_is, refused}
use Rattle.fab_rma.proofs.target.Target.perform.Goals as goal
use Rattle.fab_rma.proofs.target.Target.perform.Goals.{in-Done, in_default}

pub returns-clause-outcome : goal.returns-clause-outcome
returns-clause-outcome c = c.outcome-outcome.ensures ∙ sym (outcome_is c.args.self.now.regions c.args.head.now c.args.bytes.now)

pub returns-clause-bytes : goal.returns-clause-bytes
returns-clause-bytes c = elim c.match-outcome.branch [
  | in-Done w ↦ w.bytes-is ∙ w.done-bytes.ensures.bytes
  | in_default w ↦ w.bytes-is ∙ w.fill-bytes.ensures.bytes ∙ sym (ap (λ p. p.bytes) (refused c.args.self.now.regions c.args.head.now c.args.bytes.now (λ e. w.in_default.not-Done (c.outcome-outcome.ensures ∙ e))))
]

pub returns-clause-regions : goal.returns-clause-regions
returns-clause-regions c = elim c.match-outcome.branch [
  | in-Done w ↦ ap (λ (s : Serving). s.regions) (w.self-is ∙ w.done-bytes.ensures.rest)
  | in_default w ↦ ap (λ (s : Serving). s.regions) w.self-is ∙ ap (λ (s : Serving). s.regions) c.self.view_is ∙ sym (ap (λ p. p.regions) (refused c.args.self.now.regions c.args.head.now c.args.bytes.now (λ e. w.in_default.not-Done (c.outcome-outcome.ensures ∙ e))))
]

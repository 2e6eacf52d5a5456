use Rattle.std.proofs.Common.{refl, ap, ◌∙◌}
use Rattle.std.specs.Option.{option_map}
use Rattle.fab_mr.proofs.Keyed.{read_at}
use Rattle.fab_mr.proofs.regions.Regions.access.Goals as goal

pub returns-in-Some : goal.returns-in-Some
returns-in-Some c = ap (option_map (λ h. h.access)) c.in-Some.ensures.value ∙ read_at (λ h. h.access) (λ r. r.access) c.args.key (λ h. refl) c.self.inside.held.entries c.args.self.now c.self.view_is

pub returns-in-None : goal.returns-in-None
returns-in-None c = ap (option_map (λ h. h.access)) c.in-None.ensures.value ∙ read_at (λ h. h.access) (λ r. r.access) c.args.key (λ h. refl) c.self.inside.held.entries c.args.self.now c.self.view_is

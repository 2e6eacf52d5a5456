use Rattle.std.proofs.Common.{Some, refl, ap, ◌∙◌}
use Rattle.std.specs.Option.{option_map}
use Rattle.fab_mr.proofs.Keyed.{read_at}
use Rattle.fab_mr.proofs.regions.Regions.find.Goals as goal

pub returns-in-Some-clause-access : goal.returns-in-Some-clause-access
returns-in-Some-clause-access c = ap (option_map (λ h. h.access)) c.in-Some.ensures.value ∙ read_at (λ h. h.access) (λ r. r.access) c.args.key (λ h. refl) c.self.inside.held.entries c.args.self.now c.self.view_is

pub returns-in-Some-clause-bytes : goal.returns-in-Some-clause-bytes
returns-in-Some-clause-bytes c = ap (λ b. Some b) c.as_slice.ensures ∙ ap (option_map (λ h. h.buf)) c.in-Some.ensures.value ∙ read_at (λ h. h.buf) (λ r. r.bytes) c.args.key (λ h. refl) c.self.inside.held.entries c.args.self.now c.self.view_is

pub returns-in-None-clause-access : goal.returns-in-None-clause-access
returns-in-None-clause-access c = ap (option_map (λ h. h.access)) c.in-None.ensures.value ∙ read_at (λ h. h.access) (λ r. r.access) c.args.key (λ h. refl) c.self.inside.held.entries c.args.self.now c.self.view_is

pub returns-in-None-clause-bytes : goal.returns-in-None-clause-bytes
returns-in-None-clause-bytes c = ap (option_map (λ h. h.buf)) c.in-None.ensures.value ∙ read_at (λ h. h.buf) (λ r. r.bytes) c.args.key (λ h. refl) c.self.inside.held.entries c.args.self.now c.self.view_is

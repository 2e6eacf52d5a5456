use Rattle.std.proofs.Common.{Some, refl, ap, ◌∙◌}
use Rattle.std.specs.Option.{option_map}
use Rattle.fab_mr.proofs.Keyed.{read_at}
use Rattle.fab_mr.proofs.regions.Regions.bytes.Goals as goal

pub returns-in-Some : goal.returns-in-Some
returns-in-Some c = ap (λ b. Some b) c.as_slice.ensures ∙ ap (option_map (λ h. h.buf)) c.in-Some.ensures.value ∙ read_at (λ h. h.buf) (λ r. r.bytes) c.args.key (λ h. refl) c.self.inside.held.entries c.args.self.now c.self.view_is

pub returns-in-None : goal.returns-in-None
returns-in-None c = ap (option_map (λ h. h.buf)) c.in-None.ensures.value ∙ read_at (λ h. h.buf) (λ r. r.bytes) c.args.key (λ h. refl) c.self.inside.held.entries c.args.self.now c.self.view_is

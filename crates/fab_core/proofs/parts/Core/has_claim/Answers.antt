use Rattle.std.proofs.Common.{◌∙◌, ap}
use Rattle.std.specs.Prelude.{is_some}
use Rattle.fab_core.specs.Parts.{state_of}
use Rattle.fab_core.proofs.Judging.{claim_alike}
use Rattle.fab_core.proofs.parts.Core.has_claim.Goals as goal

pub returns : goal.returns
returns g c = c.is_some.ensures ∙ ap is_some c.claimed.ensures ∙ rw (← c.self.view_is) (claim_alike c.args.ctx (state_of (record { caps = c.self.inside.caps; selective = c.self.inside.selective; most_message = c.self.inside.most_message; av = c.self.inside.av; rx = c.self.inside.rx; tx = c.self.inside.tx; target = c.self.inside.target; cq = c.self.inside.cq; counters = c.self.inside.counters; calls = c.self.inside.calls; multis = c.self.inside.multis })))

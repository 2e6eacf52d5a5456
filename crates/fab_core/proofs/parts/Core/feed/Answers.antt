use Rattle.fab_core.proofs.Serves.{serving_grown}
use Rattle.fab_core.proofs.Together.{together_grown}
use Rattle.fab_core.proofs.parts.Core.feed.Goals as goal

pub invariant_of-self : goal.invariant_of-self
invariant_of-self g c = rw c.fill.ensures (c.self.invariant.0, c.self.invariant.1, together_grown _ c.self.invariant.2 c.args.source c.args.bytes.now, serving_grown c.self.inside.rx c.self.inside.target c.self.invariant.3 c.args.source c.args.bytes.now, c.self.invariant.4, c.self.invariant.5)

use Rattle.fab_core.proofs.Lasting.{accepting_lent}
use Rattle.std.proofs.Common.{refl}
use Rattle.fab_core.proofs.Together.{sent_accepting, together_called}
use Rattle.fab_core.proofs.parts.Core.accept_copy.Goals as goal

pub invariant_of-self : goal.invariant_of-self
invariant_of-self g c = rw (c.accept_copied.ensures, c.call.ensures) (c.self.invariant.0, c.self.invariant.1, together_called _ _ c.self.invariant.2 refl (sent_accepting _ _ _) refl refl refl refl, c.self.invariant.3, accepting_lent c.self.inside.rx.rx c.self.inside.rx.multis c.self.inside.tx.tx c.self.inside.cq c.self.inside.calls c.self.inside.multis c.self.invariant.4 _ _ c.of-about.ensures, c.self.invariant.5)

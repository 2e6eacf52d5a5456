use Rattle.fab_core.proofs.Lasting.{lent_begins}
use Rattle.std.proofs.Common.{sym, ap, arith}
use Rattle.fab_rx.specs.Arriving.{Arriving}
use Rattle.fab_tx.specs.Transit.{Transit}
use Rattle.fab_core.proofs.Serves.{serving_begins}
use Rattle.fab_core.proofs.Together.{begins}
use Rattle.fab_core.proofs.parts.Core.new.Goals as goal

pub invariant_of-result : goal.invariant_of-result
invariant_of-result g c = (
  sym (ap (λ (v : Transit). v.most) c.in-Ok.ensures.tx),
  sym (ap (λ (v : Arriving). v.most) c.in-Ok.ensures.rx),
  begins _ c.peers.result c.args.info.now.rx c.args.info.now.tx (rw c.in-Ok.ensures.cq c.requires.size) c.in-Ok.ensures.rx c.in-Ok.ensures.tx (sym c.peers.ensures) c.in-Ok.ensures.calls c.known.ensures,
  serving_begins _ _ c.peers.result (ap (λ (v : Arriving). v.begun) c.in-Ok.ensures.rx) c.in-Ok.ensures.target,
  lent_begins _ _ _ _ _ c.peers.result c.args.info.now.rx c.args.info.now.tx c.args.info.now.cq _ c.in-Ok.ensures.rx c.in-Ok.ensures.tx c.in-Ok.ensures.cq c.in-Ok.ensures.calls c.in-Ok.ensures.multis,
  rw (c.in-Ok.ensures.multis, c.in-Ok.ensures.cq, c.peers.ensures) (omega arith),
)

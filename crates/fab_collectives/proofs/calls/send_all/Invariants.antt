use Rattle.std.proofs.Common.{◌≡◌, length}
use Rattle.fab_collectives.specs.Routes.{tells_in}
use Rattle.fab_collectives.specs.Driving.{Tells}
use Rattle.fab_collectives.proofs.Driving.{Upto}
use Rattle.fab_collectives.proofs.calls.send_all.Given as goal

abbrev pub invariant-loop-k : goal.invariant-loop-k
invariant-loop-k g l = record {
  at : l.sent ≡ l.k;
  upto : Upto (Tells g.E.Sees.fixed l.fn.work l.fn.own l.fn.received) (λ k. tells_in l.fn.work (length l.fn.own) k) l.fn.sent l.k l.fn.due (g.E.Sees.seen l.fn.endpoint) (g.E.Sees.seen l.endpoint);
}

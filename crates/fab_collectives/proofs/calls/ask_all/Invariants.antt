use Rattle.std.proofs.Common.{◌≡◌}
use Rattle.fab_collectives.specs.Routes.{hears_in, rounds_in}
use Rattle.fab_collectives.specs.Driving.{Asks}
use Rattle.fab_collectives.proofs.Driving.{Upto}
use Rattle.fab_collectives.proofs.calls.ask_all.Given as goal

abbrev pub invariant-loop-k : goal.invariant-loop-k
invariant-loop-k g l = record {
  at : l.asked ≡ l.k;
  upto : Upto (Asks l.fn.work l.fn.len) (λ k. hears_in l.fn.work l.fn.len k) l.fn.asked l.k (rounds_in l.fn.work l.fn.len) (g.E.Sees.seen l.fn.endpoint) (g.E.Sees.seen l.endpoint);
}

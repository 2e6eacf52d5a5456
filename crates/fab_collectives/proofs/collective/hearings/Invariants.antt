use Rattle.std.proofs.Common.{◌≡◌, map}
use Rattle.std.specs.List.{range_with_len}
use Rattle.fab_collectives.specs.Routes.{hears_in}
use Rattle.fab_collectives.proofs.collective.hearings.Given as goal

abbrev pub invariant-loop-k : goal.invariant-loop-k
invariant-loop-k l = l.all.items ≡ map (λ k. hears_in l.fn.work l.fn.len k) (range_with_len 0 l.k)

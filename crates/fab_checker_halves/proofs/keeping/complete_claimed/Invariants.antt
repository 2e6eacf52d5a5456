use Rattle.std.proofs.Common.{◌≡◌, ◌++◌, map, take, drop}
use Rattle.fab_model.specs.Arrivals.{completed}
use Rattle.fab_checker_halves.proofs.keeping.complete_claimed.Given as goal

abbrev pub invariant-loop-place : goal.invariant-loop-place
invariant-loop-place l = l.claimed.items ≡ map (λ c. (c.0, completed l.source l.bytes c.1)) (take l.place l.initial.claimed.items) ++ drop l.place l.initial.claimed.items

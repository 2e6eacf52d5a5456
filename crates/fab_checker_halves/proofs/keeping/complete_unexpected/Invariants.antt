use Rattle.std.proofs.Common.{◌≡◌, ◌++◌, map, take, drop}
use Rattle.fab_model.specs.Arrivals.{completed}
use Rattle.fab_checker_halves.proofs.keeping.complete_unexpected.Given as goal

abbrev pub invariant-loop-place : goal.invariant-loop-place
invariant-loop-place l = l.unexpected.items ≡ map (completed l.source l.bytes) (take l.place l.initial.unexpected.items) ++ drop l.place l.initial.unexpected.items

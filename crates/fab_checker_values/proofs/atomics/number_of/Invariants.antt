use Rattle.std.proofs.Common.{◌≡◌, ◌-◌, drop, length}
use Rattle.fab_model.specs.Target.{number_of}
use Rattle.fab_checker_values.proofs.atomics.number_of.Given as goal

abbrev pub invariant-loop-at : goal.invariant-loop-at
invariant-loop-at l = l.number ≡ number_of (drop (length l.bytes - l.at) l.bytes)

use Rattle.std.proofs.Common.{◌≡◌, ◌++◌, length, map, take, drop}
use Rattle.std.specs.Prelude.{vec_capacity}
use Rattle.fab_settling.specs.Members.{one_read}
use Rattle.fab_settling.proofs.places.move_up.Given as goal

abbrev pub invariant-loop-k : goal.invariant-loop-k
invariant-loop-k l = (l.places.items ≡ map one_read (take l.k l.fn.places.items) ++ drop l.k l.fn.places.items) × (length l.places.items ≡ length l.fn.places.items) × (vec_capacity l.places ≡ vec_capacity l.fn.places)

use Rattle.std.proofs.Common.{◌≡◌, ◌<◌, ◌-◌, ◌^◌, length, drop}
use Rattle.fab_model.specs.Target.{number_of}
use Rattle.fab_spell.proofs.values.number_of.Given as goal

abbrev pub invariant-loop-i : goal.invariant-loop-i
invariant-loop-i l = (l.number ≡ number_of (drop l.i l.bytes)) × (l.number < 256 ^ (length l.bytes - l.i))

use Rattle.std.proofs.Common.{◌≡◌, ◌++◌, drop, string_bytes}
use Rattle.fab_command_runs.specs.Texts.{rows}
use Rattle.fab_command_runs.proofs.writing.add_rows.Given as goal

abbrev pub invariant-loop-i : goal.invariant-loop-i
invariant-loop-i l = string_bytes l.out ++ rows l.i (drop l.i l.values) ≡ string_bytes l.initial.out ++ rows 0 l.values

use Rattle.std.proofs.Common.{◌≡◌, ◌++◌, drop, string_bytes}
use Rattle.fab_chart.specs.Escaped.{escaped}
use Rattle.fab_chart.proofs.picture.add_escaped.Given as goal

abbrev pub invariant-loop-byte : goal.invariant-loop-byte
invariant-loop-byte l =
    string_bytes l.out ++ escaped (drop l.byte-index l.bytes) ≡ string_bytes l.initial.out ++ escaped l.bytes

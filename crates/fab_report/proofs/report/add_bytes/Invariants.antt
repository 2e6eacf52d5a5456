use Rattle.std.proofs.Common.{◌≡◌, ◌++◌, drop, string_bytes}
use Rattle.fab_model.specs.Words.{hex}
use Rattle.fab_report.proofs.report.add_bytes.Given as goal

abbrev pub invariant-loop-byte : goal.invariant-loop-byte
invariant-loop-byte l =
    string_bytes l.out ++ hex (drop l.byte-index l.bytes) ≡ string_bytes l.initial.out ++ hex l.bytes

use Rattle.std.proofs.Common.{◌≡◌, ◌++◌, length, drop, string_bytes}
use Rattle.fab_model.specs.Words.{text_of}
use Rattle.fab_model.specs.Report.{done_lines}
use Rattle.fab_report.proofs.report.add_done_lines.Given as goal

abbrev pub invariant-loop-line : goal.invariant-loop-line
invariant-loop-line l =
    string_bytes l.out ++ text_of (done_lines (drop (length l.yielded) l.lines) (drop (length l.yielded) l.results))
    ≡ string_bytes l.initial.out ++ text_of (done_lines l.lines l.results)

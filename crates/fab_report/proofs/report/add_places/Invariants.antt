use Rattle.std.proofs.Common.{◌≡◌, ◌++◌, drop, string_bytes}
use Rattle.fab_kept.specs.Places.{somes}
use Rattle.fab_report.specs.Texts.{left_text}
use Rattle.fab_report.proofs.report.add_places.Given as goal

abbrev pub invariant-loop-place : goal.invariant-loop-place
invariant-loop-place l =
    string_bytes l.out ++ left_text (somes (drop l.place-index l.places)) ≡ string_bytes l.initial.out ++ left_text (somes l.places)

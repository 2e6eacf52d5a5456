use Rattle.std.proofs.Common.{◌≡◌, take, map}
use Rattle.fab_model.specs.Replay.{bind_line}
use Rattle.fab_script.proofs.bound_lines.bind_lines.Given as goal

abbrev pub invariant-loop-line : goal.invariant-loop-line
invariant-loop-line l = l.copies.items ≡ map (bind_line l.bound) (take l.line-index l.lines)

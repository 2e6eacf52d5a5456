use Rattle.std.proofs.Common.{◌≡◌, ◌++◌, flat_map, string_bytes}
use Rattle.fab_model.specs.Calls.{upto}
use Rattle.fab_model.specs.Words.{text_of}
use Rattle.fab_workloads.specs.Text.{rank_lines}
use Rattle.fab_command_runs.proofs.ranks.add_ranks.Given as goal

abbrev pub invariant-loop-r : goal.invariant-loop-r
invariant-loop-r g l = string_bytes l.out ≡ string_bytes l.initial.out ++ text_of (flat_map (rank_lines l.script.rounds) (upto l.r))

use Rattle.std.proofs.Common.{◌≡◌, ◌≤◌, ◌*◌, ◌++◌, drop, length, map, string_bytes, take}
use Rattle.fab_model.specs.Words.{text_of}
use Rattle.fab_workloads.specs.Plan.{rounds_ops}
use Rattle.fab_workloads.specs.Text.{round_words}
use Rattle.fab_command_runs.proofs.texts.add_rounds.Given as goal

abbrev pub invariant-loop-round : goal.invariant-loop-round
invariant-loop-round l =
    (string_bytes l.out ++ text_of (map round_words (drop l.round-index l.script.rounds)) ≡ string_bytes l.initial.out ++ text_of (map round_words l.script.rounds))
    × (l.done ≡ length (rounds_ops l.script.peers 1 l.r (take l.round-index l.script.rounds)))
    × (l.done ≤ 96 * l.round-index)

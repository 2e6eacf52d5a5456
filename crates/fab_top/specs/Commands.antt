-- Words that are no command.
--     IsNoCommand words      the words are of no form: none of `script`, `info`, `replay`, `window` and `coll`, nor that of a workload (`pingpong`, `bandwidth` or `gen`)
use Rattle.std.specs.Prelude.{◌≡◌, ℕ, List, None}
use Rattle.fab_command_runs.specs.Files.{coll_file}
use Rattle.fab_outside.specs.Commands.{info_caps, replay_files, script_file}
use Rattle.fab_command_runs.specs.Commands.{window_of}
use Rattle.fab_workloads.specs.Commands.{workload_of}

abbrev pub IsNoCommand : List (List ℕ) → Type 0
IsNoCommand words = (script_file words ≡ None) × (info_caps words ≡ None) × (workload_of words ≡ None) × (replay_files words ≡ None) × (window_of words ≡ None) × (coll_file words ≡ None)

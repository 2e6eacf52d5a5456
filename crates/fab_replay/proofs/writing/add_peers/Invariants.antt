use Rattle.std.proofs.Common.{◌≡◌, ◌++◌, string_bytes}
use Rattle.fab_model.specs.Report.{all_lines}
use Rattle.fab_model.specs.Words.{text_of}
use Rattle.fab_replay.specs.Seen.{actors_of, steps_of}
use Rattle.fab_replay.proofs.Parts.{parts_from}
use Rattle.fab_replay.proofs.writing.add_peers.Given as goal

-- what is written, and the parts that are left, are the whole
abbrev pub invariant-loop-number : goal.invariant-loop-number
invariant-loop-number l = string_bytes l.out ++ parts_from l.bound l.number l.peers ≡ string_bytes l.fn.out ++ text_of (all_lines 0 (actors_of l.bound l.peers) (steps_of l.peers))

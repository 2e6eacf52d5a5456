use Rattle.std.proofs.Common.{◌≡◌, ◌++◌, map, string_bytes}
use Rattle.fab_model.specs.Report.{all_lines}
use Rattle.fab_model.specs.Words.{text_of}
use Rattle.fab_finish.specs.Joined.{member_actor, member_steps}
use Rattle.fab_top.proofs.Parts.{parts_from}
use Rattle.fab_top.proofs.whole.add_peers.Given as goal

abbrev pub invariant-loop-number : goal.invariant-loop-number
invariant-loop-number g l = string_bytes l.out ++ parts_from l.number l.peers ≡ string_bytes l.fn.out ++ text_of (all_lines 0 (map member_actor l.peers) (map member_steps l.peers))

use Rattle.std.proofs.Common.{◌≡◌, None, replicate}
use Rattle.fab_link.specs.Plain.{fresh_lane}
use Rattle.fab_link.proofs.plain.PlainPort.new.Given as goal

abbrev pub invariant-loop-peer : goal.invariant-loop-peer
invariant-loop-peer l = l.lanes.items ≡ replicate l._peer (fresh_lane None None)

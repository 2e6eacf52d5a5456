use Rattle.std.proofs.Common.{take, ◌++◌, ◌≡◌}
use Rattle.std.specs.List.{concat}
use Rattle.fab_collectives.proofs.shares.joined_with.Given as goal

abbrev pub invariant-loop-message : goal.invariant-loop-message
invariant-loop-message l = l.bytes.items ≡ l.fn.first ++ concat (take l.message-index l.received)

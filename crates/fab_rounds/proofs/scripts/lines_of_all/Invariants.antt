use Rattle.std.proofs.Common.{◌≡◌, map}
use Rattle.fab_model.specs.Calls.{upto}
use Rattle.fab_model.specs.Replay.{lines_of}
use Rattle.fab_rounds.proofs.scripts.lines_of_all.Given as goal

abbrev pub invariant-loop-peer : goal.invariant-loop-peer
invariant-loop-peer l = map (λ lines. lines.items) l.lists.items ≡ map (lines_of l.bound) (upto l.peer)

use Rattle.std.proofs.Common.{◌≡◌, drop}
use Rattle.fab_model.specs.Peers.{first_some, released_buf}
use Rattle.fab_replay.proofs.completions.first_released.Given as goal

-- the first is among the rest
abbrev pub invariant-loop-w : goal.invariant-loop-w
invariant-loop-w l = first_some (released_buf l.call) (drop l.w-index l.written) ≡ first_some (released_buf l.call) l.written

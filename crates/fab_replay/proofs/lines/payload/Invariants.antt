use Rattle.std.proofs.Common.{◌≡◌, length, drop}
use Rattle.fab_model.specs.Replay.{payload}
use Rattle.fab_replay.proofs.lines.payload.Given as goal

-- the file is among those that are left
abbrev pub invariant-loop-payload : goal.invariant-loop-payload
invariant-loop-payload l = payload (drop (length l.yielded) l.payloads) (drop (length l.yielded) l.files) l.id ≡ payload l.payloads l.files l.id

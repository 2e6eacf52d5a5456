use Rattle.std.proofs.Common.{◌≡◌, ℕ, ◌≤◌, length, take, drop}
use Rattle.std.specs.Io.KnownBytes.{append_known}
use Rattle.fab_outside.proofs.writing.write_all.Given as goal

abbrev pub invariant-loop-rest : goal.invariant-loop-rest
invariant-loop-rest g l =
    (n : ℕ) × (n ≤ length l.bytes) × (l.rest ≡ drop n l.bytes)
    × (g.S.Sink.faults l.initial.sink ≤ g.S.Sink.faults l.sink)
    × (g.S.Sink.bytes l.sink ≡ append_known (g.S.Sink.bytes l.initial.sink) (take n l.bytes))

abbrev pub decreases-loop-rest : goal.decreases-loop-rest
decreases-loop-rest g l = length l.rest

use Rattle.std.proofs.Common.{length, ◌++◌, ◌+◌, ◌≡◌}
use Rattle.fab_workloads.specs.Grammar.{read_all, readable}
use Rattle.fab_workloads.specs.Reading.{unless}
use Rattle.fab_workloads.proofs.Joining.{joined}
use Rattle.fab_workloads.proofs.shares.read_each.Given as goal

abbrev pub invariant-loop : goal.invariant-loop
invariant-loop l = (length l.fn.words ≡ l.counter + length l.words) × (readable l.written l.fn.words ≡ l.shares ++ readable l.written l.words)
    × (read_all l.written l.fn.words ≡ joined (unless l.wrong l.shares) (read_all l.written l.words))

use Rattle.std.proofs.Common.{length}
use Rattle.fab_script.proofs.GrammarLemmas.{Progress}
use Rattle.fab_script.proofs.grammar.read.Given as goal

abbrev pub invariant-loop-number : goal.invariant-loop-number
invariant-loop-number l = Progress l.bytes l.lines l.reader

abbrev pub decreases-loop-number : goal.decreases-loop-number
decreases-loop-number l = length l.lines.1

use Rattle.std.proofs.Common.{◌≡◌, length}
use Rattle.fab_grammar.specs.Options.{value_after}
use Rattle.fab_grammar.proofs.options.value_after.Given as goal

abbrev pub invariant-loop-word : goal.invariant-loop-word
invariant-loop-word l = value_after l.front l.words ≡ value_after l.front l.args

abbrev pub decreases-loop-word : goal.decreases-loop-word
decreases-loop-word l = length l.words

use Rattle.std.proofs.Common.{◌≡◌, length}
use Rattle.fab_grammar.specs.Options.{has_word}
use Rattle.fab_grammar.proofs.options.has_word.Given as goal

abbrev pub invariant-loop-word : goal.invariant-loop-word
invariant-loop-word l = has_word l.name l.words ≡ has_word l.name l.args

abbrev pub decreases-loop-word : goal.decreases-loop-word
decreases-loop-word l = length l.words

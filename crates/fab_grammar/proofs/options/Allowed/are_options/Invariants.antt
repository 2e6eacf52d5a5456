use Rattle.std.proofs.Common.{◌≡◌, length}
use Rattle.fab_grammar.specs.Options.{are_options}
use Rattle.fab_grammar.proofs.options.Allowed.are_options.Given as goal

abbrev pub invariant-loop-word : goal.invariant-loop-word
invariant-loop-word l = are_options l.allowed l.words ≡ are_options l.fn.self l.args

abbrev pub decreases-loop-word : goal.decreases-loop-word
decreases-loop-word l = length l.words

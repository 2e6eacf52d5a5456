use Rattle.std.proofs.Common.{◌≡◌, length}
use Rattle.fab_words.specs.Rows.{blank_split}
use Rattle.fab_words.proofs.words.Words.next.Given as goal

abbrev pub invariant-loop-self : goal.invariant-loop-self
invariant-loop-self l = blank_split l.self-inside.rest.now ≡ l.fn.self

abbrev pub decreases-loop-self : goal.decreases-loop-self
decreases-loop-self l = length l.self-inside.rest.now

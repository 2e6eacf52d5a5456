use Rattle.std.proofs.Common.{◌≡◌, length}
use Rattle.std.specs.List.{slice_split}
use Rattle.fab_grammar.specs.Atomics.{add_elements, read_elements}
use Rattle.fab_grammar.specs.Capabilities.{is_comma}
use Rattle.fab_grammar.proofs.atomics.read_elements.Given as goal

abbrev pub invariant-loop-value : goal.invariant-loop-value
invariant-loop-value l = add_elements l.num l.bytes.items (slice_split is_comma l.list) ≡ read_elements l.num l.word

abbrev pub decreases-loop-value : goal.decreases-loop-value
decreases-loop-value l = length l.list

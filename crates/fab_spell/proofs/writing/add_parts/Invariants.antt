use Rattle.std.proofs.Common.{◌≡◌, ◌++◌, drop, string_bytes}
use Rattle.fab_spell.specs.Print.{items_of, items_text}
use Rattle.fab_spell.proofs.writing.add_parts.Given as goal

abbrev pub invariant-loop-number : goal.invariant-loop-number
invariant-loop-number l = string_bytes l.out ++ items_text (items_of l.number (drop l.number l.parts)) ≡ string_bytes l.initial.out ++ items_text (items_of 0 l.parts)

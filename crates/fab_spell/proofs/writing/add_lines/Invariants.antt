use Rattle.std.proofs.Common.{◌≡◌, ◌++◌, drop, map, string_bytes}
use Rattle.fab_grammar.specs.declared.items.Item.TheVariants.{Does}
use Rattle.fab_spell.specs.Print.{items_text}
use Rattle.fab_spell.proofs.writing.add_lines.Given as goal

abbrev pub invariant-loop-line : goal.invariant-loop-line
invariant-loop-line l =
    string_bytes l.out ++ items_text (map Does (drop l.line-index l.lines)) ≡ string_bytes l.initial.out ++ items_text (map Does l.lines)

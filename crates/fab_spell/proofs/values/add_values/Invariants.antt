use Rattle.std.proofs.Common.{◌≡◌, ◌++◌, ◌/◌, length, string_bytes}
use Rattle.fab_base.specs.Elements.{element_size}
use Rattle.fab_spell.specs.Elements.{value_words, values_word}
use Rattle.fab_spell.proofs.Commas.{after_separator}
use denote.Text.{Utf8}
use denote.Shadow.{shadow}
use Rattle.fab_spell.proofs.values.add_values.Given as goal

abbrev pub invariant-loop-rest : goal.invariant-loop-rest
invariant-loop-rest l =
    shadow (Utf8 l.separator)
    × (string_bytes l.out ++ after_separator l.separator (value_words (length l.rest / element_size l.num) l.num l.rest) ≡ string_bytes l.fn.out ++ values_word l.num l.values)

abbrev pub decreases-loop-rest : goal.decreases-loop-rest
decreases-loop-rest l = length l.rest

-- How the operand of an atomic is written (fi_atomic(3)).
--     value_word num n           an element, with `-` where it is below zero in two's complement
--     values_word num bytes      the elements of these bytes, the lowest byte of each first, joined by commas
--     count_word n               how many elements are read, `*N`
use Rattle.std.specs.Prelude.{ℕ, zero, suc, ◌-◌, ◌/◌, if◌then◌else◌, nat_le, List, [], ◌∷◌, ◌++◌, length, take, drop, codes, decimal}
use Rattle.std.specs.List.{join_with_byte}
use Rattle.fab_base.specs.Elements.{element_size}
use Rattle.fab_base.specs.declared.items.Num.{Num}
use Rattle.fab_model.specs.Target.{number_of, span}
use Rattle.fab_grammar.specs.Atomics.{greatest}

-- an element above the greatest stands for what is below zero
abbrev pub value_word : Num → ℕ → List ℕ
value_word num n = if nat_le n (greatest num) then decimal n else codes "-" ++ decimal (span num - n)

-- so many elements, one after another
abbrev pub value_words : ℕ → Num → List ℕ → List (List ℕ)
value_words zero num bytes = []
value_words (suc left) num bytes = value_word num (number_of (take (element_size num) bytes)) ∷ value_words left num (drop (element_size num) bytes)

-- bytes after the last whole element are left out
unfoldable pub values_word : Num → List ℕ → List ℕ
values_word num bytes = join_with_byte 44 (value_words (length bytes / element_size num) num bytes)

abbrev pub count_word : ℕ → List ℕ
count_word n = codes "*" ++ decimal n

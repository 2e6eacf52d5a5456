-- Which messages a receive may take (fi_tagged(3), "fi_trecv": source, tag and ignore mask), and the first of a list that passes a test.
--     matches want s head      a receive that wants this may take a message of peer s with this head
--     find test xs, position test xs      std's: the first member that passes, and its place
--     remove_first test xs, change_first test f xs      the list without it; with f of it in its place
use Rattle.std.specs.Prelude.{ℕ, Bool, true, false, not, ◌&&◌, ◌||◌, ◌==◌, List, [], ◌∷◌, Option, Some, None, bit_or}
use Rattle.std.specs.Bool.{beq}
use Rattle.fab_base.specs.Kinds.{is_message, is_tagged}
use Rattle.fab_base.specs.declared.items.ItemHead.{ItemHead}
use Rattle.fab_base.specs.declared.items.Want.{Want}
use Rattle.fab_base.specs.declared.operations.Arrival.{Arrival}

-- the source is unspecified, or it is s
abbrev pub source_fits : Option ℕ → ℕ → Bool
source_fits None s = true
source_fits (Some wanted) s = wanted == s

-- the tags are equal in every bit where `ignore` is 0
abbrev pub tag_fits : Want → ℕ → Bool
tag_fits want tag = bit_or want.tag want.ignore == bit_or tag want.ignore

abbrev pub matches : Want → ℕ → ItemHead → Bool
matches want s head = is_message head.kind && beq want.tagged (is_tagged head.kind) && source_fits want.source s && (not want.tagged || tag_fits want head.tag)

-- the receive may take this arrival
abbrev pub takes : Want → Arrival → Bool
takes want a = matches want a.source a.head

abbrev pub remove_first : {X : Type 0} → (X → Bool) → List X → List X
remove_first test [] = []
remove_first test (x ∷ xs) = elim (test x) [ true ↦ xs | false ↦ x ∷ remove_first test xs ]

abbrev pub change_first : {X : Type 0} → (X → Bool) → (X → X) → List X → List X
change_first test f [] = []
change_first test f (x ∷ xs) = elim (test x) [ true ↦ f x ∷ xs | false ↦ x ∷ change_first test f xs ]

-- Lines that break no rule, given by their words.
--     Reads before number rows after      none of these lines breaks a rule, the first of which has this number; after is what is said with them
use Rattle.std.specs.Prelude.{◌≡◌, ℕ, ◌+◌, List, [], ◌∷◌, None}
use Rattle.fab_grammar.specs.Before.{Before}
use Rattle.fab_grammar.specs.Rules.{word_rules, with_words}
use Rattle.fab_words.specs.Words.{first_of}

abbrev pub Reads : Before → ℕ → List (List (List ℕ)) → Before → Type 0
Reads before number [] after = before ≡ after
Reads before number (row ∷ rows) after = (first_of (word_rules before number row) ≡ None) × Reads (with_words before number row) (number + 1) rows after

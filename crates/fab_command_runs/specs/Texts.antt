-- The text that `window NUMBER PEERS WORDS ADDS` writes.
use Rattle.std.specs.Prelude.{ℕ, ◌+◌, List, [], ◌∷◌, ◌++◌, codes, decimal}
use Rattle.fab_command_runs.specs.Planned.{totals}

abbrev pub first_row : ℕ → ℕ → ℕ → List ℕ
first_row words peers adds = codes "window words " ++ decimal words ++ codes " peers " ++ decimal peers ++ codes " adds " ++ decimal adds ++ codes "\n"

abbrev pub row : ℕ → ℕ → List ℕ
row i v = codes "word " ++ decimal i ++ codes " " ++ decimal v ++ codes "\n"

-- the rows of these values, from the i-th on
abbrev pub rows : ℕ → List ℕ → List ℕ
rows i [] = []
rows i (v ∷ vs) = row i v ++ rows (i + 1) vs

-- a function of the four words alone
abbrev pub text : ℕ → ℕ → ℕ → ℕ → List ℕ
text number peers words adds = first_row words peers adds ++ rows 0 (totals number peers words adds)

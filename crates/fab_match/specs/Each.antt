-- What holds of each member of a list, by recursion on it.
--     Each P xs        P holds of each
--     Lacks x xs       no member is x
--     IsDistinct xs    no two members are the same
--     others x xs      the members that are not x
use Rattle.std.specs.Prelude.{◌≢◌, ◌==◌, ℕ, not, List, [], ◌∷◌, filter}

abbrev pub Each : {X : Type 0} → (X → Type 0) → List X → Type 0
Each P [] = Unit {0}
Each P (x ∷ xs) = P x × Each P xs

abbrev pub Lacks : ℕ → List ℕ → Type 0
Lacks x xs = Each (λ y. y ≢ x) xs

abbrev pub IsDistinct : List ℕ → Type 0
IsDistinct [] = Unit {0}
IsDistinct (x ∷ xs) = Lacks x xs × IsDistinct xs

abbrev pub others : ℕ → List ℕ → List ℕ
others x xs = filter (λ y. not (y == x)) xs

-- A text that is written piece by piece.
use Rattle.std.proofs.Common.{◌≡◌, ℕ, ◌+◌, ◌≤◌, List, [], ◌∷◌, ◌++◌, ◌<◌, length, drop, get_or, slice_get, Bor, Option, Some, None, refl, sym, ap, ◌∙◌, append_assoc}
use Rattle.std.specs.Option.{option_copied}
use Rattle.std.specs.Slice.{IsItemAt}
use Rattle.std.proofs.lemmas.Option.{slice_get_past, slice_get_read}
use Rattle.std.proofs.lemmas.List.{drop_more, append-nil}
use Rattle.std.proofs.Math.ListN.{drop_of_length-le}

-- A text that is f of a list, piece by piece: after a step of the loop over the list, what is written and f of the rest are still the whole.
pub piece_more : {X : Type 0} (f : List X → List ℕ) (g : X → List ℕ) → ((x : X) (xs : List X) → f (x ∷ xs) ≡ g x ++ f xs) → (xs : List X) (i : ℕ) (x : X) (from now next : List ℕ) → i < length xs → x ≡ get_or xs i x → now ++ f (drop i xs) ≡ from ++ f xs → next ≡ now ++ g x → next ++ f (drop (i + 1) xs) ≡ from ++ f xs
piece_more f g step xs i x from now next below is so_far wrote =
    let rest = drop (i + 1) xs in
    ap (λ text. text ++ f rest) wrote ∙ append_assoc now (g x) (f rest)
    ∙ ap (λ text. now ++ text) (sym (step x rest) ∙ ap (λ y. f (y ∷ rest)) is ∙ ap f (sym (drop_more xs i x below)))
    ∙ so_far

-- at the end of that loop the whole is written
pub pieces_all : {X : Type 0} (f : List X → List ℕ) → f [] ≡ [] → (xs : List X) (i : ℕ) (from now : List ℕ) → length xs ≤ i → now ++ f (drop i xs) ≡ from ++ f xs → now ≡ from ++ f xs
pieces_all f none xs i from now end so_far =
    sym (append-nil now) ∙ ap (λ rest. now ++ rest) (sym none ∙ ap f (sym (drop_of_length-le xs end))) ∙ so_far

-- what `get` of a slice lends is the item there
pub option_copied-get : {X : Type 0} (xs : List X) (i : ℕ) (item : Option (Bor X)) → IsItemAt xs i item → option_copied item ≡ slice_get xs i
option_copied-get xs i None is = sym (slice_get_past xs i is.3)
option_copied-get xs i (Some x) is = sym (slice_get_read xs (length xs) i x.now refl is.3.0 is.1)

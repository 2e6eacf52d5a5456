-- The payload file under a number.
use Rattle.std.proofs.Common.{◌≡◌, ℕ, ◌≤◌, ◌⊎◌, inl, inr, List, [], ◌∷◌, length, drop, min, refl, sym, ◌∙◌}
use Rattle.std.proofs.Math.ListN.{drop_of_length-le}
use Rattle.fab_base.specs.declared.script.Payload.{Payload}
use Rattle.fab_base.proofs.Numbers.{min_within as either_within}
use Rattle.fab_model.specs.Replay.{payload}

none_left : (ps : List Payload) (files : List (List ℕ)) (id : ℕ) → (ps ≡ []) ⊎ (files ≡ []) → payload ps files id ≡ []
none_left [] files id none = refl
none_left (p ∷ ps) [] id none = refl
none_left (p ∷ ps) (file ∷ files) id (inl none) = cc
none_left (p ∷ ps) (file ∷ files) id (inr none) = cc

one_empty : (ps : List Payload) (files : List (List ℕ)) (i : ℕ) → (length ps ≤ i) ⊎ (length files ≤ i) → (drop i ps ≡ []) ⊎ (drop i files ≡ [])
one_empty ps files i (inl short) = inl (drop_of_length-le ps short)
one_empty ps files i (inr short) = inr (drop_of_length-le files short)

-- at the end of a search there is none
pub no_file : (ps : List Payload) (files : List (List ℕ)) (id i : ℕ) → i ≡ min (length ps) (length files) → payload (drop i ps) (drop i files) id ≡ payload ps files id → [] ≡ payload ps files id
no_file ps files id i end same = sym (none_left (drop i ps) (drop i files) id (one_empty ps files i (either_within (length ps) (length files) i end))) ∙ same

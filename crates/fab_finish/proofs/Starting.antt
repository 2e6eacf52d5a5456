-- Peers at the start of their lines, and lists by place.
use Rattle.std.proofs.Common.{◌≡◌, ◌+◌, ℕ, zero, suc, List, [], ◌∷◌, length, map, drop, get_or, replicate, refl, sym, ap, ◌∙◌, arith}
use Rattle.std.specs.Prelude.{slice_index_or}
use Rattle.std.proofs.lemmas.List.{get_or-drop, drop-map}
use Rattle.fab_base.specs.declared.script.Conf.{Conf}
use Rattle.fab_base.specs.declared.script.Line.{Line}
pub use Rattle.fab_base.proofs.Lists.{all_the_same as same_at}
use Rattle.fab_model.specs.Peers.{Actor}
use Rattle.fab_model.specs.Replay.{newly}

-- a peer at the start of its lines
abbrev pub first_actor : Conf → List (List Line) → ℕ → Actor
first_actor conf lists p = newly conf (slice_index_or lists p [])

-- ---- lists by place

pub long : {X : Type 0} (n : ℕ) (x : X) → length (replicate n x) ≡ n
long zero x = refl
long (suc n) x = ap suc (long n x)

-- the list of the next peer, where the first n were taken
pub list_at : {X : Type 0} (of : X → List Line) (lists rest : List X) (n : ℕ) (lines : List Line) → rest ≡ drop n lists → lines ≡ get_or (map of rest) 0 [] → lines ≡ slice_index_or (map of lists) n []
list_at of lists rest n lines left first =
    let none : n + 0 ≡ n = omega arith in
    first ∙ ap (λ xs. get_or (map of xs) 0 []) left ∙ ap (λ xs. get_or xs 0 []) (sym (drop-map of n lists)) ∙ get_or-drop n (map of lists) 0 [] ∙ ap (λ k. get_or (map of lists) k []) none

drop_one : {X : Type 0} (n : ℕ) (xs : List X) → drop 1 (drop n xs) ≡ drop (suc n) xs
drop_one zero xs = refl
drop_one (suc n) [] = refl
drop_one (suc n) (x ∷ xs) = drop_one n xs

pub drop_more : {X : Type 0} (n : ℕ) (xs rest next : List X) → rest ≡ drop n xs → next ≡ drop 1 rest → next ≡ drop (n + 1) xs
drop_more n xs rest next e f =
    let one : suc n ≡ n + 1 = omega arith in
    f ∙ ap (drop 1) e ∙ drop_one n xs ∙ ap (λ m. drop m xs) one

-- The lines of a bound script's peers: its opening.
use Rattle.std.proofs.Common.{◌≡◌, ◌<◌, ℕ, zero, suc, List, [], ◌∷◌, ◌++◌, length, map, get_or, inl, inr, refl, sym, ap, ◌∙◌, arith}
use Rattle.std.proofs.lemmas.Bool.{cases_lt}
use Rattle.std.proofs.lemmas.List.{map-append, length-map}
use Rattle.fab_base.specs.declared.script.Bound.{Bound}
use Rattle.fab_base.specs.declared.script.Conf.{Conf}
use Rattle.fab_base.specs.declared.script.Line.{Line}
use Rattle.fab_model.specs.Calls.{upto}
use Rattle.fab_model.specs.Replay.{opening, lines_of, newly}
use Rattle.fab_model.proofs.Elements.{length-upto}
use Rattle.fab_finish.specs.Joined.{opened}

-- ---- the opening

front_of : {X : Type 0} (xs : List X) (y d : X) (k : ℕ) → k < length xs → get_or (xs ++ y ∷ []) k d ≡ get_or xs k d
front_of [] y d k below = absurd (omega (arith, below))
front_of (x ∷ xs) y d zero below = refl
front_of (x ∷ xs) y d (suc k) below = front_of xs y d k (omega (arith, below))

back_of : {X : Type 0} (xs : List X) (y d : X) (k : ℕ) → k ≡ length xs → get_or (xs ++ y ∷ []) k d ≡ y
back_of [] y d zero e = refl
back_of [] y d (suc k) e = absurd (omega (arith, e))
back_of (x ∷ xs) y d zero e = absurd (omega (arith, e))
back_of (x ∷ xs) y d (suc k) e = back_of xs y d k (omega (arith, e))

-- the list of a number
at_upto : {X : Type 0} (f : ℕ → X) (d : X) (n k : ℕ) → k < n → get_or (map f (upto n)) k d ≡ f k
at_upto f d zero k below = absurd (omega (arith, below))
at_upto f d (suc n) k below =
    let count : length (map f (upto n)) ≡ n = length-map (upto n) f ∙ length-upto n in
    let more : map f (upto n ++ n ∷ []) ≡ map f (upto n) ++ f n ∷ [] = map-append f (upto n) (n ∷ []) in
    ap (λ xs. get_or xs k d) more ∙ elim (cases_lt k n) [
      | inl less ↦ front_of (map f (upto n)) (f n) d k (omega (arith, less, count)) ∙ at_upto f d n k less
      | inr past ↦ (let is : k ≡ n = omega (arith, past, below) in back_of (map f (upto n)) (f n) d k (omega (arith, is, count)) ∙ ap f (sym is))
    ]

opened_is : (conf : Conf) (lists : List (List Line)) (lines : ℕ → List Line) → ((p : ℕ) → p < conf.peers → get_or lists p [] ≡ lines p) → opened conf lists ≡ map (λ p. newly conf (lines p)) (upto conf.peers)
opened_is conf lists lines each = below conf.peers each
  where
    below : (n : ℕ) → ((p : ℕ) → p < n → get_or lists p [] ≡ lines p) → map (λ p. newly conf (get_or lists p [])) (upto n) ≡ map (λ p. newly conf (lines p)) (upto n)
    below zero each = refl
    below (suc n) each =
        map-append (λ p. newly conf (get_or lists p [])) (upto n) (n ∷ []) ∙ ap (λ xs. xs ++ newly conf (get_or lists n []) ∷ []) (below n (λ p lt. each p (omega (arith, lt))))
        ∙ ap (λ own. map (λ p. newly conf (lines p)) (upto n) ++ newly conf own ∷ []) (each n (omega arith)) ∙ sym (map-append (λ p. newly conf (lines p)) (upto n) (n ∷ []))

-- the peers with these lines are those of the script's opening
pub opening_is : (b : Bound) → opened b.script.conf (map (lines_of b) (upto b.script.conf.peers)) ≡ opening b
unfolding opening
opening_is b = opened_is b.script.conf (map (lines_of b) (upto b.script.conf.peers)) (lines_of b) (λ p below. at_upto (lines_of b) [] b.script.conf.peers p below)

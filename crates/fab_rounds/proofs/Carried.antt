-- Peers that take a seat, and give it back.
use Rattle.std.proofs.Common.{◌≡◌, ◌<◌, ◌+◌, ℕ, zero, suc, Option, Some, List, [], ◌∷◌, ◌++◌, map, length, take, drop, get_or, set, refl, sym, ap, ◌∙◌, subst, arith, get_or-set_same, get_or-set_other}
use mathlib.Core.Logic.{dite}
use native.Mathlib.Decide.{ℕ_discrete}
use Rattle.std.proofs.lemmas.List.{drop-set, drop_more, take_more, map_push}
use Rattle.fab_rounds.specs.Rounds.{Each}

module _ {X S : Type 0} (f : X → Option S) where
  -- one more seat from the end
  pub seat_more : (peers : List X) (n : ℕ) (x : X) (s : S) → n < length peers → f x ≡ Some s → map f (drop n (set peers n x)) ≡ Some s ∷ map f (drop (n + 1) peers)
  seat_more peers n x s near is = ap (map f) (drop-set peers n x near) ∙ (λ j. is j ∷ map f (drop (n + 1) peers))

  pub taken_more : (old : List X) (n : ℕ) (d : X) (s : S) (items : List S) → n < length old → f (get_or old n d) ≡ Some s → map f (take n old) ≡ map (λ z. Some z) items → map f (take (n + 1) old) ≡ map (λ z. Some z) (items ++ s ∷ [])
  taken_more old n d s items near is before = ap (map f) (take_more old n d near) ∙ map_push f (take n old) (get_or old n d) ∙ (λ j. before j ++ is j ∷ []) ∙ sym (map_push (λ z. Some z) items s)

  -- the seat at a place
  pub seat_at : (xs : List X) (ss : List S) → map f xs ≡ map (λ z. Some z) ss → (k : ℕ) (d : X) → k < length xs → (s : S) × (f (get_or xs k d) ≡ Some s) × (k < length ss) × ((e : S) → get_or ss k e ≡ s)
  seat_at [] ss e k d near = absurd (omega arith)
  seat_at (x ∷ xs) [] e k d near = absurd (cc (e))
  seat_at (x ∷ xs) (s ∷ ss) e zero d near = let here : f x ≡ Some s = cc (e) in (s, here, omega arith, λ _. refl)
  seat_at (x ∷ xs) (s ∷ ss) e (suc k) d near = let rest : map f xs ≡ map (λ z. Some z) ss = cc (e) in let r = seat_at xs ss rest k d (omega arith) in (r.0, r.1, (let low = r.2 in omega arith), r.3)

  -- and who has it
  pub peer_at : (xs : List X) (ss : List S) → map f xs ≡ map (λ z. Some z) ss → (k : ℕ) (e : S) → k < length ss → (x : X) × (f x ≡ Some (get_or ss k e)) × (k < length xs) × ((d : X) → get_or xs k d ≡ x)
  peer_at xs [] e k s near = absurd (omega arith)
  peer_at [] (s ∷ ss) e k z near = absurd (cc (e))
  peer_at (x ∷ xs) (s ∷ ss) e zero z near = let here : f x ≡ Some s = cc (e) in (x, here, omega arith, λ _. refl)
  peer_at (x ∷ xs) (s ∷ ss) e (suc k) z near = let rest : map f xs ≡ map (λ z. Some z) ss = cc (e) in let r = peer_at xs ss rest k z (omega arith) in (r.0, r.1, (let low = r.2 in omega arith), r.3)

  pub as_many : (xs : List X) (ss : List S) → map f xs ≡ map (λ z. Some z) ss → length xs ≡ length ss
  as_many [] [] e = refl
  as_many [] (s ∷ ss) e = absurd (cc (e))
  as_many (x ∷ xs) [] e = absurd (cc (e))
  as_many (x ∷ xs) (s ∷ ss) e = let rest : map f xs ≡ map (λ z. Some z) ss = cc (e) in ap suc (as_many xs ss rest)

module _ {X : Type 0} where
  -- what is left of two lists begins with the same
  pub left_head : (new old : List X) (n : ℕ) (d : X) → n < length new → n < length old → drop n new ≡ drop n old → (get_or new n d ≡ get_or old n d) × (drop (n + 1) new ≡ drop (n + 1) old)
  left_head new old n d h g e = let both : get_or new n d ∷ drop (n + 1) new ≡ get_or old n d ∷ drop (n + 1) old = sym (drop_more new n d h) ∙ e ∙ drop_more old n d g in (cc, cc)

  -- what holds at each place holds after a change at one
  pub each_set : (R : X → X → Type 0) (old new : List X) (n : ℕ) (x : X) → length new ≡ length old → n < length new → Each R old new → ((d : X) → R (get_or old n d) (get_or new n d) → R (get_or old n d) x) → Each R old (set new n x)
  each_set R old new n x same near each step k d low = dite (ℕ_discrete k n)
      (λ e. subst (λ z. R (get_or old z d) (get_or (set new n x) z d)) (sym e) (subst (R (get_or old n d)) (sym (get_or-set_same new n x d near)) (step d (each n d (omega arith)))))
      (λ ne. subst (R (get_or old k d)) (sym (get_or-set_other new n k x d ne)) (each k d low))

  -- what looks the same at each place looks the same
  pub same_told : {Q : Type 0} (view : X → Q) (old new : List X) → length new ≡ length old → Each (λ a b. view b ≡ view a) old new → map view new ≡ map view old
  same_told view [] [] long each = refl
  same_told view [] (y ∷ new) long each = absurd (omega (arith, long))
  same_told view (x ∷ old) [] long each = absurd (omega (arith, long))
  same_told view (x ∷ old) (y ∷ new) long each =
      let here : view y ≡ view x = each zero x (omega arith) in
      let rest = same_told view old new (omega (arith, long)) (λ k d below. each (suc k) d (omega (arith, below))) in
      λ j. here j ∷ rest j

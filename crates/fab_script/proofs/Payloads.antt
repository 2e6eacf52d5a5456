-- The payload files of a script by their numbers.
use Rattle.std.proofs.Common.{◌≡◌, ℕ, suc, ◌+◌, Bool, true, false, cond, List, [], ◌∷◌, Some, None, get_or, refl, ap, sym, ◌∙◌, arith}
use Rattle.std.specs.Prelude.{position, ◌==◌}
use Rattle.std.specs.List.{position_from}
use Rattle.std.proofs.lemmas.Iterator.Adapters.{position_from-zero}
use Rattle.fab_base.specs.declared.script.Payload.{Payload}
use Rattle.fab_model.specs.Replay.{payload}

module _ (id : ℕ) where
  abbrev is_its : Payload → Bool
  is_its p = p.id == id

  step_some : (p : Payload) (ps : List Payload) (files : List (List ℕ)) (i j : ℕ) (b : Bool) → (p.id == id) ≡ b → cond b (Some i) (position_from is_its (i + 1) ps) ≡ Some j
      → ((rest : List (List ℕ)) → position_from is_its (i + 1) ps ≡ Some j → (k : ℕ) × (j ≡ i + 1 + k) × (payload ps rest id ≡ get_or rest k []))
      → (k : ℕ) × (j ≡ i + k) × (payload (p ∷ ps) files id ≡ get_or files k [])
  step_some p ps [] i j true t e more = let same : i ≡ j = cc in (0, omega (arith, same), refl)
  step_some p ps (file ∷ files) i j true t e more = let same : i ≡ j = cc in (0, omega (arith, same), rw (t, payload) refl)
  step_some p ps [] i j false t e more = let h = more [] e in (suc h.0, omega (arith, h.1), refl)
  step_some p ps (file ∷ files) i j false t e more = let h = more files e in (suc h.0, omega (arith, h.1), rw (t, payload) h.2)

  some_from : (ps : List Payload) (files : List (List ℕ)) (i j : ℕ) → position_from is_its i ps ≡ Some j → (k : ℕ) × (j ≡ i + k) × (payload ps files id ≡ get_or files k [])
  some_from [] files i j e = absurd (cc)
  some_from (p ∷ ps) files i j e = step_some p ps files i j (p.id == id) refl e (λ rest. some_from ps rest (i + 1) j)

  step_none : (p : Payload) (ps : List Payload) (files : List (List ℕ)) (i : ℕ) (b : Bool) → (p.id == id) ≡ b → cond b (Some i) (position_from is_its (i + 1) ps) ≡ None
      → ((rest : List (List ℕ)) → position_from is_its (i + 1) ps ≡ None → payload ps rest id ≡ []) → payload (p ∷ ps) files id ≡ []
  step_none p ps files i true t e more = absurd (cc)
  step_none p ps [] i false t e more = refl
  step_none p ps (file ∷ files) i false t e more = rw (t, payload) (more files e)

  none_from : (ps : List Payload) (files : List (List ℕ)) (i : ℕ) → position_from is_its i ps ≡ None → payload ps files id ≡ []
  none_from [] files i e = refl
  none_from (p ∷ ps) files i e = step_none p ps files i (p.id == id) refl e (λ rest. none_from ps rest (i + 1))

  -- the file at the place of the first payload of this number, or none
  pub payload_at : (ps : List Payload) (files : List (List ℕ)) (at : ℕ) → position is_its ps ≡ Some at → payload ps files id ≡ get_or files at []
  payload_at ps files at e =
      let h = some_from ps files 0 at (sym (position_from-zero is_its ps) ∙ e) in
      let same : h.0 ≡ at = omega (arith, h.1) in
      h.2 ∙ ap (λ k. get_or files k []) same

  pub payload_none : (ps : List Payload) (files : List (List ℕ)) → position is_its ps ≡ None → payload ps files id ≡ []
  payload_none ps files e = none_from ps files 0 (sym (position_from-zero is_its ps) ∙ e)

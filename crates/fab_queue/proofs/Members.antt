-- The members of lists of lists.
use Rattle.std.proofs.Common.{◌≡◌, ◌≢◌, ℕ, zero, suc, ◌+◌, ◌<◌, List, [], ◌∷◌, ◌++◌, length, set, get_or, refl, ap, ◌∙◌, arith, length-append}
use Rattle.std.specs.Prelude.{Vec}
use Rattle.std.specs.declared.alloc.Global.{Global}
use Rattle.fab_queue.specs.Laid.{members}

module _ {X : Type 0} where
  pub members_set_same : (vs : List (Vec X Global)) (k : ℕ) (v : Vec X Global) → k < length vs → members (set vs k v) k ≡ v.items
  members_set_same [] k v near = absurd (omega arith)
  members_set_same (x ∷ xs) zero v near = refl
  members_set_same (x ∷ xs) (suc k) v near = members_set_same xs k v (omega arith)

  pub members_set_other : (vs : List (Vec X Global)) (k j : ℕ) (v : Vec X Global) → j ≢ k → members (set vs k v) j ≡ members vs j
  members_set_other [] k j v ne = refl
  members_set_other (x ∷ xs) zero zero v ne = absurd (ne refl)
  members_set_other (x ∷ xs) zero (suc j) v ne = refl
  members_set_other (x ∷ xs) (suc k) zero v ne = refl
  members_set_other (x ∷ xs) (suc k) (suc j) v ne = members_set_other xs k j v (λ e. ne (ap suc e))

  pub members_before : (vs : List (Vec X Global)) (v : Vec X Global) (k : ℕ) → k < length vs → members (vs ++ v ∷ []) k ≡ members vs k
  members_before [] v k near = absurd (omega arith)
  members_before (x ∷ xs) v zero near = refl
  members_before (x ∷ xs) v (suc k) near = members_before xs v k (omega arith)

  pub members_last : (vs : List (Vec X Global)) (v : Vec X Global) (k : ℕ) → k ≡ length vs → members (vs ++ v ∷ []) k ≡ v.items
  members_last [] v zero e = refl
  members_last [] v (suc k) e = absurd (omega arith)
  members_last (x ∷ xs) v zero e = absurd (omega arith)
  members_last (x ∷ xs) v (suc k) e = members_last xs v k (omega arith)

  pub members_at : (vs : List (Vec X Global)) (v d : Vec X Global) (k : ℕ) → k < length vs → v ≡ get_or vs k d → v.items ≡ members vs k
  members_at [] v d k near e = absurd (omega arith)
  members_at (x ∷ xs) v d zero near e = ap (λ (z : Vec X Global). z.items) e
  members_at (x ∷ xs) v d (suc k) near e = members_at xs v d k (omega arith) e

  pub members_push_none : (vs : List (Vec X Global)) (v : Vec X Global) → v.items ≡ [] → ((k : ℕ) → members vs k ≡ []) → (k : ℕ) → members (vs ++ v ∷ []) k ≡ []
  members_push_none [] v none all zero = none
  members_push_none [] v none all (suc k) = refl
  members_push_none (x ∷ xs) v none all zero = all 0
  members_push_none (x ∷ xs) v none all (suc k) = members_push_none xs v none (λ j. all (suc j)) k

  pub members_of : (vs : List (Vec X Global)) (d : Vec X Global) (k : ℕ) → k < length vs → (get_or vs k d).items ≡ members vs k
  members_of vs d k near = members_at vs (get_or vs k d) d k near refl

  pub none_more : (vs : List (Vec X Global)) (v : Vec X Global) (n : ℕ) → (length vs ≡ n) × ((k : ℕ) → members vs k ≡ []) → v.items ≡ [] → (length (vs ++ v ∷ []) ≡ n + 1) × ((k : ℕ) → members (vs ++ v ∷ []) k ≡ [])
  none_more vs v n all none = (length-append vs (v ∷ []) ∙ ap (λ (z : ℕ). z + 1) all.0, members_push_none vs v none all.1)

  pub members_seam : (vs : List (Vec X Global)) (v : Vec X Global) (ws : List (Vec X Global)) → members (vs ++ v ∷ ws) (length vs) ≡ v.items
  members_seam [] v ws = refl
  members_seam (x ∷ xs) v ws = members_seam xs v ws

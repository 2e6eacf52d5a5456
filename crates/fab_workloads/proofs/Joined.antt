-- What `joined` gives of one more number, and sums of one more.
use Rattle.std.proofs.Common.{List, ap, append_assoc, arith, suc, sym, ℕ, ◌++◌, ◌+◌, ◌∙◌, ◌≡◌}
use Rattle.fab_workloads.specs.Generator.{drawn, next_drawn, total}
use Rattle.fab_workloads.specs.Lines.{joined}

pub joined_more : {X : Type 0} (n : ℕ) (f : ℕ → List X) → joined (n + 1) f ≡ joined n f ++ f (n + 1)
joined_more n f = ap (λ k. joined k f) (let e : n + 1 ≡ suc n = omega arith in e)

-- a list with what f gives of one more number behind it
pub joined_behind : {X : Type 0} (n : ℕ) (f : ℕ → List X) (xs ys : List X) → ys ≡ xs ++ f (n + 1) → xs ≡ joined n f → ys ≡ joined (n + 1) f
joined_behind n f xs ys more so = more ∙ ap (λ zs. zs ++ f (n + 1)) so ∙ sym (joined_more n f)

pub joined_after : {X : Type 0} (n : ℕ) (f : ℕ → List X) (base xs ys : List X) → ys ≡ xs ++ f (n + 1) → xs ≡ base ++ joined n f
    → ys ≡ base ++ joined (n + 1) f
joined_after n f base xs ys more so =
    more ∙ ap (λ zs. zs ++ f (n + 1)) so ∙ append_assoc base (joined n f) (f (n + 1)) ∙ ap (λ zs. base ++ zs) (sym (joined_more n f))

pub total_more : (n : ℕ) (f : ℕ → ℕ) → total (n + 1) f ≡ total n f + f (n + 1)
total_more n f = ap (λ k. total k f) (let e : n + 1 ≡ suc n = omega arith in e)

pub drawn_more : (number m : ℕ) → drawn number (m + 1) ≡ next_drawn (drawn number m)
drawn_more number m = ap (drawn number) (let e : m + 1 ≡ suc m = omega arith in e)

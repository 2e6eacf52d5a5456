-- How many replies begin and how many items that owe one end, as a lane grows.
use Rattle.std.proofs.Common.{◌≡◌, ◌≢◌, ◌≤◌, ◌⊎◌, inl, inr, ◌+◌, ℕ, Bool, true, false, ◌&&◌, List, [], ◌∷◌, ◌++◌, cond, refl, arith}
use Rattle.std.specs.Prelude.{◌==◌}
use Rattle.std.proofs.lemmas.Bool.{cases_eq}
use Rattle.std.proofs.lemmas.Bool.Decides.{nat_tests}
use Rattle.fab_base.specs.declared.frames.Frame.{Frame}
pub use Rattle.fab_base.proofs.Lists.{count_by-append}
use Rattle.fab_link.specs.Owing.{begins_reply, ends_owing, replies, owing, IsOwed}

pub replies-append : (op : ℕ) (xs ys : List Frame) → replies op (xs ++ ys) ≡ replies op xs + replies op ys
replies-append op xs ys = count_by-append (λ f. begins_reply f.head && (f.head.item.op == op)) xs ys

pub owing-append : (op : ℕ) (xs ys : List Frame) → owing op (xs ++ ys) ≡ owing op xs + owing op ys
owing-append op xs ys = count_by-append (λ f. ends_owing f.head && (f.head.item.op == op)) xs ys

at_most_one : (b : Bool) → cond b 1 0 ≤ 1
at_most_one true = omega arith
at_most_one false = omega arith

-- no more replies have begun than are owed, where one begins only if one more was
pub repays : (before : ℕ → ℕ) (op : ℕ) (xs ys : List Frame) (f : Frame) → IsOwed before xs ys op 0 → (begins_reply f.head ≡ true → IsOwed before xs ys f.head.item.op 1) → IsOwed before (xs ++ f ∷ []) ys op 0
repays before op xs ys f le allows = go (begins_reply f.head) refl (cases_eq f.head.item.op op)
  where
    more : replies op (xs ++ f ∷ []) ≡ replies op xs + replies op (f ∷ [])
    more = replies-append op xs (f ∷ [])

    go : (b : Bool) → begins_reply f.head ≡ b → (f.head.item.op ≡ op) ⊎ (f.head.item.op ≢ op) → IsOwed before (xs ++ f ∷ []) ys op 0
    go false e same = let none : replies op (f ∷ []) ≡ 0 = rw e refl in omega (arith, le, more, none)
    go true e (inl same) =
        let lt : IsOwed before xs ys op 1 = rw same at (allows e) in
        let one : replies op (f ∷ []) ≤ 1 = omega (arith, at_most_one (begins_reply f.head && (f.head.item.op == op))) in
        omega (arith, lt, more, one)
    go true e (inr other) =
        let no : (f.head.item.op == op) ≡ false = grind (arith, nat_tests, other) in
        let none : replies op (f ∷ []) ≡ 0 = rw (e, no) refl in
        omega (arith, le, more, none)

-- what was owed stays owed as more is taken
pub owed_still : (before : ℕ → ℕ) (op n : ℕ) (xs ys zs : List Frame) → IsOwed before xs ys op n → IsOwed before xs (ys ++ zs) op n
owed_still before op n xs ys zs le = omega (arith, le, owing-append op ys zs)

-- The elements of an atomic, one after another.
use Rattle.std.proofs.Common.{◌≡◌, ℕ, zero, suc, ◌+◌, ◌-◌, ◌/◌, ◌%◌, ◌<◌, List, [], ◌∷◌, ◌++◌, length, drop, refl, sym, ap, ◌∙◌, arith, append_assoc, append-nil}
use Rattle.fab_base.specs.declared.items.Atom.{Atom}
use Rattle.fab_base.specs.Elements.{element_size}
use Rattle.fab_model.specs.Target.{elements, bytes_of}
use Rattle.fab_model.proofs.Elements.{elements-none as elements_none}
use Rattle.fab_checker_values.specs.NewElements.{new_bytes}

pub push_step : (out target : List ℕ) (size i left : ℕ) → i < size → out ++ bytes_of (size - i) left ≡ target → (out ++ left % 256 ∷ []) ++ bytes_of (size - (i + 1)) (left / 256) ≡ target
push_step out target size i left lt e =
    let one : size - i ≡ suc (size - (i + 1)) = omega arith in
    append_assoc out (left % 256 ∷ []) (bytes_of (size - (i + 1)) (left / 256)) ∙ ap (λ k. out ++ bytes_of k left) (sym one) ∙ e

elements_one : (left : ℕ) (atom : Atom) (old operand compares : List ℕ) → 0 < length old
    → elements (suc left) atom old operand compares
    ≡ new_bytes atom old operand compares ++ elements left atom (drop (element_size atom.num) old) (drop (element_size atom.num) operand) (drop (element_size atom.num) compares)
unfolding elements
elements_one left atom [] operand compares some = absurd (omega arith)
elements_one left atom (t ∷ ts) operand compares some = refl

pub elements_step : (target out : List ℕ) (n i : ℕ) (atom : Atom) (old operand compares : List ℕ) → i < n → 0 < length old
    → target ≡ out ++ elements (n - i) atom old operand compares
    → target ≡ (out ++ new_bytes atom old operand compares) ++ elements (n - (i + 1)) atom (drop (element_size atom.num) old) (drop (element_size atom.num) operand) (drop (element_size atom.num) compares)
elements_step target out n i atom old operand compares lt some e =
    let one : n - i ≡ suc (n - (i + 1)) = omega arith in
    e ∙ ap (λ k. out ++ elements k atom old operand compares) one ∙ ap (λ xs. out ++ xs) (elements_one (n - (i + 1)) atom old operand compares some)
    ∙ sym (append_assoc out (new_bytes atom old operand compares) _)

pub elements_over : (k : ℕ) (atom : Atom) (old operand compares : List ℕ) → k ≡ 0 → elements k atom old operand compares ≡ []
unfolding elements
elements_over zero atom old operand compares e = refl
elements_over (suc k) atom old operand compares e = absurd (omega arith)

pub elements_end : (target out : List ℕ) (k : ℕ) (atom : Atom) (old operand compares : List ℕ) → length old ≡ 0 → target ≡ out ++ elements k atom old operand compares → out ≡ target
elements_end target out k atom [] operand compares none e = sym (e ∙ ap (λ xs. out ++ xs) (elements_none k atom operand compares) ∙ append-nil out)
elements_end target out k atom (t ∷ ts) operand compares none e = absurd (omega arith)

pub elements_all : (target out : List ℕ) (k : ℕ) (atom : Atom) (old operand compares : List ℕ) → k ≡ 0 → target ≡ out ++ elements k atom old operand compares → out ≡ target
elements_all target out k atom old operand compares none e = sym (e ∙ ap (λ xs. out ++ xs) (elements_over k atom old operand compares none) ∙ append-nil out)

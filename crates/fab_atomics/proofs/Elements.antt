-- The elements of a range are done one after another.
use Rattle.std.proofs.Common.{◌≡◌, ℕ, suc, ◌+◌, ◌-◌, ◌*◌, ◌/◌, ◌%◌, ◌<◌, ◌≤◌, List, [], ◌∷◌, ◌++◌, length, take, drop, refl, sym, ap, ◌∙◌, inl, inr, append_assoc, append-nil, length-append, arith}
use Rattle.std.proofs.Math.Nat.{add-mul, div-add-mod', le-mul_of_pos_right, mul-le-mul_right}
use Rattle.std.proofs.Math.Seq.{take-append_seam, drop-append_seam}
use Rattle.std.proofs.lemmas.Bool.{cases_lt}
use Rattle.std.proofs.lemmas.Nat.{le-div}
use Rattle.std.proofs.lemmas.List.{take-append-drop, take-append-le, drop-append-le, length-take-le, length-drop, drop-drop, drop_all, take_all}
use Rattle.fab_base.specs.declared.items.Atom.{Atom}
use Rattle.fab_base.specs.declared.items.AtomicOp.{AtomicOp}
use Rattle.fab_base.specs.declared.items.Form.{Form}
use Rattle.fab_base.specs.declared.items.Num.{Num}
use Rattle.fab_base.specs.Elements.{element_size}
use Rattle.fab_model.specs.Target.{element, elements, number_of, bytes_of}
use Rattle.fab_model.proofs.Elements.{length-bytes_of, elements-none}
use Rattle.fab_atomics.specs.Operands.{atom, number_at, element_at}

-- a part of the first bytes is not touched by what comes behind these
pub take-drop-front : (p size : ℕ) (before after other : List ℕ) → p + size ≤ length before → take size (drop p (before ++ after)) ≡ take size (drop p (before ++ other))
take-drop-front p size before after other within =
    let room : size ≤ length (drop p before) = omega (arith, length-drop p before) in
    ap (take size) (drop-append-le p before after (omega arith)) ∙ take-append-le size (drop p before) after room
    ∙ sym (ap (take size) (drop-append-le p before other (omega arith)) ∙ take-append-le size (drop p before) other room)

-- the first element of these bytes is done, and then the others
elements-some : (left : ℕ) (a : Atom) (old operand compares : List ℕ) → 0 < length old
    → elements (suc left) a old operand compares ≡ bytes_of (element_size a.num) (element a.op a.num (number_at a.num old 0) (number_at a.num operand 0) (number_at a.num compares 0))
    ++ elements left a (drop (element_size a.num) old) (drop (element_size a.num) operand) (drop (element_size a.num) compares)
unfolding elements
elements-some left a [] operand compares some = absurd (omega arith)
elements-some left a (t ∷ ts) operand compares some = refl

-- i elements of the range `old` are done and the others stand as they were
pub record Done (op : AtomicOp) (num : Num) (old operand compares : List ℕ) (i : ℕ) (target : List ℕ) : Type 0 where
  pub rest : drop (i * element_size num) target ≡ drop (i * element_size num) old
  pub done : (form : Form) → elements (length old) (atom op num form) old operand compares
      ≡ take (i * element_size num) target ++ elements (length old - i) (atom op num form) (drop (i * element_size num) old) (drop (i * element_size num) operand) (drop (i * element_size num) compares)
  pub each : (j : ℕ) → j < i → element_at num target j ≡ element op num (element_at num old j) (element_at num operand j) (element_at num compares j)

module _ (op : AtomicOp) (num : Num) (old operand compares : List ℕ) where
  -- what the element at this offset becomes, as the range stands
  abbrev pub becomes : List ℕ → ℕ → ℕ
  becomes target at = element op num (number_at num target at) (number_at num operand at) (number_at num compares at)

  -- one more
  module _ (i at : ℕ) (target new : List ℕ) (at_is : at ≡ i * element_size num) (size : 0 < element_size num) (within : at + element_size num ≤ length old) (len : length target ≡ length old)
      (changed : new ≡ take at target ++ bytes_of (element_size num) (becomes target at) ++ drop (at + element_size num) target)
      (value : number_at num new at ≡ becomes target at) where
    -- what is done of the new range
    abbrev front : List ℕ
    front = take at target ++ bytes_of (element_size num) (becomes target at)

    length-front : length front ≡ at + element_size num
    length-front = omega (
      arith,
      length-append (take at target) (bytes_of (element_size num) (becomes target at)),
      length-take-le at target (omega arith),
      length-bytes_of (element_size num) (becomes target at),
    )

    new_rest : drop (at + element_size num) new ≡ drop (at + element_size num) target
    new_rest = ap (drop (at + element_size num)) changed ∙ ap (λ k. drop k (front ++ drop (at + element_size num) target)) (sym length-front) ∙ drop-append_seam front (drop (at + element_size num) target)

    new_front : take (at + element_size num) new ≡ front
    new_front = ap (take (at + element_size num)) changed ∙ ap (λ k. take k (front ++ drop (at + element_size num) target)) (sym length-front) ∙ take-append_seam front (drop (at + element_size num) target)

    next : (i + 1) * element_size num ≡ at + element_size num
    next = omega (arith, add-mul i 1 (element_size num), at_is)

    before_end : i < length old
    before_end = omega (arith, le-mul_of_pos_right i size, at_is)

    same_rest : Done op num old operand compares i target → drop at target ≡ drop at old
    same_rest d = rw (sym at_is) at d.rest

    -- the element is the first of those left over
    step : (form : Form) → elements (length old - i) (atom op num form) (drop at old) (drop at operand) (drop at compares)
        ≡ bytes_of (element_size num) (becomes old at)
        ++ elements (length old - (i + 1)) (atom op num form) (drop (at + element_size num) old) (drop (at + element_size num) operand) (drop (at + element_size num) compares)
    step form =
        let one : length old - i ≡ suc (length old - (i + 1)) = omega (arith, before_end) in
        let some : 0 < length (drop at old) = omega (arith, length-drop at old) in
        ap (λ left. elements left (atom op num form) (drop at old) (drop at operand) (drop at compares)) one
        ∙ rw (drop-drop (element_size num) at old, drop-drop (element_size num) at operand, drop-drop (element_size num) at compares)
        at (elements-some (length old - (i + 1)) (atom op num form) (drop at old) (drop at operand) (drop at compares) some)

    -- an element before it stays
    kept : (j : ℕ) → j < i → element_at num new j ≡ element_at num target j
    kept j before =
        let up = mul-le-mul_right {m = j + 1} {n = i} (element_size num) (omega arith) in
        let room : j * element_size num + element_size num ≤ length (take at target) = omega (arith, up, add-mul j 1 (element_size num), at_is, length-take-le at target (omega arith)) in
        let tail = bytes_of (element_size num) (becomes target at) ++ drop (at + element_size num) target in
        ap (λ xs. element_at num xs j) (changed ∙ append_assoc (take at target) _ _)
        ∙ ap number_of (take-drop-front (j * element_size num) (element_size num) (take at target) tail (drop at target) room)
        ∙ ap (λ xs. element_at num xs j) (take-append-drop at target)

    -- in an element that is not done yet the range stands as it was
    becomes_old : Done op num old operand compares i target → becomes target at ≡ becomes old at
    becomes_old d = ap (λ xs. element op num (number_of (take (element_size num) xs)) (number_at num operand at) (number_at num compares at)) (same_rest d)

    at_this : Done op num old operand compares i target → (j : ℕ) → j ≡ i → element_at num new j ≡ becomes old (j * element_size num)
    at_this d j e =
        let place : j * element_size num ≡ at = rw e (sym at_is) in
        rw place (value ∙ becomes_old d)

    pub one_more : Done op num old operand compares i target → Done op num old operand compares (i + 1) new
    one_more d = record {
      rest = rw next (new_rest ∙ sym (drop-drop (element_size num) at target) ∙ ap (drop (element_size num)) (same_rest d) ∙ drop-drop (element_size num) at old);
      done = λ form. rw next (
          let so_far = rw (sym at_is) at (d.done form) in
          let moved = ap (λ n. take at target ++ bytes_of (element_size num) n) (sym (becomes_old d)) ∙ sym new_front in
          so_far ∙ ap (λ xs. take at target ++ xs) (step form)
          ∙ sym (append_assoc (take at target) (bytes_of (element_size num) (becomes old at)) _)
          ∙ ap (λ xs. xs ++ elements (length old - (i + 1)) (atom op num form) (drop (at + element_size num) old) (drop (at + element_size num) operand) (drop (at + element_size num) compares)) moved);
      each = λ j below. elim (cases_lt j i) [ inl before ↦ kept j before ∙ d.each j before | inr behind ↦ at_this d j (omega arith) ];
    }

  -- all
  pub all_done : (target : List ℕ) (i : ℕ) → length old % element_size num ≡ 0 → i ≡ length old / element_size num → length target ≡ length old → Done op num old operand compares i target
      → (form : Form) → target ≡ elements (length old) (atom op num form) old operand compares
  all_done target i whole e len d form =
      let all : i * element_size num ≡ length old = rw e (omega (arith, div-add-mod' (length old) (element_size num), whole)) in
      let at_end = rw (all, drop_all (length old) old (omega arith), take_all (length old) target (omega arith)) at (d.done form) in
      sym (at_end ∙ ap (λ xs. target ++ xs) (elements-none (length old - i) (atom op num form) (drop (length old) operand) (drop (length old) compares)) ∙ append-nil target)

  pub each_done : (target : List ℕ) (i : ℕ) → i ≡ length old / element_size num → 0 < element_size num → Done op num old operand compares i target
      → (j : ℕ) → (j + 1) * element_size num ≤ length old → element_at num target j ≡ element op num (element_at num old j) (element_at num operand j) (element_at num compares j)
  each_done target i e some d j within = d.each j (omega (arith, le-div (j + 1) (length old) (element_size num) some within, e))

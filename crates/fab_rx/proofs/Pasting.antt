-- Bytes that are put into a buffer, piece after piece.
use Rattle.std.proofs.Common.{◌≡◌, ℕ, ◌+◌, ◌-◌, min, ◌<◌, ◌≤◌, ◌⊎◌, inl, inr, List, [], ◌++◌, length, take, drop, refl, sym, ap, ◌∙◌, arith, take-append-drop, length-append, length-take, length-drop}
use Rattle.std.proofs.lemmas.List.{append-nil, take-append-le, drop-drop, take_all, drop_all}
use Rattle.std.proofs.Math.Seq.{take-append-add, drop-append-add, take-append_seam}
use Rattle.fab_model.specs.Complete.{paste}

-- what is written over the buffer's bytes from the place on, if it is as much as fits
pub paste_is : (buf bytes : List ℕ) (at n : ℕ) → n ≡ min (length bytes) (length buf - at) → paste buf at bytes ≡ take at buf ++ take n bytes ++ drop (at + n) buf
unfolding paste
paste_is buf bytes at n e = rw (← e) refl

pub paste_none : (buf bytes : List ℕ) (at : ℕ) → min (length bytes) (length buf - at) ≡ 0 → paste buf at bytes ≡ buf
paste_none buf bytes at e = paste_is buf bytes at 0 (sym e) ∙ (let same : at + 0 ≡ at = omega arith in rw (same, append-nil) (take-append-drop at buf))

pub paste_start : (buf bytes : List ℕ) (n : ℕ) → n ≡ min (length bytes) (length buf) → paste buf 0 bytes ≡ take n bytes ++ drop n buf
paste_start buf bytes n e = paste_is buf bytes 0 n (omega arith) ∙ (let same : 0 + n ≡ n = omega arith in rw same refl)

pub length_paste_at : (buf bytes : List ℕ) (at : ℕ) → length (paste buf at bytes) ≡ length buf
length_paste_at buf bytes at =
    let n = min (length bytes) (length buf - at) in
    ap length (paste_is buf bytes at n refl) ∙ length-append (take at buf ++ take n bytes) (drop (at + n) buf) ∙ ap (λ k. k + length (drop (at + n) buf)) (length-append (take at buf) (take n bytes)) ∙ omega (arith, length-take at buf, length-take n bytes, length-drop (at + n) buf)

pub length_paste : (buf bytes : List ℕ) → length (paste buf 0 bytes) ≡ length buf
length_paste buf bytes =
    let n = min (length bytes) (length buf) in
    ap length (paste_start buf bytes n refl) ∙ length-append (take n bytes) (drop n buf) ∙ omega (arith, length-take n bytes, length-drop n buf)

pub paste_nothing : (buf : List ℕ) → paste buf 0 [] ≡ buf
paste_nothing buf = paste_none buf [] 0 (omega arith)

module _ (buf xs ys : List ℕ) where
  -- the first piece fits
  fits : length xs ≤ length buf → paste (paste buf 0 xs) (length xs) ys ≡ paste buf 0 (xs ++ ys)
  fits le =
      let x = length xs in
      let m = min (length ys) (length buf - x) in
      let first : paste buf 0 xs ≡ xs ++ drop x buf = paste_start buf xs x (omega arith) ∙ (let all = take_all x xs (omega arith) in rw all refl) in
      let left = paste_is (paste buf 0 xs) ys x m (let same = length_paste buf xs in omega arith) in
      let right = paste_start buf (xs ++ ys) (x + m) (let same = length-append xs ys in omega arith) in
      let same : paste (paste buf 0 xs) x ys ≡ xs ++ take m ys ++ drop (x + m) buf = left ∙ rw (first, take-append_seam xs (drop x buf), drop-append-add xs (drop x buf) m) (ap (λ rest. xs ++ take m ys ++ rest) (dropped x m)) in
      same ∙ sym (right ∙ rw (take-append-add xs ys m) refl)
    where
      dropped : (x m : ℕ) → drop m (drop x buf) ≡ drop (x + m) buf
      dropped x m = drop-drop m x buf

  -- it fills the buffer
  fills : length buf < length xs → paste (paste buf 0 xs) (length xs) ys ≡ paste buf 0 (xs ++ ys)
  fills lt =
      let all = length buf in
      let none : drop all buf ≡ [] = drop_all all buf (omega arith) in
      let first : paste buf 0 xs ≡ take all xs = paste_start buf xs all (omega arith) ∙ (rw (none, append-nil) refl) in
      paste_none (paste buf 0 xs) ys (length xs) (let same = length_paste buf xs in omega arith)
      ∙ first
      ∙ sym (paste_start buf (xs ++ ys) all (let same = length-append xs ys in omega arith) ∙ rw (none, append-nil) (take-append-le all xs ys (omega arith)))

  by_length : (length xs ≤ length buf) ⊎ (length buf < length xs) → paste (paste buf 0 xs) (length xs) ys ≡ paste buf 0 (xs ++ ys)
  by_length (inl le) = fits le
  by_length (inr lt) = fills lt

  -- two pieces, one behind the other, are one
  pub paste_more : paste (paste buf 0 xs) (length xs) ys ≡ paste buf 0 (xs ++ ys)
  paste_more = by_length (grind arith)

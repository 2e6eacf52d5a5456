-- The bytes that are written low byte first are those of the model.
use Rattle.std.proofs.Common.{◌≡◌, ℕ, zero, suc, ◌+◌, ◌-◌, ◌/◌, ◌%◌, ◌^◌, ◌≤◌, List, ◌∷◌, ◌++◌, length, take, drop, refl, sym, ap, ◌∙◌, append-nil, append_assoc, arith}
use Rattle.std.proofs.Math.Nat.{div-div-eq-div-mul, div-one, pow-suc}
use Rattle.std.proofs.lemmas.List.{length-drop, take_all, drop-drop, drop_all}
use Rattle.std.specs.Int.{byte_at, bytes_low_first}
use borrow.Rule.Slice.PartMut.{put_mid}
use Rattle.fab_model.specs.Target.{bytes_of}

byte_at-pow : (i x : ℕ) → byte_at i x ≡ x / 256 ^ i % 256
byte_at-pow zero x = ap (λ y. y % 256) (sym (div-one x))
byte_at-pow (suc i) x = refl

low_first : (k i x : ℕ) → bytes_low_first i k x ≡ bytes_of k (x / 256 ^ i)
low_first zero i x = refl
low_first (suc k) i x =
    let next : x / 256 ^ suc i ≡ x / 256 ^ i / 256 = ap (λ p. x / p) (pow-suc 256 i) ∙ sym (div-div-eq-div-mul x (256 ^ i) 256) in
    ap (λ b. b ∷ bytes_low_first (suc i) k x) (byte_at-pow i x) ∙ ap (λ bs. x / 256 ^ i % 256 ∷ bs) (low_first k (suc i) x ∙ ap (bytes_of k) next)

pub bytes_low_first-zero : (k x : ℕ) → bytes_low_first 0 k x ≡ bytes_of k x
bytes_low_first-zero k x = low_first k 0 x ∙ ap (bytes_of k) (div-one x)

-- a write of k bytes at the offset, through the rest of the range
pub put_rest : (k at x : ℕ) (bytes new : List ℕ) → at + k ≤ length bytes → new ≡ bytes_low_first 0 k x ++ drop k (take (length bytes - at) (drop at bytes))
    → put_mid at (length bytes - at) bytes new ≡ take at bytes ++ bytes_of k x ++ drop (at + k) bytes
put_rest k at x bytes new within written =
    let whole : take (length bytes - at) (drop at bytes) ≡ drop at bytes = take_all (length bytes - at) (drop at bytes) (omega (arith, length-drop at bytes)) in
    let to : new ≡ bytes_of k x ++ drop (at + k) bytes =
    written ∙ ap (λ b. b ++ drop k (take (length bytes - at) (drop at bytes))) (bytes_low_first-zero k x) ∙ ap (λ xs. bytes_of k x ++ drop k xs) whole ∙ ap (λ xs. bytes_of k x ++ xs) (drop-drop k at bytes) in
    ap (λ xs. take at bytes ++ (new ++ xs)) (drop_all (length bytes - at) (drop at bytes) (omega (arith, length-drop at bytes)))
    ∙ ap (λ xs. take at bytes ++ xs) (append-nil new ∙ to) ∙ sym (append_assoc (take at bytes) (bytes_of k x) (drop (at + k) bytes))

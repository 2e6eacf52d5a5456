-- Pieces of a file, and bytes written piece by piece.
use Rattle.std.proofs.Common.{◌≡◌, ℕ, ◌+◌, ◌-◌, ◌≤◌, List, ◌++◌, length, take, drop, Option, Some, None, refl, sym, ap, ◌∙◌, append_assoc, arith}
use Rattle.std.proofs.Math.Seq.{take-add}
use Rattle.std.proofs.lemmas.List.{take-append-drop, drop-drop}
use Rattle.std.proofs.lemmas.Grind.{common_steps}
use Rattle.std.specs.Io.KnownBytes.{append_known}
use Rattle.fab_outside.specs.Outside.{BeginsFile}

-- the front of a file begins it
pub BeginsFile-take : (file : List ℕ → Option (List ℕ)) (name whole cut : List ℕ) (n : ℕ) → file name ≡ Some whole → cut ≡ take n whole → BeginsFile (Some file) name cut
BeginsFile-take file name whole cut n is cuts = (drop n whole, is ∙ ap Some (sym (take-append-drop n whole)) ∙ ap (λ front. Some (front ++ drop n whole)) (sym cuts))

-- a piece and then a piece is both
pub append_known-append : (xs ys : List ℕ) (told : Option (List ℕ)) → append_known (append_known told xs) ys ≡ append_known told (xs ++ ys)
append_known-append xs ys None = refl
append_known-append xs ys (Some bytes) = ap Some (append_assoc bytes xs ys)

-- n bytes are written, and then k of the rest
pub written_more : (bytes rest : List ℕ) (n k : ℕ) (from before after : Option (List ℕ)) → rest ≡ drop n bytes → before ≡ append_known from (take n bytes) → after ≡ append_known before (take k rest) → after ≡ append_known from (take (n + k) bytes)
written_more bytes rest n k from before after is wrote writes =
    writes ∙ ap (λ told. append_known told (take k rest)) wrote ∙ append_known-append (take n bytes) (take k rest) from
    ∙ ap (λ piece. append_known from piece) (ap (λ xs. take n bytes ++ take k xs) is ∙ sym (take-add n k bytes))

-- the rest of the rest
pub rest_after : (bytes rest : List ℕ) (n k : ℕ) → rest ≡ drop n bytes → k ≤ length rest → take (length rest - k) (drop k rest) ≡ drop (n + k) bytes
rest_after bytes rest n k is within = grind (arith, common_steps, drop-drop k n bytes)

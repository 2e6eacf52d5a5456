-- Numbers and lines, written piece by piece.
use Rattle.std.proofs.Common.{◌≡◌, ℕ, ◌<◌, ◌≤◌, ◌+◌, ◌/◌, ◌%◌, ◌^◌, List, [], ◌∷◌, ◌++◌, Option, ap, sym, ◌∙◌, arith, append_assoc}
use Rattle.std.specs.Prelude.{codes, decimal}
use Rattle.std.specs.Io.KnownBytes.{append_known}
use Rattle.std.proofs.lemmas.Fmt.{decimal_step, decimal_digit}
use Rattle.fab_outside.proofs.Pieces.{append_known-append}

-- a number of one digit is that digit
pub one_digit : (before after : Option (List ℕ)) (n : ℕ) → n < 10 → after ≡ append_known before ((48 + n % 10) ∷ []) → after ≡ append_known before (decimal n)
one_digit before after n small wrote =
    let same : (48 + n % 10) ≡ 48 + n = omega arith in
    wrote ∙ ap (λ d. append_known before (d ∷ [])) same ∙ ap (append_known before) (sym (decimal_digit n small))

-- a number of more digits is the front and its last digit
pub more_digits : (before middle after : Option (List ℕ)) (n : ℕ) → 10 ≤ n → n < 2 ^ 64 → middle ≡ append_known before (decimal (n / 10)) → after ≡ append_known middle ((48 + n % 10) ∷ [])
    → after ≡ append_known before (decimal n)
more_digits before middle after n many few front last =
    last ∙ ap (λ told. append_known told ((48 + n % 10) ∷ [])) front ∙ append_known-append (decimal (n / 10)) ((48 + n % 10) ∷ []) before
    ∙ ap (append_known before) (sym (decimal_step n many few))

-- two pieces are both
pub two_pieces : (xs ys : List ℕ) (before middle after : Option (List ℕ)) → middle ≡ append_known before xs → after ≡ append_known middle ys → after ≡ append_known before (xs ++ ys)
two_pieces xs ys before middle after front back = back ∙ ap (λ told. append_known told ys) front ∙ append_known-append xs ys before

-- the line of a script that is refused, in three pieces
pub refused_line : (line : ℕ) (why : List ℕ) (before first second after : Option (List ℕ)) → first ≡ append_known before (codes "script refused at line ")
    → second ≡ append_known first (decimal line) → after ≡ append_known second (codes ": " ++ why ++ 10 ∷ [])
    → after ≡ append_known before (codes "script refused at line " ++ decimal line ++ codes ": " ++ why ++ 10 ∷ [])
refused_line line why before first second after a b c =
    let front : List ℕ = codes "script refused at line " ++ decimal line in
    let same : front ++ (codes ": " ++ why ++ 10 ∷ []) ≡ front ++ codes ": " ++ why ++ 10 ∷ [] =
    sym (append_assoc front (codes ": " ++ why) (10 ∷ [])) ∙ ap (λ x. x ++ 10 ∷ []) (sym (append_assoc front (codes ": ") why)) in
    two_pieces front (codes ": " ++ why ++ 10 ∷ []) before second after (two_pieces (codes "script refused at line ") (decimal line) before first second a b) c
    ∙ ap (append_known before) same

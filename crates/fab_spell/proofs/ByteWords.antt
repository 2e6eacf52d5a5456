-- Bytes that a word named are named again.
use Rattle.std.proofs.Common.{◌≡◌, ℕ, zero, suc, ◌%◌, ◌<◌, ◌≤◌, Bool, true, false, cond, eqb, ltb, leb, List, [], ◌∷◌, ◌++◌, length, drop, codes, decimal, ap, subst, ◌∙◌, refl, arith}
use Rattle.std.specs.Prelude.{Result, Ok, Err}
use Rattle.std.specs.List.{list_all, slice_split, All}
use Rattle.std.specs.Str.{is_utf8, IsAscii}
use Rattle.std.proofs.lemmas.Bool.{and_parts, and_from, ne_eqb, ltb-true, leb-true}
use Rattle.std.proofs.lemmas.List.Elements.{All-cons, All-nil}
use Rattle.std.proofs.lemmas.List.Folds.{list_all-append}
use Rattle.std.proofs.lemmas.List.Splits.{slice_split_at, slice_split_none}
use Rattle.std.proofs.lemmas.Str.{is_utf8-from_IsUtf8, IsUtf8-from_ascii}
use Rattle.std.proofs.lemmas.Str.Ascii.{IsAscii-nil, IsAscii-cons}
use Rattle.fab_base.specs.declared.script.BytesWord.{BytesWord}
use Rattle.fab_base.specs.declared.script.BytesWord.TheVariants.{Text, Hex, Zero, File}
use Rattle.fab_words.specs.declared.misread.Misread.{Misread}
use Rattle.fab_words.specs.declared.misread.Misread.TheVariants.{Words, Limit}
use Rattle.fab_words.specs.Bytes.{few_bytes, of_hex, a_file_range, file_range, is_colon, read_bytes}
use Rattle.fab_words.specs.Misreads.{◌&◌, map_ok}
use Rattle.fab_words.specs.Rows.{is_filled}
use Rattle.fab_words.specs.Words.{begins_with, read_number, read_up_to}
use Rattle.fab_words.specs.Written.{is_word}
use Rattle.fab_spell.specs.Spelling.{bytes_word}
use Rattle.fab_spell.proofs.Decimals.{read_number_again, read_up_to_again}
use Rattle.fab_spell.proofs.HexDigits.{hex_again, printable-hex}
use Rattle.fab_spell.proofs.Numbers.{is_numeric, is_printable, digits-decimal, printable-digits}
use Rattle.fab_spell.proofs.Said.{both_said, said_by, said_if}
use Rattle.hex.specs.Hex.{IsBytes, decode_of, decode_pairs}
use Rattle.hex.specs.declared.error.FromHexError.{FromHexError}
use Rattle.hex.specs.declared.error.FromHexError.TheVariants.{OddLength}
use Rattle.hex.proofs.HexLemmas.{decode_pairs-ok}

pub record BytesAgain (most : ℕ) (bytes : BytesWord) : Type 0 where
  pub reads : read_bytes most (bytes_word bytes) ≡ Ok bytes
  pub word : is_word (bytes_word bytes) ≡ true

-- ---- texts
pub printable-drop : (n : ℕ) (word : List ℕ) → list_all is_printable word ≡ true → list_all is_printable (drop n word) ≡ true
printable-drop zero word all = all
printable-drop (suc n) [] all = refl
printable-drop (suc n) (b ∷ word) all = printable-drop n word (and_parts (is_printable b) (list_all is_printable word) all).1

ascii-printable : (word : List ℕ) → list_all is_printable word ≡ true → IsAscii word
ascii-printable [] all = IsAscii-nil
ascii-printable (b ∷ word) all =
    let parts = and_parts (is_printable b) (list_all is_printable word) all in
    let small : b ≤ 126 = leb-true b 126 (and_parts (ltb 32 b) (leb b 126) parts.0).1 in
    IsAscii-cons b word (omega arith) (ascii-printable word parts.1)

pub utf8-printable : (word : List ℕ) → list_all is_printable word ≡ true → is_utf8 word ≡ true
utf8-printable word all = is_utf8-from_IsUtf8 word (IsUtf8-from_ascii word (ascii-printable word all))

pub few : (most : ℕ) (bytes : List ℕ) (said word : BytesWord) → few_bytes most bytes word ≡ Ok said → (leb (length bytes) most ≡ true) × (word ≡ said)
few most bytes said word e =
    let fits = said_if (leb (length bytes) most) (Ok word) Limit said e in
    let same : word ≡ said = cc (fits.1) in
    (fits.0, same)

text_again : (most : ℕ) (bytes : List ℕ) (said : BytesWord) → list_all is_printable bytes ≡ true → few_bytes most bytes (Text bytes) ≡ Ok said → BytesAgain most said
unfolding read_bytes bytes_word
text_again most bytes said all e =
    let fits = few most bytes said (Text bytes) e in
    let text = utf8-printable bytes all in
    subst (BytesAgain most) fits.1 (record { reads = rw (text, fits.0) refl; word = rw (text, all) refl })

-- ---- digits
not_odd : (odd : Bool) (r : Result (List ℕ) FromHexError) (bytes : List ℕ) → cond odd (Err OddLength) r ≡ Ok bytes → r ≡ Ok bytes
not_odd true r bytes e = cc
not_odd false r bytes e = e

decoded_bytes : (digits bytes : List ℕ) → decode_of digits ≡ Ok bytes → IsBytes bytes
decoded_bytes digits bytes e = (decode_pairs-ok 0 digits bytes (not_odd (eqb (length digits % 2) 1) (decode_pairs 0 digits) bytes e)).2

pub hex_said : (most : ℕ) (r : Result (List ℕ) FromHexError) (said : BytesWord) → of_hex most r ≡ Ok said → (bytes : List ℕ) × (r ≡ Ok bytes) × (leb (length bytes) most ≡ true) × (Hex bytes ≡ said)
hex_said most (Ok bytes) said e =
    let fits = few most bytes said (Hex bytes) e in
    (bytes, refl, fits.0, fits.1)
hex_said most (Err fault) said e = cc

digits_again : (most : ℕ) (digits : List ℕ) (said : BytesWord) → of_hex most (decode_of digits) ≡ Ok said → BytesAgain most said
unfolding read_bytes bytes_word
digits_again most digits said e =
    let h = hex_said most (decode_of digits) said e in
    let all = decoded_bytes digits h.0 h.1 in
    subst (BytesAgain most) h.3 (record { reads = ap (of_hex most) (hex_again h.0 all) ∙ rw h.2 refl; word = printable-hex h.0 all })

-- ---- zeros
zeros_again : (most : ℕ) (word : List ℕ) (said : BytesWord) → map_ok Zero (read_up_to most word) ≡ Ok said → BytesAgain most said
unfolding read_bytes bytes_word
zeros_again most word said e =
    let len = said_by Zero (read_up_to most word) said e in
    subst (BytesAgain most) len.2 (record { reads = ap (map_ok Zero) (read_up_to_again most word len.0 len.1); word = printable-digits (decimal len.0) (digits-decimal len.0).all })

-- ---- files
no_colon : (word : List ℕ) → list_all is_numeric word ≡ true → All (λ b. is_colon b ≡ false) word
no_colon [] all = All-nil (λ b. is_colon b ≡ false)
no_colon (b ∷ word) all =
    let parts = and_parts (is_numeric b) (list_all is_numeric word) all in
    let below : b < 58 = ltb-true b 58 (and_parts (ltb 47 b) (ltb b 58) parts.0).1 in
    All-cons (λ b. is_colon b ≡ false) b word (ne_eqb b 58 (λ e. omega arith)) (no_colon word parts.1)

cut_at_colon : (n : ℕ) (rest : List ℕ) → slice_split is_colon (decimal n ++ 58 ∷ rest) ≡ decimal n ∷ slice_split is_colon rest
cut_at_colon n rest = slice_split_at is_colon (decimal n) 58 rest (no_colon (decimal n) (digits-decimal n).all) refl

three_parts : (id at len : ℕ) → slice_split is_colon (decimal id ++ 58 ∷ (decimal at ++ 58 ∷ decimal len)) ≡ decimal id ∷ decimal at ∷ decimal len ∷ []
three_parts id at len =
    cut_at_colon id (decimal at ++ 58 ∷ decimal len)
    ∙ ap (λ parts. decimal id ∷ parts) (cut_at_colon at (decimal len) ∙ ap (λ parts. decimal at ∷ parts) (slice_split_none is_colon (decimal len) (no_colon (decimal len) (digits-decimal len).all)))

printable-file : (id at len : ℕ) → list_all is_printable (decimal id ++ 58 ∷ (decimal at ++ 58 ∷ decimal len)) ≡ true
printable-file id at len =
    let print : (n : ℕ) → list_all is_printable (decimal n) ≡ true = λ n. printable-digits (decimal n) (digits-decimal n).all in
    list_all-append is_printable (decimal id) (58 ∷ (decimal at ++ 58 ∷ decimal len))
    ∙ and_from _ _ (print id) (list_all-append is_printable (decimal at) (58 ∷ decimal len) ∙ and_from _ _ (print at) (print len))

file_again : (most : ℕ) (parts : List (List ℕ)) (said : BytesWord) → file_range most parts ≡ Ok said → BytesAgain most said
unfolding read_bytes bytes_word
file_again most (id ∷ at ∷ len ∷ []) said e =
    let range = said_by a_file_range (read_number id & read_number at & read_up_to most len) said e in
    let p = range.0 in
    let all = both_said (read_number id & read_number at) (read_up_to most len) p range.1 in
    let two = both_said (read_number id) (read_number at) p.0 all.0 in
    let reads : map_ok a_file_range (read_number (decimal p.0.0) & read_number (decimal p.0.1) & read_up_to most (decimal p.1)) ≡ Ok (File p.0.0 p.0.1 p.1) = rw (read_number_again id p.0.0 two.0, read_number_again at p.0.1 two.1, read_up_to_again most len p.1 all.1) refl in
    subst (BytesAgain most) range.2 (record {
      reads = ap (file_range most) (three_parts p.0.0 p.0.1 p.1) ∙ reads;
      word = printable-file p.0.0 p.0.1 p.1;
    })
file_again most _ said e = cc

-- ---- all forms
of_form : (most : ℕ) (text digits zeros file : Bool) (a b c d : Result BytesWord Misread) (said : BytesWord) → (a ≡ Ok said → BytesAgain most said) → (b ≡ Ok said → BytesAgain most said) → (c ≡ Ok said → BytesAgain most said) → (d ≡ Ok said → BytesAgain most said) → cond text a (cond digits b (cond zeros c (cond file d (Err Words)))) ≡ Ok said → BytesAgain most said
of_form most true digits zeros file a b c d said f g h k e = f e
of_form most false true zeros file a b c d said f g h k e = g e
of_form most false false true file a b c d said f g h k e = h e
of_form most false false false true a b c d said f g h k e = k e
of_form most false false false false a b c d said f g h k e = cc

pub printable-word : (word : List ℕ) → is_word word ≡ true → list_all is_printable word ≡ true
printable-word word e = (and_parts (is_filled word) (list_all is_printable word) e).1

pub bytes_again : (most : ℕ) (word : List ℕ) (said : BytesWord) → is_word word ≡ true → read_bytes most word ≡ Ok said → BytesAgain most said
unfolding read_bytes
bytes_again most word said is e =
    of_form most (begins_with (codes "text:") word) (begins_with (codes "hex:") word) (begins_with (codes "zero:") word) (begins_with (codes "file:") word)
    (few_bytes most (drop 5 word) (Text (drop 5 word))) (of_hex most (decode_of (drop 4 word))) (map_ok Zero (read_up_to most (drop 5 word))) (file_range most (slice_split is_colon (drop 5 word))) said
    (text_again most (drop 5 word) said (printable-drop 5 word (printable-word word is))) (digits_again most (drop 4 word) said) (zeros_again most (drop 5 word) said) (file_again most (slice_split is_colon (drop 5 word)) said) e

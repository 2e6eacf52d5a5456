-- Words that commas join, cut again at the commas.
use Rattle.std.proofs.Common.{◌≡◌, ℕ, ◌<◌, Bool, true, false, cond, ◌&&◌, not, leb, ltb, eqb, List, [], ◌∷◌, ◌++◌, decimal, codes, append_assoc, append-nil, sym, ◌^◌, ap, ◌∙◌, refl, arith, ne_eqb}
use Rattle.std.proofs.lemmas.Bool.{and_from}
use Rattle.std.specs.List.{list_all, slice_split, onto_first, join_with_byte}
use Rattle.std.specs.Str.Parse.{AllDigits}
use Rattle.std.proofs.lemmas.List.Folds.{list_all-append}
use Rattle.std.proofs.lemmas.Str.Parse.{digit_from_value}
use Rattle.fab_base.proofs.Bools.{not_true as no_comma}
use Rattle.fab_words.specs.Rows.{is_filled}
use Rattle.fab_words.specs.Written.{is_word}
use Rattle.fab_grammar.specs.Capabilities.{is_comma}
use Rattle.fab_grammar.proofs.PartLemmas.{and_true}
use Rattle.fab_spell.proofs.Decimals.{decimal_digits}

-- no byte of the word is a comma
abbrev pub lacks_comma : List ℕ → Bool
lacks_comma word = list_all (λ byte. not (is_comma byte)) word

split_one : (word : List ℕ) → lacks_comma word ≡ true → slice_split is_comma word ≡ word ∷ []
split_one [] e = refl
split_one (b ∷ bs) e =
    let both = and_true (not (is_comma b)) (lacks_comma bs) e in
    ap (λ t. cond t ([] ∷ slice_split is_comma bs) (onto_first b (slice_split is_comma bs))) (no_comma (is_comma b) both.0)
    ∙ ap (onto_first b) (split_one bs both.1)

split_more : (word rest : List ℕ) → lacks_comma word ≡ true → slice_split is_comma (word ++ 44 ∷ rest) ≡ word ∷ slice_split is_comma rest
split_more [] rest e = refl
split_more (b ∷ bs) rest e =
    let both = and_true (not (is_comma b)) (lacks_comma bs) e in
    let more = bs ++ 44 ∷ rest in
    ap (λ t. cond t ([] ∷ slice_split is_comma more) (onto_first b (slice_split is_comma more))) (no_comma (is_comma b) both.0)
    ∙ ap (onto_first b) (split_more bs rest both.1)

pub split_joined : (word : List ℕ) (words : List (List ℕ)) → list_all lacks_comma (word ∷ words) ≡ true → slice_split is_comma (join_with_byte 44 (word ∷ words)) ≡ word ∷ words
split_joined word [] e = split_one word (and_true (lacks_comma word) true e).0
split_joined word (next ∷ words) e =
    let both = and_true (lacks_comma word) (list_all lacks_comma (next ∷ words)) e in
    split_more word (join_with_byte 44 (next ∷ words)) both.0 ∙ ap (λ parts. word ∷ parts) (split_joined next words both.1)

-- what is joined is a word

abbrev pub prints : List ℕ → Bool
prints word = list_all (λ byte. ltb 32 byte && leb byte 126) word

word_more : (word rest : List ℕ) → is_word word ≡ true → prints rest ≡ true → is_word (word ++ rest) ≡ true
word_more [] rest e more = cc
word_more (b ∷ bs) rest e more = list_all-append (λ byte. ltb 32 byte && leb byte 126) (b ∷ bs) rest ∙ and_from (prints (b ∷ bs)) (prints rest) e more

word_prints : (word : List ℕ) → is_word word ≡ true → prints word ≡ true
word_prints word e = (and_true (is_filled word) (prints word) e).1

pub joined_is_word : (word : List ℕ) (words : List (List ℕ)) → list_all is_word (word ∷ words) ≡ true → is_word (join_with_byte 44 (word ∷ words)) ≡ true
joined_is_word word [] e = (and_true (is_word word) true e).0
joined_is_word word (next ∷ words) e =
    let both = and_true (is_word word) (list_all is_word (next ∷ words)) e in
    let rest = word_prints (join_with_byte 44 (next ∷ words)) (joined_is_word next words both.1) in
    word_more word (44 ∷ join_with_byte 44 (next ∷ words)) both.0 rest

-- a number has no comma

digits_lack : (ds : List ℕ) → AllDigits 10 ds → lacks_comma ds ≡ true
digits_lack [] d = refl
digits_lack (c ∷ cs) d =
    let other : eqb c 44 ≡ false = ne_eqb c 44 (λ e. omega (arith, digit_from_value c d.0)) in
    and_from (not (is_comma c)) (lacks_comma cs) (ap not other) (digits_lack cs d.1)

pub decimal_lacks : (n : ℕ) → n < 2 ^ 64 → lacks_comma (decimal n) ≡ true
decimal_lacks n h = digits_lack (decimal n) (decimal_digits n h)

-- words that are joined one after another: a separator before each, where it is empty before the first

abbrev pub after_separator : List ℕ → List (List ℕ) → List ℕ
after_separator separator [] = []
after_separator separator (word ∷ words) = separator ++ join_with_byte 44 (word ∷ words)

joined_more : (word : List ℕ) (words : List (List ℕ)) → join_with_byte 44 (word ∷ words) ≡ word ++ after_separator (codes ",") words
joined_more word [] = sym (append-nil word)
joined_more word (next ∷ words) = refl

-- a word more
pub word_added : (from out begun now whole separator word : List ℕ) (words : List (List ℕ)) → begun ≡ out ++ separator → now ≡ begun ++ word → out ++ after_separator separator (word ∷ words) ≡ from ++ whole → now ++ after_separator (codes ",") words ≡ from ++ whole
word_added from out begun now whole separator word words first then is =
    ap (λ text. text ++ after_separator (codes ",") words) (then ∙ ap (λ text. text ++ word) first)
    ∙ append_assoc (out ++ separator) word (after_separator (codes ",") words)
    ∙ append_assoc out separator (word ++ after_separator (codes ",") words)
    ∙ ap (λ text. out ++ (separator ++ text)) (sym (joined_more word words)) ∙ is

-- at the beginning nothing is joined
pub none_added : (from : List ℕ) (words : List (List ℕ)) → from ++ after_separator [] words ≡ from ++ join_with_byte 44 words
none_added from [] = refl
none_added from (word ∷ words) = refl

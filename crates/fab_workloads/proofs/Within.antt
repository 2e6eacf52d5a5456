-- The rounds that a file spells are within its rules.
use Rattle.std.proofs.Common.{All, Bool, List, None, Option, Some, [], ap, arith, false, length, length-append, map, not, refl, subst, sym, true, ℕ, ◌%◌, ◌++◌, ◌+◌, ◌||◌, ◌∙◌, ◌∷◌, ◌≡◌, ◌≤◌}
use Rattle.std.proofs.Math.Nat.{zero-mod}
use Rattle.std.proofs.lemmas.Bool.{and_parts, eqb-true, or_parts as or_none}
use Rattle.std.proofs.lemmas.List.Elements.{All-append, All-cons, All-head, All-nil, All-tail}
use Rattle.std.proofs.lemmas.List.{length-map}
use Rattle.std.specs.List.{list_all}
use Rattle.std.specs.Prelude.{Err, Ok, Result, if◌then◌else◌, is_none, is_some, nat_le, slice_index_or, unwrap_or, ◌==◌}
use Rattle.fab_base.specs.Elements.{element_size}
use Rattle.fab_base.specs.declared.items.Num.{Num}
use Rattle.fab_base.specs.declared.script.BytesWord.{BytesWord}
use Rattle.fab_base.specs.declared.status.Why.TheVariants as why
use Rattle.fab_base.specs.declared.status.Why.{Why}
use Rattle.fab_model.specs.Calls.{word_bytes}
use Rattle.fab_words.specs.Rows.{is_text, lines_of, words_of}
use Rattle.fab_words.specs.Words.{first_of}
use Rattle.fab_words.specs.declared.misread.Misread.{Misread}
use Rattle.fab_grammar.specs.Rules.{is_limit, is_number, is_words}
use Rattle.fab_fold.specs.Shares.{AreAlike, AreShares}
use Rattle.fab_workloads.specs.Rounds.{AreWithin, IsRound}
use Rattle.fab_fold.specs.declared.coll.Coll.TheVariants.{Allgather, Allreduce, Barrier, Broadcast}
use Rattle.fab_fold.specs.declared.coll.Coll.{Coll}
use Rattle.fab_workloads.specs.declared.round.Round.{Round}
use Rattle.fab_words.specs.Bytes.{bytes_size}
use Rattle.fab_workloads.specs.declared.coll_lines.Verb.{Verb}
use Rattle.fab_workloads.specs.declared.coll_lines.Verb.TheVariants as verb
use Rattle.fab_workloads.specs.Grammar.{Before, Refusal, Said, a_round, are_alike, are_much, are_short, is_header, nothing, out_of_range, peers_of, peers_rules, read_lines, round_rules, rounds_said, said_of, said_rules, then_rounds, verb_of, verb_rules, verdict, why_of, with_line, with_peers, with_round, with_verb, with_words, word_rules}
use Rattle.fab_script.specs.declared.refused.ParseRefused.{ParseRefused}
use Rattle.std.specs.Prelude.{IfOk}
use Rattle.fab_base.proofs.Bools.{not_false}
use Rattle.fab_base.proofs.Numbers.{le_is, le_not as above}
use Rattle.fab_workloads.specs.declared.round.CollScript.{CollScript}
use Rattle.fab_workloads.specs.Reading.{IsSized, IsVerdict}
use Rattle.fab_workloads.proofs.Said.{Shape, Whole, said_right}

-- ---- tests

first_none : {A : Type 0} (b : Bool) (a : A) (xs : List (Bool × A)) → first_of ((b, a) ∷ xs) ≡ None → (b ≡ false) × (first_of xs ≡ None)
first_none true a xs e = absurd (cc)
first_none false a xs e = (refl, e)

-- ---- shares that are alike and short

module _ (share : BytesWord) where
  alike_bytes : (ws : List BytesWord) → All IsSized ws → list_all (λ other. bytes_size other == bytes_size share) ws ≡ true → AreAlike (bytes_size share) (map word_bytes ws)
  alike_bytes [] sized e = All-nil (λ bytes. length bytes ≡ bytes_size share)
  alike_bytes (w ∷ ws) sized e =
      let parts = and_parts _ _ e in
      All-cons (λ bytes. length bytes ≡ bytes_size share) (word_bytes w) (map word_bytes ws)
      (All-head IsSized w ws sized ∙ eqb-true (bytes_size w) (bytes_size share) parts.0) (alike_bytes ws (All-tail IsSized w ws sized) parts.1)

alike_is : (ws : List BytesWord) → All IsSized ws → are_alike ws ≡ true → list_all (λ share. nat_le (bytes_size share) 4096) ws ≡ true → (len : ℕ) × (len ≤ 4096) × AreAlike len (map word_bytes ws)
alike_is [] sized alike short = (0, omega arith, All-nil (λ bytes. length bytes ≡ 0))
alike_is (w ∷ ws) sized alike short = (
  bytes_size w,
  le_is (bytes_size w) 4096 (and_parts _ _ short).0,
  All-cons (λ bytes. length bytes ≡ bytes_size w) (word_bytes w) (map word_bytes ws) (All-head IsSized w ws sized) (alike_bytes w ws (All-tail IsSized w ws sized) (and_parts _ _ alike).1),
)

alike_whole : (num : Num) (ws : List BytesWord) → All IsSized ws → All (Whole num) ws → are_alike ws ≡ true → list_all (λ share. nat_le (bytes_size share) 4096) ws ≡ true
    → (len : ℕ) × (len ≤ 4096) × (len % element_size num ≡ 0) × AreAlike len (map word_bytes ws)
alike_whole num [] sized whole alike short = (0, omega arith, zero-mod (element_size num), All-nil (λ bytes. length bytes ≡ 0))
alike_whole num (w ∷ ws) sized whole alike short = (
  bytes_size w,
  le_is (bytes_size w) 4096 (and_parts _ _ short).0,
  ap (λ n. n % element_size num) (sym (All-head IsSized w ws sized)) ∙ All-head (Whole num) w ws whole,
  All-cons (λ bytes. length bytes ≡ bytes_size w) (word_bytes w) (map word_bytes ws) (All-head IsSized w ws sized) (alike_bytes w ws (All-tail IsSized w ws sized) (and_parts _ _ alike).1),
)

root_short : (ws : List BytesWord) → length ws ≡ 1 → All IsSized ws → list_all (λ share. nat_le (bytes_size share) 4096) ws ≡ true → length (slice_index_or (map word_bytes ws) 0 []) ≤ 4096
root_short [] one sized short = omega arith
root_short (w ∷ ws) one sized short = omega (arith, All-head IsSized w ws sized, le_is (bytes_size w) 4096 (and_parts _ _ short).0)

shares_so : (n : ℕ) (coll : Coll) (ws : List BytesWord) → Shape n coll ws → All IsSized ws → list_all (λ share. nat_le (bytes_size share) 4096) ws ≡ true
    → AreShares n coll (map word_bytes ws)
shares_so n Barrier ws shape sized short = ap (map word_bytes) shape
shares_so n (Broadcast r) ws shape sized short = (shape.0, length-map ws word_bytes ∙ shape.1, root_short ws shape.1 sized short)
shares_so n Allgather ws shape sized short = (length-map ws word_bytes ∙ shape.0, alike_is ws sized shape.1 short)
shares_so n (Allreduce op num) ws shape sized short = (length-map ws word_bytes ∙ shape.0, shape.1, alike_whole num ws sized shape.3 shape.2 short)

-- ---- line by line

four_none : (a b c d : Bool) (w x y z : Why) → first_of ((a, w) ∷ (b, x) ∷ (c, y) ∷ (d, z) ∷ []) ≡ None → (a ≡ false) × (b ≡ false) × (c ≡ false) × (d ≡ false)
four_none true b c d w x y z e = absurd (cc)
four_none false true c d w x y z e = absurd (cc)
four_none false false true d w x y z e = absurd (cc)
four_none false false false true w x y z e = absurd (cc)
four_none false false false false w x y z e = (refl, refl, refl, refl)

five_none : (a b c d f : Bool) (v w x y z : Why) → first_of ((a, v) ∷ (b, w) ∷ (c, x) ∷ (d, y) ∷ (f, z) ∷ []) ≡ None → (a ≡ false) × (b ≡ false) × (c ≡ false) × (d ≡ false) × (f ≡ false)
five_none true b c d f v w x y z e = absurd (cc)
five_none false b c d f v w x y z e = let more = four_none b c d f w x y z e in (refl, more.0, more.1, more.2, more.3)

abbrev GoodFor : Option ℕ → List Round → Type 0
GoodFor None rounds = rounds ≡ []
GoodFor (Some n) rounds = AreWithin n rounds

abbrev Good : Before → Type 0
Good before = GoodFor before.peers before.rounds

none_said : (o : Option ℕ) (rounds : List Round) → GoodFor o rounds → is_some o ≡ false → rounds ≡ []
none_said None rounds good e = good
none_said (Some n) rounds good e = absurd (cc)

peers_step : (before : Before) (args : List (List ℕ)) → Good before → first_of (peers_rules before args) ≡ None → Good (with_peers before (peers_of args))
unfolding peers_rules
peers_step before args good e = go (peers_of args) parts.3
  where
    parts : (is_some before.peers ≡ false) × (is_words (peers_of args) ≡ false) × (is_number (peers_of args) ≡ false) × ((is_limit (peers_of args) || out_of_range (peers_of args)) ≡ false)
    parts = four_none (is_some before.peers) (is_words (peers_of args)) (is_number (peers_of args)) (is_limit (peers_of args) || out_of_range (peers_of args)) why.Twice why.Words why.Number why.Limit e

    go : (r : Result ℕ Misread) → (is_limit r || out_of_range r) ≡ false → Good (with_peers before r)
    go (Ok n) f =
        let range = and_parts (nat_le 1 n) (nat_le n 32) (not_false _ (or_none (is_limit (Ok n)) (out_of_range (Ok n)) f).1) in
        subst (AreWithin n) (sym (none_said before.peers before.rounds good parts.0)) (le_is 1 n range.0, le_is n 32 range.1, omega arith, All-nil (IsRound n))
    go (Err fault) f = good

one_round : (o : Option ℕ) (rounds : List Round) (number : ℕ) (verb : Verb) (args : List (List ℕ)) (coll : Coll) (ws : List BytesWord) → GoodFor o rounds → is_none o ≡ false
    → said_of (unwrap_or o 0) verb args ≡ Ok (Some coll, ws) → nat_le 100 (length rounds) ≡ false
    → are_much (unwrap_or o 0) rounds ws ≡ false → GoodFor o (rounds ++ a_round number coll ws ∷ [])
one_round None rounds number verb args coll ws good some is few much = absurd (cc)
one_round (Some n) rounds number verb args coll ws good some is few much =
    let right = said_right n verb args (Some coll, ws) is in
    let short = not_false (are_short ws) (or_none _ _ much).0 in
    let sound : IsRound n (a_round number coll ws) = shares_so n coll ws (right.0 coll refl) right.1 short in (
      good.0,
      good.1,
      omega (arith, above 100 (length rounds) few, length-append rounds (a_round number coll ws ∷ [])),
      All-append (IsRound n) rounds (a_round number coll ws ∷ []) good.3 (All-cons (IsRound n) (a_round number coll ws) [] sound (All-nil (IsRound n))),
    )

round_step : (before : Before) (number : ℕ) (verb : Verb) (args : List (List ℕ)) → Good before → first_of (round_rules before verb args) ≡ None
    → Good (with_round before number (said_of (unwrap_or before.peers 0) verb args))
unfolding round_rules
round_step before number verb args good e = go (said_of (unwrap_or before.peers 0) verb args) refl e
  where
    go : (r : Result Said Misread) → said_of (unwrap_or before.peers 0) verb args ≡ r → first_of (said_rules before.peers before.rounds r) ≡ None → Good (with_round before number r)
    go (Err fault) is f = good
    go (Ok (None, ws)) is f = good
    go (Ok (Some coll, ws)) is f =
        let t = five_none (is_none before.peers) false false false (nat_le 100 (length before.rounds) || are_much (unwrap_or before.peers 0) before.rounds ws) why.Order why.Words why.Number why.Peer why.Limit f in
        let limits = or_none (nat_le 100 (length before.rounds)) (are_much (unwrap_or before.peers 0) before.rounds ws) t.4 in
        one_round before.peers before.rounds number verb args coll ws good t.0 is limits.0 limits.1

verb_step : (before : Before) (number : ℕ) (o : Option Verb) (args : List (List ℕ)) → Good before → first_of (verb_rules before o args) ≡ None → Good (with_verb before number o args)
verb_step before number None args good e = good
verb_step before number (Some verb.Peers) args good e = peers_step before args good e
verb_step before number (Some verb.Barrier) args good e = round_step before number verb.Barrier args good e
verb_step before number (Some verb.Broadcast) args good e = round_step before number verb.Broadcast args good e
verb_step before number (Some verb.Allgather) args good e = round_step before number verb.Allgather args good e
verb_step before number (Some verb.Allreduce) args good e = round_step before number verb.Allreduce args good e

words_step : (before : Before) (number : ℕ) (words : List (List ℕ)) → Good before → first_of (word_rules before words) ≡ None → Good (with_words before number words)
words_step before number [] good e = good
words_step before number (word ∷ args) good e = go before.has_header e
  where
    go : (b : Bool) → first_of (if b then verb_rules before (verb_of word) args else (not (is_header (word ∷ args)), why.Header) ∷ []) ≡ None
        → Good (if b then with_verb before number (verb_of word) args else record before { has_header = true })
    go true f = verb_step before number (verb_of word) args good f
    go false f = good

line_step : (before : Before) (number : ℕ) (line : List ℕ) → Good before → why_of before line ≡ None → Good (with_line before number line)
unfolding why_of with_line
line_step before number line good e = words_step before number (words_of line) good (first_none (not (is_text line)) why.NotText (word_rules before (words_of line)) e).1

lines_step : (before last : Before) (number : ℕ) (lines : List (List ℕ)) → Good before → read_lines before number lines ≡ Ok last → Good last
unfolding read_lines
lines_step before last number [] good e = let same : before ≡ last = cc in subst Good same good
lines_step before last number (line ∷ lines) good e = go (why_of before line) refl e (lines_step (with_line before number line) last (number + 1) lines)
  where
    go : (o : Option Why) → why_of before line ≡ o
        → (let r : Result Before Refusal = elim o [ Some why ↦ Err (number, why) | None ↦ read_lines (with_line before number line) (number + 1) lines ] in r ≡ Ok last)
        → (Good (with_line before number line) → read_lines (with_line before number line) (number + 1) lines ≡ Ok last → Good last) → Good last
    go None is f ih = ih (line_step before number line good is) f
    go (Some w) is f ih = absurd (cc (f))

-- ---- the file

said_end : (count peers : ℕ) (rounds : List Round) (b : Bool) (o : Option ℕ) (rs : List Round) → GoodFor o rs
    → (let none : Result (ℕ × List Round) Refusal = Err (count, why.Missing) in let head : Result (ℕ × List Round) Refusal = Err (0, why.Header) in
    (if b then elim o [ Some n ↦ Ok (n, rs) | None ↦ none ] else head) ≡ Ok (peers, rounds)) → AreWithin peers rounds
said_end count peers rounds false o rs good e = absurd (cc (e))
said_end count peers rounds true None rs good e = absurd (cc (e))
said_end count peers rounds true (Some n) rs good e =
    let same : (n, rs) ≡ (peers, rounds) = cc in
    subst (λ (q : ℕ × List Round). AreWithin q.0 q.1) same good

pub files_within : (bytes : List ℕ) (peers : ℕ) (rounds : List Round) → verdict bytes ≡ Ok (peers, rounds) → AreWithin peers rounds
unfolding verdict rounds_said
files_within bytes peers rounds e = go (read_lines nothing 1 (lines_of bytes)) refl e
  where
    go : (r : Result Before Refusal) → read_lines nothing 1 (lines_of bytes) ≡ r → then_rounds (length (lines_of bytes)) r ≡ Ok (peers, rounds) → AreWithin peers rounds
    go (Err refusal) is f = absurd (cc (f))
    go (Ok before) is f = said_end (length (lines_of bytes)) peers rounds before.has_header before.peers before.rounds (lines_step nothing before 1 (lines_of bytes) refl is) f

-- so is what is read
pub read_within : (bytes : List ℕ) (result : Result CollScript ParseRefused) → IsVerdict (verdict bytes) result → IfOk result (λ script. AreWithin script.peers script.rounds)
read_within bytes (Ok script) is = files_within bytes script.peers script.rounds is
read_within bytes (Err refused) is = tt

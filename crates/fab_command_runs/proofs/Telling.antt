-- The lines of a rank's rounds, one after another, and the parts of all ranks.
use Rattle.std.proofs.Common.{◌≡◌, ◌<◌, ◌+◌, ℕ, suc, List, [], ◌∷◌, ◌++◌, length, drop, take, map, get_or, refl, sym, ap, ap₂, ◌∙◌, arith, append_assoc, append-nil, flat_map, filter_map, codes, decimal, Result, Ok, Err, OnOk}
use Rattle.std.proofs.lemmas.List.Elements.{filter_map-append}
use Rattle.std.proofs.lemmas.List.{drop_more, flat_map_more, length-append, take-append-drop}
use Rattle.fab_base.specs.declared.peers.LineResult.{LineResult}
use Rattle.fab_model.specs.Calls.{upto}
use Rattle.fab_model.specs.Words.{Word, hex_or_dash, line_of, text_of}
use Rattle.fab_report.proofs.Blanks.{part_more, text_of-append}
use Rattle.fab_workloads.specs.declared.round.Round.{Round}
use Rattle.fab_workloads.specs.Plan.{round_ops, rounds_ops}
use Rattle.fab_fold.specs.Shares.{fold, outcome_of}
use Rattle.fab_workloads.specs.Rounds.{share_of}
use Rattle.fab_workloads.specs.Text.{coll_text, rank_lines, round_words, verb_word}
use Rattle.fab_workloads.proofs.Appended.{one_round}
use Rattle.fab_workload_laws.specs.CollLaws.{bytes_taken, received_of}

-- ---- one round

module _ (rounds : List Round) (k : ℕ) (round : Round) (below : k < length rounds) (is : round ≡ get_or rounds k round) where
  behind : drop k rounds ≡ round ∷ drop (k + 1) rounds
  behind = drop_more rounds k round below ∙ ap (λ x. x ∷ drop (k + 1) rounds) (sym is)

  pub split : rounds ≡ take k rounds ++ round ∷ drop (k + 1) rounds
  split = sym (take-append-drop k rounds) ∙ ap (λ rest. take k rounds ++ rest) behind

  -- its line is written, and those that are left are fewer
  pub round_told : (was now whole : List ℕ) → was ++ text_of (map round_words (drop k rounds)) ≡ whole → now ≡ was ++ line_of (round_words round) → now ++ text_of (map round_words (drop (k + 1) rounds)) ≡ whole
  round_told was now whole wrote writes =
      let rest = text_of (map round_words (drop (k + 1) rounds)) in
      ap (λ text. text ++ rest) writes ∙ append_assoc was (line_of (round_words round)) rest ∙ ap (λ rs. was ++ text_of (map round_words rs)) (sym behind) ∙ wrote

  -- its results are cut out of those of all rounds
  pub received_is : (peers r : ℕ) (results part : List LineResult) (done lines : ℕ) → done ≡ length (rounds_ops peers 1 r (take k rounds))
      → ((i : ℕ) (x : Round) → x.coll ≡ round.coll → length (round_ops peers i r x) ≡ lines) → part ≡ take lines (drop done results)
      → filter_map bytes_taken part ≡ received_of peers r results (take k rounds) round
  received_is peers r results part done lines at count cut =
      ap (filter_map bytes_taken) (cut ∙ ap₂ (λ n m. take n (drop m results)) (sym (count (1 + length (take k rounds)) round refl)) at)

  -- and so many results are of the rounds so far
  pub done_more : (peers r done lines : ℕ) → done ≡ length (rounds_ops peers 1 r (take k rounds)) → ((i : ℕ) (x : Round) → x.coll ≡ round.coll → length (round_ops peers i r x) ≡ lines)
      → done + lines ≡ length (rounds_ops peers 1 r (take (k + 1) rounds))
  done_more peers r done lines at count =
      let before = rounds_ops peers 1 r (take k rounds) in
      ap₂ (λ a b. a + b) at (sym (count (k + 1) round refl)) ∙ sym (length-append before (round_ops peers (k + 1) r round)) ∙ ap (λ x. length (before ++ round_ops peers (k + 1) r x)) is
      ∙ sym (ap length (one_round peers r rounds k round below))

-- what it makes of what it received is what the round comes to
pub told_so : (round : Round) (r : ℕ) (part : List LineResult) (was now : List ℕ) (received : List (List ℕ)) → filter_map bytes_taken part ≡ received
    → outcome_of round.coll r (share_of round r) received ≡ fold round.coll round.shares
    → now ≡ was ++ line_of (decimal round.line ∷ verb_word round.coll ∷ hex_or_dash (outcome_of round.coll r (share_of round r) (filter_map bytes_taken part)) ∷ []) → now ≡ was ++ line_of (round_words round)
told_so round r part was now received cut folds writes =
    writes ∙ ap (λ bytes. was ++ line_of (decimal round.line ∷ verb_word round.coll ∷ hex_or_dash bytes ∷ [])) (ap (outcome_of round.coll r (share_of round r)) cut ∙ folds)

-- one result more is looked at
pub taken_more : (results : List LineResult) (k : ℕ) (x : LineResult) (was now whole : List (List ℕ)) → k < length results → x ≡ get_or results k x → was ++ filter_map bytes_taken (drop k results) ≡ whole
    → now ≡ was ++ filter_map bytes_taken (x ∷ []) → now ++ filter_map bytes_taken (drop (k + 1) results) ≡ whole
taken_more results k x was now whole below is so_far more =
    let rest = drop (k + 1) results in
    let here : drop k results ≡ x ∷ rest = drop_more results k x below ∙ ap (λ y. y ∷ rest) (sym is) in
    ap (λ shares. shares ++ filter_map bytes_taken rest) more ∙ append_assoc was (filter_map bytes_taken (x ∷ [])) (filter_map bytes_taken rest)
    ∙ ap (λ shares. was ++ shares) (sym (ap (filter_map bytes_taken) here ∙ filter_map-append bytes_taken (x ∷ []) rest)) ∙ so_far

-- ---- lines

pub line_told : (from first second last : List ℕ) (x y z : Word) → first ≡ from ++ x ++ (32 ∷ y) → second ≡ first ++ (32 ∷ z) → last ≡ second ++ (10 ∷ []) → last ≡ from ++ line_of (x ∷ y ∷ z ∷ [])
line_told from first second last x y z one two end =
    let words : second ≡ from ++ (x ++ (32 ∷ (y ++ (32 ∷ z)))) =
    two ∙ ap (λ text. text ++ (32 ∷ z)) (one ∙ append_assoc from x (32 ∷ y)) ∙ append_assoc from (x ++ (32 ∷ y)) (32 ∷ z) ∙ ap (λ text. from ++ text) (append_assoc x (32 ∷ y) (32 ∷ z)) in
    end ∙ ap (λ text. text ++ (10 ∷ [])) words ∙ append_assoc from (x ++ (32 ∷ (y ++ (32 ∷ z)))) (10 ∷ [])

-- the line with a rank's number, and then those of its rounds
pub rank_part : {T E : Type 0} (res : Result T E) (from now next : List ℕ) (rounds : List Round) (r : ℕ) → now ≡ from ++ line_of (codes "peer" ∷ decimal r ∷ [])
    → OnOk res (next ≡ now ++ text_of (map round_words rounds)) → OnOk res (next ≡ from ++ text_of (rank_lines rounds r))
rank_part (Ok x) from now next rounds r one more =
    more ∙ ap (λ text. text ++ text_of (map round_words rounds)) one ∙ append_assoc from (line_of (codes "peer" ∷ decimal r ∷ [])) (text_of (map round_words rounds))
rank_part (Err e) from now next rounds r one more = tt

-- ---- all ranks

-- one rank more
pub rank_told : (rounds : List Round) (r : ℕ) (from was now : List ℕ) → was ≡ from ++ text_of (flat_map (rank_lines rounds) (upto r)) → now ≡ was ++ text_of (rank_lines rounds r)
    → now ≡ from ++ text_of (flat_map (rank_lines rounds) (upto (r + 1)))
rank_told rounds r from was now wrote writes =
    let one : suc r ≡ r + 1 = omega arith in
    part_more from was now (flat_map (rank_lines rounds) (upto r)) (rank_lines rounds r) wrote writes
    ∙ ap (λ lines. from ++ text_of lines) (flat_map_more (rank_lines rounds) [] (upto r) r)
    ∙ ap (λ n. from ++ text_of (flat_map (rank_lines rounds) (upto n))) one

pub whole_text : (peers : ℕ) (rounds : List Round) (a b c : List ℕ) → a ≡ line_of (codes "coll" ∷ codes "1" ∷ codes "peers" ∷ decimal peers ∷ []) → b ≡ a ++ text_of (flat_map (rank_lines rounds) (upto peers))
    → c ≡ b ++ line_of (codes "end" ∷ codes "done" ∷ []) → c ≡ coll_text peers rounds
unfolding coll_text
whole_text peers rounds a b c first parts last =
    let lines = flat_map (rank_lines rounds) (upto peers) in
    let end : List Word = codes "end" ∷ codes "done" ∷ [] in
    let tail : text_of lines ++ line_of end ≡ text_of (lines ++ end ∷ []) = sym (text_of-append lines (end ∷ []) ∙ ap (λ text. text_of lines ++ text) (append-nil (line_of end))) in
    last ∙ ap (λ text. text ++ line_of end) parts ∙ append_assoc a (text_of lines) (line_of end) ∙ ap (λ text. a ++ text) tail ∙ ap (λ text. text ++ text_of (lines ++ end ∷ [])) first

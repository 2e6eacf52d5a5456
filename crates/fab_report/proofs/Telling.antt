-- What is read strictly is what `traces` reads.
use Rattle.std.proofs.Common.{◌≡◌, ℕ, Bool, true, false, cond, List, [], ◌∷◌, ◌++◌, length, take, drop, filter_map, map, Option, Some, None, refl, sym, ap, ◌∙◌, eqb, codes}
use Rattle.std.specs.Prelude.{bytes_eq}
use Rattle.std.proofs.lemmas.Bool.{eqb-true}
use Rattle.std.proofs.lemmas.List.{take-append-drop}
use Rattle.std.proofs.lemmas.Slice.Eq.{bytes_eq-Decides}
use Rattle.fab_base.specs.declared.peers.Step.{Step}
use Rattle.fab_model.specs.Words.{Word, pieces_at, onto_first}
use Rattle.fab_model.specs.Report.{numbered, step_in, trace_in, traces}
use Rattle.fab_report.specs.Reading.{names_peer, step_told, steps_told, steps_behind, with_rest, begins_trace, lists_told, if_as_many, schedule_told}

-- ---- steps

step_numbered : (peers letter digit : ℕ) (digits : List ℕ) (step : Step) (b : Bool) → names_peer peers (digit ∷ digits) ≡ b → cond b (numbered letter (digit ∷ digits)) None ≡ Some step → numbered letter (digit ∷ digits) ≡ Some step
step_numbered peers letter digit digits step true is e = e
step_numbered peers letter digit digits step false is e = absurd (cc)

step_is : (peers : ℕ) (word : Word) (step : Step) → step_told peers word ≡ Some step → step_in word ≡ Some step
unfolding step_told step_in
step_is peers [] step e = absurd (cc)
step_is peers (letter ∷ []) step e = e
step_is peers (letter ∷ digit ∷ digits) step e = step_numbered peers letter digit digits step (names_peer peers (digit ∷ digits)) refl e

-- both are there
with_both : {X : Type 0} (o : Option X) (rest : Option (List X)) (all : List X) → with_rest o rest ≡ Some all → (x : X) × (xs : List X) × (o ≡ Some x) × (rest ≡ Some xs) × (x ∷ xs ≡ all)
with_both None rest all e = absurd (cc)
with_both (Some x) None all e = absurd (cc)
with_both (Some x) (Some xs) all e = (x, xs, refl, refl, cc)

steps_are : (peers : ℕ) (words : List Word) (steps : List Step) → steps_told peers words ≡ Some steps → filter_map step_in words ≡ steps
steps_are peers [] steps e = cc
steps_are peers (word ∷ words) steps e =
    let both = with_both (step_told peers word) (steps_told peers words) steps e in
    rw (step_is peers word both.0 both.2) (ap (λ xs. both.0 ∷ xs) (steps_are peers words both.1 both.3) ∙ both.4)

-- ---- a line that begins with `trace`

behind_are : (peers : ℕ) (rest : List ℕ) (steps : List Step) → steps_behind peers rest ≡ Some steps → trace_in (pieces_at 32 (codes "trace" ++ rest)) ≡ Some steps
unfolding steps_behind
behind_are peers [] steps e = e
behind_are peers (byte ∷ text) steps e = by (eqb byte 32) refl e
  where
    by : (b : Bool) → eqb byte 32 ≡ b → cond b (steps_told peers (pieces_at 32 text)) None ≡ Some steps → trace_in (pieces_at 32 (codes "trace" ++ byte ∷ text)) ≡ Some steps
    by true is f = rw (is, pieces_at) (ap Some (steps_are peers (pieces_at 32 text) steps f))
    by false is f = absurd (cc)

-- ---- another line

record Front (c : ℕ) (xs : List ℕ) : Type 0 where
  piece : List ℕ
  pieces : List (List ℕ)
  rest : List ℕ
  cut : pieces_at c xs ≡ piece ∷ pieces
  whole : xs ≡ piece ++ rest

front_more : (c x : ℕ) (xs : List ℕ) (b : Bool) → eqb x c ≡ b → Front c xs → Front c (x ∷ xs)
front_more c x xs true is ih = record { piece = []; pieces = pieces_at c xs; rest = x ∷ xs; cut = rw (is, pieces_at) refl; whole = refl }
front_more c x xs false is ih =
    record { piece = x ∷ ih.piece; pieces = ih.pieces; rest = ih.rest; cut = rw (is, pieces_at) (ap (onto_first x) ih.cut); whole = ap (λ ys. x ∷ ys) ih.whole }

front : (c : ℕ) (xs : List ℕ) → Front c xs
front c [] = record { piece = []; pieces = []; rest = []; cut = refl; whole = refl }
front c (x ∷ xs) = front_more c x xs (eqb x c) refl (front c xs)

-- the word `trace` begins a line only where the line begins with it
no_trace : (line word rest : List ℕ) (words : List Word) (b : Bool) → bytes_eq word (codes "trace") ≡ b → line ≡ word ++ rest → begins_trace line ≡ false → trace_in (word ∷ words) ≡ None
no_trace line word rest words false is whole not = rw (is, trace_in) refl
no_trace line word rest words true is whole not =
    let same : word ≡ codes "trace" = (bytes_eq-Decides word (codes "trace")).0 is in
    let begins : begins_trace line ≡ true = ap begins_trace (whole ∙ ap (λ w. w ++ rest) same) in
    absurd (cc)

others_none : (line : List ℕ) → begins_trace line ≡ false → trace_in (pieces_at 32 line) ≡ None
others_none line not =
    let f = front 32 line in
    ap trace_in f.cut ∙ no_trace line f.piece f.rest f.pieces (bytes_eq f.piece (codes "trace")) refl f.whole not

-- ---- all lines

line_step : (peers : ℕ) (line : List ℕ) (lines : List (List ℕ)) (lists : List (List Step)) (b : Bool) → begins_trace line ≡ b
    → cond b (with_rest (steps_behind peers (drop 5 line)) (lists_told peers lines)) (lists_told peers lines) ≡ Some lists
    → ((rest : List (List Step)) → lists_told peers lines ≡ Some rest → filter_map trace_in (map (pieces_at 32) lines) ≡ rest)
    → filter_map trace_in (map (pieces_at 32) (line ∷ lines)) ≡ lists
line_step peers line lines lists false is e ih = rw (others_none line is) (ih lists e)
line_step peers line lines lists true is e ih =
    let both = with_both (steps_behind peers (drop 5 line)) (lists_told peers lines) lists e in
    let begins : take 5 line ≡ codes "trace" = (bytes_eq-Decides (take 5 line) (codes "trace")).0 is in
    let whole : codes "trace" ++ drop 5 line ≡ line = ap (λ xs. xs ++ drop 5 line) (sym begins) ∙ take-append-drop 5 line in
    let here : trace_in (pieces_at 32 line) ≡ Some both.0 = ap (λ xs. trace_in (pieces_at 32 xs)) (sym whole) ∙ behind_are peers (drop 5 line) both.0 both.2 in
    rw here (ap (λ xs. both.0 ∷ xs) (ih both.1 both.3) ∙ both.4)

lines_are : (peers : ℕ) (lines : List (List ℕ)) (lists : List (List Step)) → lists_told peers lines ≡ Some lists → filter_map trace_in (map (pieces_at 32) lines) ≡ lists
lines_are peers [] lists e = cc
lines_are peers (line ∷ lines) lists e = line_step peers line lines lists (begins_trace line) refl e (lines_are peers lines)

pub lists_are : (peers : ℕ) (text : List ℕ) (lists : List (List Step)) → lists_told peers (pieces_at 10 text) ≡ Some lists → traces text ≡ lists
unfolding traces
lists_are peers text lists e = lines_are peers (pieces_at 10 text) lists e

-- a schedule that is told is one of as many lists as there are peers
pub told_lists : (peers : ℕ) (text : List ℕ) (lists : List (List Step)) → schedule_told peers text ≡ Some lists → (lists_told peers (pieces_at 10 text) ≡ Some lists) × (length lists ≡ peers)
unfolding schedule_told
told_lists peers text lists e = by (lists_told peers (pieces_at 10 text)) refl e
  where
    counted : (all : List (List Step)) (b : Bool) → eqb (length all) peers ≡ b → cond b (Some all) None ≡ Some lists → (all ≡ lists) × (length lists ≡ peers)
    counted all true is f = let same : all ≡ lists = cc in (same, ap length (sym same) ∙ eqb-true (length all) peers is)
    counted all false is f = absurd (cc)

    by : (o : Option (List (List Step))) → lists_told peers (pieces_at 10 text) ≡ o → if_as_many peers o ≡ Some lists → (lists_told peers (pieces_at 10 text) ≡ Some lists) × (length lists ≡ peers)
    by None is f = absurd (cc)
    by (Some all) is f = let both = counted all (eqb (length all) peers) refl f in (is ∙ ap Some both.0, both.1)

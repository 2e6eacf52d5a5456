-- A report tells its schedule: its text gives its lines, and its trace lines give the steps.
--     Tells lines schedule      lines that are read back, and whose trace lines tell this schedule
use Rattle.std.proofs.Common.{◌≡◌, ◌<◌, ◌+◌, ◌-◌, ◌*◌, ◌%◌, ◌^◌, ℕ, Bool, true, false, List, [], ◌∷◌, ◌++◌, map, filter_map, All, length, Option, Some, None, is_none, refl, ap, ap₂, subst, ◌∙◌, arith, append-nil, codes, decimal, slice_get}
use Rattle.std.specs.Fmt.{digits}
use Rattle.std.specs.List.{list_all, cons_option}
use Rattle.std.proofs.lemmas.Bool.{and_parts, and_from}
use Rattle.std.proofs.lemmas.Fmt.{decimal_by_steps_wide}
use Rattle.std.proofs.lemmas.List.Elements.{filter_map-append, All-head, All-tail}
use Rattle.std.proofs.lemmas.List.Folds.{list_all-append}
use Rattle.std.proofs.lemmas.List.Sums.{fold-append}
use Rattle.fab_base.specs.declared.entries.Kept.{Kept}
use Rattle.fab_base.specs.declared.peers.LineResult.{LineResult}
use Rattle.fab_base.specs.declared.peers.Step.{Step}
use Rattle.fab_base.specs.declared.peers.Step.TheVariants.{Do, Head, Tail, Sent, Draw, Read, Final}
use Rattle.fab_base.specs.declared.script.Line.{Line}
use Rattle.fab_model.specs.Laws.{named_peer, NamesBelow, ReportTellsSchedule}
use Rattle.fab_model.specs.Peers.{Actor}
use Rattle.fab_model.specs.Replay.{all_done}
use Rattle.fab_model.specs.Words.{Word, read_decimal}
use Rattle.fab_model.specs.Report.{kept_words, done_lines, stuck_line, amount_line, pending_of, deferred_of, step_word, peer_lines, first_line, last_line, actor_lines, all_lines, report_lines, report_of, numbered, step_in, trace_in, traces}
use Rattle.fab_model.proofs.Pieces.{readable, lines_back}
use Rattle.fab_model.proofs.Plain.{decimal_some, plain_decimal, plain_steps, other, other_line, other_numbered, others_done, others_stuck, others_left, others_amount}

-- ---- steps

pub read_push : (ds : List ℕ) (d : ℕ) → read_decimal (ds ++ d ∷ []) ≡ read_decimal ds * 10 + (d - 48)
read_push ds d = fold-append (λ n digit. n * 10 + (digit - 48)) 0 ds (d ∷ [])

-- std's `decimal` writes 64 digits at the most
read_back : (n : ℕ) → n < 10 ^ 64 → read_decimal (decimal n) ≡ n
read_back = decimal_by_steps_wide (λ n ds. read_decimal ds ≡ n) (λ n low. omega arith) (λ n ds high ih. omega (arith, read_push ds (48 + n % 10), ih))

with_number : (letter : ℕ) (digits : Word) → 0 < length digits → step_in (letter ∷ digits) ≡ numbered letter digits
unfolding step_in
with_number letter [] some = absurd (omega arith)
with_number letter (digit ∷ digits) some = refl

step_back : (step : Step) → named_peer step < 10 ^ 64 → step_in (step_word step) ≡ Some step
unfolding step_in
step_back Do small = refl
step_back (Head s) small = with_number 72 (decimal s) (decimal_some s) ∙ ap (λ n. Some (Head n)) (read_back s small)
step_back (Tail s) small = with_number 84 (decimal s) (decimal_some s) ∙ ap (λ n. Some (Tail n)) (read_back s small)
step_back (Sent t) small = with_number 83 (decimal t) (decimal_some t) ∙ ap (λ n. Some (Sent n)) (read_back t small)
step_back Draw small = refl
step_back Read small = refl
step_back Final small = refl

-- why a number is asked to have no more than 64 digits: of the least that has more only zeros are written
pub too_long : step_in (step_word (Head (10 ^ 64))) ≡ Some (Head 0)
unfolding digits step_in
too_long = refl

steps_back : (steps : List Step) → All (λ step. named_peer step < 10 ^ 64) steps → filter_map step_in (map step_word steps) ≡ steps
steps_back [] small = refl
steps_back (step ∷ steps) small =
    rw (step_back step (All-head (λ step. named_peer step < 10 ^ 64) step steps small)) (ap (λ ss. step ∷ ss) (steps_back steps (All-tail (λ step. named_peer step < 10 ^ 64) step steps small)))

-- ---- lines

record Tells (lines : List (List Word)) (schedule : List (List Step)) : Type 0 where
  readable : list_all readable lines ≡ true
  told : filter_map trace_in lines ≡ schedule

no_trace : (o : Option (List Step)) (rest : List (List Step)) → is_none o ≡ true → cons_option o rest ≡ rest
no_trace None rest none = refl
no_trace (Some steps) rest none = absurd (cc)

-- other lines tell nothing
tells_others : (lines : List (List Word)) → list_all other lines ≡ true → Tells lines []
tells_others [] all = record { readable = refl; told = refl }
tells_others (words ∷ lines) all =
    let parts = and_parts _ _ all in
    let here = and_parts _ _ parts.0 in
    let rest = tells_others lines parts.1 in
    record { readable = and_from _ _ here.0 rest.readable; told = no_trace (trace_in words) (filter_map trace_in lines) here.1 ∙ rest.told }

tells_append : (xs ys : List (List Word)) (s t : List (List Step)) → Tells xs s → Tells ys t → Tells (xs ++ ys) (s ++ t)
tells_append xs ys s t p q = record {
  readable = list_all-append readable xs ys ∙ and_from _ _ p.readable q.readable;
  told = filter_map-append trace_in xs ys ∙ ap₂ (λ (a b : List (List Step)). a ++ b) p.told q.told;
}

tells_steps : (steps : List Step) → All (λ step. named_peer step < 10 ^ 64) steps → Tells ((codes "trace" ∷ map step_word steps) ∷ []) (steps ∷ [])
tells_steps steps small = record { readable = rw (plain_steps steps) refl; told = ap (λ ss. ss ∷ []) (steps_back steps small) }

tells_peer : (p : ℕ) (lines : List Line) (results : List LineResult) (kept : List Kept) (pending deferred : ℕ) (steps : List Step) → All (λ step. named_peer step < 10 ^ 64) steps
    → Tells (peer_lines p lines results kept pending deferred steps) (steps ∷ [])
unfolding peer_lines
tells_peer p lines results kept pending deferred steps small =
    let here : Tells ((codes "peer" ∷ decimal p ∷ []) ∷ []) [] = tells_others _ (and_from _ _ (other_numbered (codes "peer") p refl refl) refl) in
    let done = tells_others (done_lines lines results) (others_done lines results) in
    let stuck = tells_others (stuck_line (slice_get lines (length results))) (others_stuck (slice_get lines (length results))) in
    let left = tells_others (map (λ k. codes "left" ∷ kept_words k) kept) (others_left kept) in
    let waiting = tells_others (amount_line (codes "pending") pending) (others_amount (codes "pending") pending refl refl) in
    let behind = tells_others (amount_line (codes "deferred") deferred) (others_amount (codes "deferred") deferred refl refl) in
    tells_append _ _ [] _ (tells_append _ _ [] [] (tells_append _ _ [] [] (tells_append _ _ [] [] (tells_append _ _ [] [] (tells_append _ _ [] [] here done) stuck) left) waiting) behind)
    (tells_steps steps small)

tells_all : (p : ℕ) (all : List Actor) (schedule : List (List Step)) → length schedule ≡ length all → NamesBelow (10 ^ 64) schedule → Tells (all_lines p all schedule) schedule
unfolding all_lines
tells_all p [] [] same small = record { readable = refl; told = refl }
tells_all p [] (steps ∷ schedule) same small = absurd (omega arith)
tells_all p (a ∷ all) [] same small = absurd (omega arith)
tells_all p (a ∷ all) (steps ∷ schedule) same small =
    let fits = λ (steps : List Step). All (λ step. named_peer step < 10 ^ 64) steps in
    tells_append (actor_lines p a steps) (all_lines (p + 1) all schedule) (steps ∷ []) schedule (tells_peer p a.lines a.results a.kept (pending_of a) (deferred_of a) steps (All-head fits steps schedule small))
    (tells_all (p + 1) all schedule (omega arith) (All-tail fits steps schedule small))

-- ---- the report

tells_first : (version peers : ℕ) → Tells (first_line version peers ∷ []) []
tells_first version peers =
    tells_others _ (and_from _ _ (other_line (codes "fabric") (decimal version ∷ codes "peers" ∷ decimal peers ∷ []) refl refl (rw (plain_decimal version, plain_decimal peers) refl)) refl)

tells_last : (done : Bool) → Tells (last_line done ∷ []) []
tells_last true = tells_others _ refl
tells_last false = tells_others _ refl

tells_report : (version : ℕ) (all : List Actor) (schedule : List (List Step)) → length schedule ≡ length all → NamesBelow (10 ^ 64) schedule → Tells (report_lines version all schedule) schedule
unfolding report_lines
tells_report version all schedule same small =
    subst (Tells _) (append-nil schedule)
    (tells_append (first_line version (length all) ∷ []) _ [] _ (tells_first version (length all)) (tells_append (all_lines 0 all schedule) _ schedule [] (tells_all 0 all schedule same small) (tells_last (all_done all))))

pub report_tells : ReportTellsSchedule
unfolding report_of traces
report_tells version all schedule same small =
    let lines = report_lines version all schedule in
    let tells = tells_report version all schedule same small in
    ap (filter_map trace_in) (lines_back lines tells.readable) ∙ filter_map-append trace_in lines (([] ∷ []) ∷ []) ∙ append-nil (filter_map trace_in lines) ∙ tells.told

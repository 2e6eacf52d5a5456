-- The laws, from the rules of the file.
use Rattle.std.proofs.Common.{All, List, [], ap, ap₂, append_assoc, get_or, inl, inr, map, not, refl, subst, sym, true, ℕ, ◌&&◌, ◌++◌, ◌<◌, ◌∙◌, ◌∷◌, ◌≡◌}
use Rattle.std.specs.Prelude.{codes, decimal, flat_map}
use Rattle.std.proofs.lemmas.List.Elements.{All-head, All-tail}
use Rattle.fab_base.specs.declared.peers.LineResult.{LineResult}
use Rattle.fab_answer.specs.Laws.{HasSizes, last_states}
use Rattle.fab_answer.specs.Settled.{is_settled}
use Rattle.fab_answer.proofs.Lists.{In, differ_is}
use Rattle.fab_answer.proofs.peers.AtRest.{done_at_rest, results_at_rest}
use Rattle.fab_workloads.specs.Plan.{plan_of}
use Rattle.fab_fold.specs.Shares.{AreReceived, needs, outcome_of}
use Rattle.fab_workloads.specs.Rounds.{AreWithin, IsRound, share_of}
use Rattle.fab_fold.specs.declared.coll.Coll.{Coll}
use Rattle.fab_workloads.specs.declared.round.Round.{Round}
use Rattle.fab_workload_laws.specs.CollLaws.{AreAnswered, BarriersHold, EachFolds, FoldsIn, NoneIsAhead, NoneIsStuck, ResultsAreTold, TextIsTold, results_so_far, rounds_results, told_rank, told_rounds}
use Rattle.fab_workloads.specs.Text.{coll_text, rank_lines, round_words, verb_word}
use Rattle.fab_model.specs.Calls.{upto}
use Rattle.fab_model.specs.Peers.{Actor}
use Rattle.fab_model.specs.Words.{Word, hex_or_dash, text_of}
use Rattle.fab_workload_laws.proofs.Ranks.{below_upto}
use Rattle.fab_workload_laws.proofs.Borne.{at_moment}
use Rattle.fab_workload_laws.proofs.CollDone.{all_short, plan_answered, plan_settled}
use Rattle.fab_workload_laws.proofs.Folds.{are_received, folds}
use Rattle.fab_workload_laws.proofs.Received.{has_sent, received_so, results_are}

pub each_settled : (peers : ℕ) (rounds : List Round) → AreWithin peers rounds → (is_settled (plan_of peers rounds) ≡ true) × HasSizes (plan_of peers rounds)
each_settled peers rounds within = plan_settled peers rounds within.1 within.2 (all_short peers rounds within.3)

pub each_answered : AreAnswered
each_answered peers rounds within = plan_answered peers rounds within.1 within.2 (all_short peers rounds within.3)

pub each_told : ResultsAreTold
each_told peers rounds within r lt = results_are peers rounds within.1 within.2 (all_short peers rounds within.3) r lt

the_round : (peers : ℕ) (before : List Round) (round : Round) (behind : List Round) → All (IsRound peers) (before ++ round ∷ behind) → IsRound peers round
the_round peers [] round behind all = All-head (IsRound peers) round behind all
the_round peers (x ∷ before) round behind all = the_round peers before round behind (All-tail (IsRound peers) x (before ++ round ∷ behind) all)

pub each_folds : EachFolds
each_folds peers rounds within schedule lawful rest r lt before round behind is =
    let settled = each_settled peers rounds within in
    let all_told = (results_at_rest (plan_of peers rounds) schedule settled.0 settled.1 lawful rest).0 in
    let told : results_so_far (last_states (plan_of peers rounds) schedule) r ≡ rounds_results peers 1 r (before ++ round ∷ behind) =
    ap (λ (xs : List (List LineResult)). get_or xs r []) all_told ∙ each_told peers rounds within r lt ∙ ap (rounds_results peers 1 r) is in
    let received = received_so peers r (last_states (plan_of peers rounds) schedule) before round behind told in
    let sound = the_round peers before round behind (subst (All (IsRound peers)) is within.3) in (
      subst (AreReceived round.coll r (share_of round r)) (sym received) (are_received peers round.coll round.shares r sound lt),
      ap (outcome_of round.coll r (share_of round r)) received ∙ folds peers round.coll round.shares r sound lt,
    )

pub none_stuck : NoneIsStuck
none_stuck peers rounds within schedule lawful rest =
    let settled = each_settled peers rounds within in
    done_at_rest (plan_of peers rounds) schedule settled.0 settled.1 lawful rest ∙ each_answered peers rounds within

-- ---- the text

same_flat : {X : Type 0} (f g : ℕ → List X) (xs : List ℕ) → ((x : ℕ) → In x xs → f x ≡ g x) → flat_map f xs ≡ flat_map g xs
same_flat f g [] same = refl
same_flat {X} f g (x ∷ xs) same = ap₂ (λ (ys zs : List X). ys ++ zs) (same x (inl refl)) (same_flat f g xs (λ y i. same y (inr i)))

told_is : (peers : ℕ) (rounds : List Round) (states : List Actor) (r : ℕ) → r < peers → FoldsIn peers rounds states → (before behind : List Round) → rounds ≡ before ++ behind
    → told_rounds peers states r before behind ≡ map round_words behind
told_is peers rounds states r lt folds before [] is = refl
told_is peers rounds states r lt folds before (round ∷ behind) is =
    ap₂ (λ (words : List Word) (lines : List (List Word)). words ∷ lines)
    (ap (λ (bytes : List ℕ). decimal round.line ∷ verb_word round.coll ∷ hex_or_dash bytes ∷ []) (folds r lt before round behind is).1)
    (told_is peers rounds states r lt folds (before ++ round ∷ []) behind (is ∙ sym (append_assoc before (round ∷ []) behind)))

pub text_told : TextIsTold
unfolding coll_text
text_told peers rounds within schedule lawful rest =
    let states = last_states (plan_of peers rounds) schedule in
    ap (λ (lines : List (List Word)). text_of ((codes "coll" ∷ codes "1" ∷ codes "peers" ∷ decimal peers ∷ []) ∷ lines ++ (codes "end" ∷ codes "done" ∷ []) ∷ []))
    (same_flat (told_rank peers rounds states) (rank_lines rounds) (upto peers) (λ r i.
    ap (λ (lines : List (List Word)). (codes "peer" ∷ decimal r ∷ []) ∷ lines)
    (told_is peers rounds states r (below_upto peers r i) (each_folds peers rounds within schedule lawful rest) [] rounds refl)))

pub none_ahead : NoneIsAhead
none_ahead peers rounds within schedule order m run before round behind is r s own other need passed =
    let settled = each_settled peers rounds within in
    has_sent peers rounds within.1 within.2 (all_short peers rounds within.3) m.states (at_moment (plan_of peers rounds) settled.0 schedule order m run)
    before round behind is r s own other need passed

pub barriers : BarriersHold
barriers peers rounds within schedule order m run before round behind is barrier r s own other differ passed =
    none_ahead peers rounds within schedule order m run before round behind is r s own other
    (subst (λ (coll : Coll). needs coll r s ≡ true) (sym barrier) (ap (λ b. not b && true) (differ_is r s differ))) passed

-- What holds of the script of every list of rounds that the file's rules allow.
--     OfEach P            P holds of each such list
--     AreSettled          its script is settled, and its sizes are those that the law of settled scripts asks for
--     AreAnswered         its answer leaves no line over
--     ResultsAreTold      its answer's results: a send and a receive come out well, and a wait takes the share that it waited for
--     EachFolds           at rest what each rank received in a round is what `outcome` asks for, and it makes of it what the round comes to
--     NoneIsStuck         at rest all lines are done
--     TextIsTold          at rest the text made of what the ranks received is the command's
--     ElementsAreFolded   each element of an allreduce is that of the first share, changed by that of each other in order of ranks
--     NoneIsAhead         who has passed a round has what it needs: at any moment of a replay, each rank whose share it needs
--                         has done the rounds before and its send of this round to it; in a barrier that is every other rank
use Rattle.std.specs.Prelude.{◌≡◌, ◌≢◌, ◌<◌, ◌≤◌, ◌+◌, ◌*◌, ◌++◌, ℕ, All, true, is_none, List, [], ◌∷◌, length, map, take, drop, filter_map, flat_map, codes, decimal, Option, Some, None, Ok, slice_get, slice_index_or}
use Rattle.std.specs.List.{list_all}
use Rattle.fab_base.specs.declared.entries.Entry.TheVariants.{Received}
use Rattle.fab_base.specs.declared.entries.Taken.TheVariants.{Success, Failure}
use Rattle.fab_base.specs.declared.peers.LineResult.{LineResult}
use Rattle.fab_base.specs.declared.peers.LineResult.TheVariants.{Waited}
use Rattle.fab_base.specs.declared.peers.Step.{Step}
use Rattle.fab_base.specs.Elements.{element_size}
use Rattle.fab_base.specs.declared.items.AtomicOp.{AtomicOp}
use Rattle.fab_base.specs.declared.items.Num.{Num}
use Rattle.fab_base.specs.declared.script.Bound.{Bound}
use Rattle.fab_atomics.specs.Operands.{element_at}
use Rattle.fab_model.specs.Laws.{Run}
use Rattle.fab_model.specs.Target.{element}
use Rattle.fab_model.specs.Orders.{Moment, turn}
use Rattle.fab_model.specs.Peers.{Actor, fabric}
use Rattle.fab_model.specs.Replay.{Lawful, all_done, at_rest, start}
use Rattle.fab_model.specs.Calls.{upto}
use Rattle.fab_model.specs.Views.{rule}
use Rattle.fab_model.specs.Words.{Word, hex_or_dash, text_of}
use Rattle.fab_answer.specs.Answer.{answer}
use Rattle.fab_answer.specs.Laws.{HasSizes, last_states, results_of}
use Rattle.fab_answer.specs.Settled.{is_settled}
use Rattle.fab_fold.specs.declared.coll.Coll.TheVariants.{Allreduce, Barrier}
use Rattle.fab_workloads.specs.declared.round.Round.{Round}
use Rattle.fab_fold.specs.Shares.{AreReceived, fold, needs, is_reducing, outcome_of}
use Rattle.fab_workloads.specs.Rounds.{AreWithin, share_of}
use Rattle.fab_workloads.specs.Grammar.{verdict}
use Rattle.fab_workloads.specs.Text.{coll_text, verb_word}
use Rattle.fab_workloads.specs.Plan.{plan_of, receive_ctx, receivers, round_ops, rounds_ops, send_to, senders}

abbrev pub OfEach : (ℕ → List Round → Type 0) → Type 0
OfEach P = (peers : ℕ) (rounds : List Round) → AreWithin peers rounds → P peers rounds

-- ---- one answer

abbrev pub AreSettled : Type 0
AreSettled = OfEach (λ peers rounds. is_settled (plan_of peers rounds) ≡ true)

abbrev pub HaveSizes : Type 0
HaveSizes = OfEach (λ peers rounds. HasSizes (plan_of peers rounds))

abbrev pub AreAnswered : Type 0
AreAnswered = OfEach (λ peers rounds. list_all is_none (answer (plan_of peers rounds)).next ≡ true)

-- ---- results

abbrev pub comes_out_well : ℕ → LineResult
comes_out_well other = LineResult.Done

-- a wait for the share of rank s in round i
abbrev pub share_came : ℕ → Round → ℕ → LineResult
share_came i round s = Waited (record { entry = Success (Received (receive_ctx i s) s (Some i) None (length (share_of round s)) (share_of round s)); bytes = None })

-- line by line as the lines of the round stand
abbrev pub round_results : ℕ → ℕ → ℕ → Round → List LineResult
round_results peers i r round =
    map comes_out_well (receivers peers round.coll r) ++ (map comes_out_well (senders peers round.coll r) ++ map (share_came i round) (senders peers round.coll r))

abbrev pub rounds_results : ℕ → ℕ → ℕ → List Round → List LineResult
rounds_results peers i r [] = []
rounds_results peers i r (round ∷ rounds) = round_results peers i r round ++ rounds_results peers (i + 1) r rounds

abbrev pub ResultsAreTold : Type 0
ResultsAreTold = OfEach (λ peers rounds. (r : ℕ) → r < peers → slice_index_or (answer (plan_of peers rounds)).results r [] ≡ rounds_results peers 1 r rounds)

-- ---- what the rounds come to

-- the bytes that a wait took
abbrev pub bytes_taken : LineResult → Option (List ℕ)
bytes_taken (Waited k) = elim k.entry [ Success entry ↦ elim entry [ Received ctx source tag imm len buf ↦ Some buf | _ ↦ None ] | Failure e ↦ None ]
bytes_taken _ = None

abbrev pub results_so_far : List Actor → ℕ → List LineResult
results_so_far states r = slice_index_or (results_of states) r []

-- what rank r received in the round that follows these, by the results of its lines
abbrev pub received_of : ℕ → ℕ → List LineResult → List Round → Round → List (List ℕ)
received_of peers r results before round =
    filter_map bytes_taken (take (length (round_ops peers (1 + length before) r round)) (drop (length (rounds_ops peers 1 r before)) results))

abbrev pub received_in : ℕ → List Actor → ℕ → List Round → Round → List (List ℕ)
received_in peers states r before round = received_of peers r (results_so_far states r) before round

-- what rank r received in each round is what `outcome` asks for, and it makes of it what the round comes to
abbrev pub RankFolds : ℕ → List Round → ℕ → List LineResult → Type 0
RankFolds peers rounds r results = (before : List Round) (round : Round) (behind : List Round) → rounds ≡ before ++ round ∷ behind
    → (let received = received_of peers r results before round in
    AreReceived round.coll r (share_of round r) received × (outcome_of round.coll r (share_of round r) received ≡ fold round.coll round.shares))

abbrev pub FoldsIn : ℕ → List Round → List Actor → Type 0
FoldsIn peers rounds states = (r : ℕ) → r < peers → RankFolds peers rounds r (results_so_far states r)

abbrev pub EachFolds : Type 0
EachFolds = OfEach (λ peers rounds. (schedule : List (List Step)) → Lawful (plan_of peers rounds) schedule → at_rest (last_states (plan_of peers rounds) schedule) ≡ true
    → FoldsIn peers rounds (last_states (plan_of peers rounds) schedule))

-- wherever a lawful schedule comes to rest, all lines are done
abbrev pub NoneIsStuck : Type 0
NoneIsStuck = OfEach (λ peers rounds. (schedule : List (List Step)) → Lawful (plan_of peers rounds) schedule → at_rest (last_states (plan_of peers rounds) schedule) ≡ true
    → all_done (last_states (plan_of peers rounds) schedule) ≡ true)

-- what rank r tells of a round that follows these: what it makes of what it received
abbrev pub told_words : ℕ → List Actor → ℕ → List Round → Round → List Word
told_words peers states r before round =
    decimal round.line ∷ verb_word round.coll ∷ hex_or_dash (outcome_of round.coll r (share_of round r) (received_in peers states r before round)) ∷ []

abbrev pub told_rounds : ℕ → List Actor → ℕ → List Round → List Round → List (List Word)
told_rounds peers states r before [] = []
told_rounds peers states r before (round ∷ rounds) = told_words peers states r before round ∷ told_rounds peers states r (before ++ round ∷ []) rounds

abbrev pub told_rank : ℕ → List Round → List Actor → ℕ → List (List Word)
told_rank peers rounds states r = (codes "peer" ∷ decimal r ∷ []) ∷ told_rounds peers states r [] rounds

abbrev pub told_text : ℕ → List Round → List Actor → List ℕ
told_text peers rounds states = text_of (
    (codes "coll" ∷ codes "1" ∷ codes "peers" ∷ decimal peers ∷ []) ∷ flat_map (told_rank peers rounds states) (upto peers) ++ (codes "end" ∷ codes "done" ∷ []) ∷ []
    )

-- at rest the text made of what the ranks received is the command's
abbrev pub TextIsTold : Type 0
TextIsTold = OfEach (λ peers rounds. (schedule : List (List Step)) → Lawful (plan_of peers rounds) schedule → at_rest (last_states (plan_of peers rounds) schedule) ≡ true
    → told_text peers rounds (last_states (plan_of peers rounds) schedule) ≡ coll_text peers rounds)

-- ---- element by element

-- an element of the first share, changed by that of each other share in turn
abbrev pub folded : AtomicOp → Num → ℕ → List ℕ → ℕ
folded op num so_far [] = so_far
folded op num so_far (b ∷ bs) = folded op num (element op num so_far b 0) bs

-- bytes, of which element i is a part
abbrev pub Reaches : Num → ℕ → List ℕ → Type 0
Reaches num i share = ((i + 1) * element_size num ≤ length share) × All (λ b. b < 256) share

abbrev pub ElementsAreFolded : Type 0
ElementsAreFolded = (op : AtomicOp) (num : Num) (i : ℕ) (share : List ℕ) (shares : List (List ℕ)) → is_reducing op ≡ true → All (Reaches num i) (share ∷ shares)
    → element_at num (fold (Allreduce op num) (share ∷ shares)) i ≡ folded op num (element_at num share i) (map (λ other. element_at num other i) shares)

-- ---- at any moment

-- the peers take turns, whichever can, and come to these states: so does a replay, and at each of its moments
abbrev pub AtAnyMoment : Bound → (List Actor → Type 0) → Type 0
AtAnyMoment bound P = (schedule : List (List Step)) (order : List ℕ) (m : Moment Actor Step) → Run (turn (rule fabric)) (start bound schedule) order m → P m.states

abbrev pub lines_done : List Actor → ℕ → ℕ
lines_done states r = length (results_so_far states r)

-- rank s has done all its lines of these rounds, and its send of the next one to rank r
abbrev pub HasSent : ℕ → List Round → List Actor → List Round → Round → ℕ → ℕ → Type 0
HasSent peers rounds states before round s r = (length (rounds_ops peers 1 s before) ≤ lines_done states s)
    × ((k : ℕ) × (k < lines_done states s) × (slice_get (rounds_ops peers 1 s rounds) k ≡ Some (send_to (1 + length before) (share_of round s) r)))

abbrev pub NoneIsAhead : Type 0
NoneIsAhead = OfEach (λ peers rounds. AtAnyMoment (plan_of peers rounds) (λ states.
    (before : List Round) (round : Round) (behind : List Round) → rounds ≡ before ++ round ∷ behind
    → (r s : ℕ) → r < peers → s < peers → needs round.coll r s ≡ true → length (rounds_ops peers 1 r (before ++ round ∷ [])) ≤ lines_done states r
    → HasSent peers rounds states before round s r))

abbrev pub BarriersHold : Type 0
BarriersHold = OfEach (λ peers rounds. AtAnyMoment (plan_of peers rounds) (λ states.
    (before : List Round) (round : Round) (behind : List Round) → rounds ≡ before ++ round ∷ behind → round.coll ≡ Barrier
    → (r s : ℕ) → r < peers → s < peers → r ≢ s → length (rounds_ops peers 1 r (before ++ round ∷ [])) ≤ lines_done states r
    → HasSent peers rounds states before round s r))

-- ---- files

-- what a file in the grammar spells is within its rules, so the laws above speak of every such file
abbrev pub FilesAreWithin : Type 0
FilesAreWithin = (bytes : List ℕ) (peers : ℕ) (rounds : List Round) → verdict bytes ≡ Ok (peers, rounds) → AreWithin peers rounds

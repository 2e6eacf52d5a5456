-- The words of the command, what a file of rounds spells, and the text that is due.
--     coll_file words                 the file of rounds, where the words are `coll FILE`
--     SpellsRounds files file peers rounds    the file is not too long, and in the grammar: it spells these rounds of so many ranks
--     BreaksRules files file line why the file is not too long, and not in the grammar: the first line that breaks a rule, and the first rule that it breaks
--     IsDue files file text           the text of what the file's rounds come to
--     AreUnread ..                    why there are no rounds
-- Where files are not told, each of these speaks of some bytes in the place of the file.
use Rattle.std.specs.Prelude.{◌≡◌, ℕ, List, [], ◌∷◌, bytes_eq, codes, Option, Some, None, Ok, Err, if◌then◌else◌}
use Rattle.fab_base.specs.Counts.{Rose}
use Rattle.fab_base.specs.declared.status.Status.{Status}
use Rattle.fab_base.specs.declared.status.Status.TheVariants.{ScriptRefused, TooLong, ReadFault, NoMemory}
use Rattle.fab_base.specs.declared.status.Why.{Why}
use Rattle.fab_outside.specs.Loading.{Files, IsOver, IsWhole}
use Rattle.fab_workloads.specs.declared.round.Round.{Round}
use Rattle.fab_workloads.specs.Grammar.{verdict}
use Rattle.fab_workloads.specs.Text.{coll_text}

-- `coll FILE`
abbrev pub coll_file : List (List ℕ) → Option (List ℕ)
coll_file (verb ∷ file ∷ []) = if bytes_eq verb (codes "coll") then Some file else None
coll_file _ = None

abbrev pub SpellsRounds : Files → List ℕ → ℕ → List Round → Type 0
SpellsRounds files file peers rounds = (bytes : List ℕ) × IsWhole files file bytes × (verdict bytes ≡ Ok (peers, rounds))

abbrev pub BreaksRules : Files → List ℕ → ℕ → Why → Type 0
BreaksRules files file line why = (bytes : List ℕ) × IsWhole files file bytes × (verdict bytes ≡ Err (line, why))

-- the file spells some rounds, and the text is what each rank makes of them: a function of the file
abbrev pub IsDue : Files → List ℕ → List ℕ → Type 0
IsDue files file text = (peers : ℕ) × (rounds : List Round) × SpellsRounds files file peers rounds × (text ≡ coll_text peers rounds)

-- these bytes were not read as rounds
abbrev pub AreUnspelt : List ℕ → Status → Type 0
AreUnspelt bytes (ScriptRefused line why) = verdict bytes ≡ Err (line, why)
AreUnspelt bytes NoMemory = Unit {0}
AreUnspelt bytes status = ⊥

abbrev pub AreUnread : Files → List ℕ → ℕ → ℕ → Option (List ℕ) → Status → Type 0
AreUnread files file faults faults' failed (ScriptRefused line why) = BreaksRules files file line why
AreUnread files file faults faults' failed (TooLong name) = (name ≡ file) × IsOver files file
AreUnread files file faults faults' failed (ReadFault name) = (name ≡ file) × Rose faults faults' × (failed ≡ Some file)
AreUnread files file faults faults' failed NoMemory = Unit {0}
AreUnread files file faults faults' failed status = ⊥

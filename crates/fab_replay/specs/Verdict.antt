-- What a checker says of a text, as the report of a run of a script.
--     verdict bound text      the answer
--     first_left 0 left       the lowest peer that has a step left
--     verdict_line verdict    what it is in a line
--     common xs ys            how many bytes both begin with: where they first differ, or the shorter ends
use Rattle.std.specs.Prelude.{ℕ, ◌+◌, ◌-◌, ◌==◌, true, false, List, [], ◌∷◌, ◌++◌, length, Option, Some, None, slice_index_or, bytes_eq, codes, decimal, if◌then◌else◌}
use Rattle.fab_base.specs.declared.peers.Step.{Step}
use Rattle.fab_base.specs.declared.script.Bound.{Bound}
use Rattle.fab_model.specs.Orders.{Moment}
use Rattle.fab_model.specs.Peers.{Actor}
use Rattle.fab_model.specs.Replay.{replayed, at_rest}
use Rattle.fab_model.specs.Report.{report_of}
use Rattle.fab_replay.specs.declared.verdicts.Verdict.{Verdict}
use Rattle.fab_replay.specs.declared.verdicts.Verdict.TheVariants.{Lawful, Left, Differs, NoSchedule}
use Rattle.fab_report.specs.Reading.{schedule_told}

abbrev pub first_left : ℕ → List (List Step) → Option ℕ
first_left p [] = None
first_left p ([] ∷ left) = first_left (p + 1) left
first_left p ((step ∷ steps) ∷ left) = Some p

abbrev pub common : List ℕ → List ℕ → ℕ
common [] ys = 0
common (x ∷ xs) [] = 0
common (x ∷ xs) (y ∷ ys) = if x == y then 1 + common xs ys else 0

-- the number, from 1, of the peer's first step that is left
abbrev pub number_left : List (List Step) → List (List Step) → ℕ → ℕ
number_left schedule left p = length (slice_index_or schedule p []) - length (slice_index_or left p []) + 1

-- of a lawful schedule
abbrev pub compared : List Actor → List ℕ → List ℕ → Verdict
compared last report text = if bytes_eq report text then Lawful (at_rest last) else Differs (common report text)

abbrev pub judged : ℕ → List (List Step) → Moment Actor Step → List ℕ → Verdict
judged version schedule end text = elim (first_left 0 end.left) [
  | Some p ↦ Left p (number_left schedule end.left p)
  | None ↦ compared end.states (report_of version end.states schedule) text
]

abbrev pub verdict : Bound → List ℕ → Verdict
verdict bound text = elim (schedule_told bound.script.conf.peers text) [
  | None ↦ NoSchedule
  | Some schedule ↦ judged bound.script.version schedule (replayed bound schedule) text
]

abbrev pub verdict_line : Verdict → List ℕ
verdict_line (Lawful true) = codes "lawful, at rest" ++ 10 ∷ []
verdict_line (Lawful false) = codes "lawful, not at rest" ++ 10 ∷ []
verdict_line (Left peer step) = codes "not lawful peer " ++ decimal peer ++ codes " step " ++ decimal step ++ 10 ∷ []
verdict_line (Differs at) = codes "differs at " ++ decimal at ++ 10 ∷ []
verdict_line NoSchedule = codes "no schedule" ++ 10 ∷ []

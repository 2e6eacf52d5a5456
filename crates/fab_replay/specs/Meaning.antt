-- What the answers of a checker mean.
--     IsReport bound text rest       the text is the report of a lawful schedule of the script
--     IsLeftOver bound text p step   the schedule that the text tells is not lawful: this is the first step of the lowest peer that has one left
--     IsOther bound text at          the schedule is lawful, and its report is another text
--     Means bound text answer        what the answer says of the text
--     IsOrderOf bound text order     these peers take the turns of the replay of the schedule that the text tells, in this order
use Rattle.std.specs.Prelude.{◌≡◌, ℕ, ◌-◌, ◌+◌, ◌<◌, Bool, List, [], length, None, Some, slice_index_or}
use Rattle.fab_base.specs.declared.peers.Step.{Step}
use Rattle.fab_base.specs.declared.script.Bound.{Bound}
use Rattle.fab_model.specs.Laws.{Run}
use Rattle.fab_model.specs.Orders.{turn}
use Rattle.fab_model.specs.Peers.{fabric}
use Rattle.fab_model.specs.Replay.{Lawful, replayed, start, at_rest}
use Rattle.fab_model.specs.Report.{report}
use Rattle.fab_model.specs.Views.{rule}
use Rattle.fab_replay.specs.declared.verdicts.Verdict.{Verdict}
use Rattle.fab_replay.specs.declared.verdicts.Verdict.TheVariants as answer
use Rattle.fab_report.specs.Reading.{schedule_told}
use Rattle.fab_replay.specs.Verdict.{common}

-- `rest` says whether the peers are at rest at its end
pub record IsReport (bound : Bound) (text : List ℕ) (rest : Bool) : Type 0 where
  pub schedule : List (List Step)
  pub told : schedule_told bound.script.conf.peers text ≡ Some schedule
  pub lawful : Lawful bound schedule
  pub text_is : text ≡ report bound schedule
  pub rest_is : at_rest (replayed bound schedule).states ≡ rest

-- `step` is the number of the step among all of the peer, from 1
pub record IsLeftOver (bound : Bound) (text : List ℕ) (p step : ℕ) : Type 0 where
  pub schedule : List (List Step)
  pub told : schedule_told bound.script.conf.peers text ≡ Some schedule
  pub unlawful : Lawful bound schedule → ⊥
  pub has_left : 0 < length (slice_index_or (replayed bound schedule).left p [])
  pub lower_have_none : (q : ℕ) → q < p → slice_index_or (replayed bound schedule).left q [] ≡ []
  pub number : step ≡ length (slice_index_or schedule p []) - length (slice_index_or (replayed bound schedule).left p []) + 1

-- `at` is the offset of the first byte that differs, or the length of the shorter
pub record IsOther (bound : Bound) (text : List ℕ) (at : ℕ) : Type 0 where
  pub schedule : List (List Step)
  pub told : schedule_told bound.script.conf.peers text ≡ Some schedule
  pub lawful : Lawful bound schedule
  pub differs : text ≡ report bound schedule → ⊥
  pub at_is : at ≡ common (report bound schedule) text

abbrev pub Means : Bound → List ℕ → Verdict → Type 0
Means bound text (answer.Lawful rest) = IsReport bound text rest
Means bound text (answer.Left p step) = IsLeftOver bound text p step
Means bound text (answer.Differs at) = IsOther bound text at
Means bound text answer.NoSchedule = schedule_told bound.script.conf.peers text ≡ None

pub record IsOrderOf (bound : Bound) (text order : List ℕ) : Type 0 where
  pub schedule : List (List Step)
  pub told : schedule_told bound.script.conf.peers text ≡ Some schedule
  pub leads : Run (turn (rule fabric)) (start bound schedule) order (replayed bound schedule)

-- The laws of the matching machine: its end does not depend on whose turn it is, and a report tells its schedule.
--     Run turn m order x      the peers named take their next steps, in this order, and this leads from m to x
--     AtEnd turn x            no peer can take its next step
--     NamesBelow n schedule   the peers that the steps name have numbers below n
use Rattle.std.specs.Prelude.{◌≡◌, ◌<◌, ◌≤◌, ◌^◌, ℕ, List, [], ◌∷◌, length, All, Option, Some, None, ◌↔◌}
use Rattle.fab_base.specs.declared.peers.Step.{Step}
use Rattle.fab_base.specs.declared.peers.Step.TheVariants.{Do, Head, Tail, Sent, Draw, Read, Final}
use Rattle.fab_base.specs.declared.script.Bound.{Bound}
use Rattle.fab_model.specs.Orders.{Moment, turn, Reached}
use Rattle.fab_model.specs.Peers.{Actor, fabric}
use Rattle.fab_model.specs.Replay.{Lawful, opening, replayed, start}
use Rattle.fab_model.specs.Report.{report, report_of, traces}
use Rattle.fab_model.specs.Views.{rule}

abbrev pub Run : {M : Type 0} → (M → ℕ → Option M) → M → List ℕ → M → Type 0
Run turn m [] x = m ≡ x
Run {M} turn m (p ∷ order) x = (next : M) × (turn m p ≡ Some next) × Run turn next order x

abbrev pub AtEnd : {M : Type 0} → (M → ℕ → Option M) → M → Type 0
AtEnd turn m = (p : ℕ) → turn m p ≡ None

-- whichever peer that can takes each turn, at the end the states and the steps left over are those of the replay
abbrev pub EveryOrderEndsAlike : Type 0
EveryOrderEndsAlike = (bound : Bound) (schedule : List (List Step)) (order : List ℕ) (last : Moment Actor Step)
    → Run (turn (rule fabric)) (start bound schedule) order last → AtEnd (turn (rule fabric)) last → last ≡ replayed bound schedule

-- the replay is itself such an order, and goes on to the end
abbrev pub TheReplayIsAnOrder : Type 0
TheReplayIsAnOrder = (bound : Bound) (schedule : List (List Step))
    → (order : List ℕ) × Run (turn (rule fabric)) (start bound schedule) order (replayed bound schedule) × AtEnd (turn (rule fabric)) (replayed bound schedule)

-- some order takes all steps of the schedule and leads to these states, exactly where the schedule is lawful and its replay ends in them
abbrev pub LawfulIsReached : Type 0
LawfulIsReached = (bound : Bound) (schedule : List (List Step)) (last : List Actor)
    → Reached (rule fabric) (opening bound) schedule last ↔ (Lawful bound schedule × ((replayed bound schedule).states ≡ last))

-- ---- what a report tells

-- the number of the peer that a step names, and 0 where it names none
abbrev pub named_peer : Step → ℕ
named_peer (Head source) = source
named_peer (Tail source) = source
named_peer (Sent t) = t
named_peer Do = 0
named_peer Draw = 0
named_peer Read = 0
named_peer Final = 0

abbrev pub NamesBelow : ℕ → List (List Step) → Type 0
NamesBelow n schedule = All (λ steps. All (λ step. named_peer step < n) steps) schedule

-- whatever states the peers are in, their report tells a schedule that has one list of steps for each of them; std's `decimal` writes only the last 64 digits of a number
abbrev pub ReportTellsSchedule : Type 0
ReportTellsSchedule = (version : ℕ) (all : List Actor) (schedule : List (List Step))
    → length schedule ≡ length all → NamesBelow (10 ^ 64) schedule → traces (report_of version all schedule) ≡ schedule

-- and so does the report of the replay of such a schedule, lawful or not
abbrev pub BoundReportTellsSchedule : Type 0
BoundReportTellsSchedule = (bound : Bound) (schedule : List (List Step))
    → length schedule ≡ bound.script.conf.peers → NamesBelow (10 ^ 64) schedule → traces (report bound schedule) ≡ schedule

-- a lawful schedule names only the script's own peers
abbrev pub LawfulReportTellsSchedule : Type 0
LawfulReportTellsSchedule = (bound : Bound) (schedule : List (List Step))
    → Lawful bound schedule → length schedule ≡ bound.script.conf.peers → bound.script.conf.peers ≤ 10 ^ 64 → traces (report bound schedule) ≡ schedule

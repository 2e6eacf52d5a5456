-- Schedules that are not lawful, each for one test of one step that fails.
--     Refuses bound schedule p outcomes      the replay gets stuck, and then these are the outcomes of the tests of p's next step
use Rattle.std.proofs.Common.{◌≡◌, ℕ, suc, Bool, false, List, [], ◌∷◌, Some, None, slice_get, arith}
use Rattle.fab_base.specs.declared.peers.Step.{Step}
use Rattle.fab_base.specs.declared.script.Bound.{Bound}
use Rattle.fab_model.specs.Orders.{Moment, steps_left}
use Rattle.fab_model.specs.Peers.{Actor}
use Rattle.fab_model.specs.Replay.{Lawful, at_rest, replayed}
use Rattle.fab_model.specs.Report.{report, traces}
use Rattle.std.specs.Prelude.{bytes_eq}
use Rattle.std.proofs.lemmas.Slice.Eq.{bytes_eq-Decides}
use Rattle.fab_model.proofs.Scripts.{Shows}
use Rattle.fab_model.proofs.Tests.{tests}

-- the tests of the next step of the peer, if it has one
abbrev pub next_tests : Moment Actor Step → ℕ → List Bool
next_tests m p = elim (slice_get m.left p) [
  | None ↦ []
  | Some steps ↦ elim steps [ [] ↦ [] | step ∷ rest ↦ elim (slice_get m.states p) [ None ↦ [] | Some a ↦ tests m.states p a step ] ]
]

pub record Refuses (bound : Bound) (schedule : List (List Step)) (p : ℕ) (outcomes : List Bool) : Type 0 where
  pub unlawful : Lawful bound schedule → ⊥
  pub outcomes_are : next_tests (replayed bound schedule) p ≡ outcomes

-- so many steps are left over, and one more
pub refuses : (bound : Bound) (schedule : List (List Step)) (p : ℕ) (outcomes : List Bool) (more : ℕ) → steps_left (replayed bound schedule) ≡ suc more → next_tests (replayed bound schedule) p ≡ outcomes
    → Refuses bound schedule p outcomes
refuses bound schedule p outcomes more left are = record { unlawful = λ none. omega (arith, left, none); outcomes_are = are }

-- the script with these sizes: how many transmit operations may be under way, how many receives posted, and how many entries unread
abbrev pub sized : ℕ → ℕ → ℕ → Bound → Bound
sized tx rx cq bound = record bound {
  script = (let script = bound.script in record script {
    conf = (let conf = script.conf in record conf { info = (let info = conf.info in record info { tx = tx; rx = rx; cq = cq }) });
  });
}

-- ---- reports

-- why a text is not the report of a lawful schedule that ends at rest: another report, a step left over, or no rest
pub other_report : (bound : Bound) (text : List ℕ) → bytes_eq (report bound (traces text)) text ≡ false → Shows bound text → ⊥
other_report bound text differs shows = let same = (bytes_eq-Decides (report bound (traces text)) text).1 shows.report_is in absurd (cc (differs, same))

pub step_left : (bound : Bound) (text : List ℕ) (more : ℕ) → steps_left (replayed bound (traces text)) ≡ suc more → Shows bound text → ⊥
step_left bound text more left shows = omega (arith, left, shows.lawful)

pub no_rest : (bound : Bound) (text : List ℕ) → at_rest (replayed bound (traces text)).states ≡ false → Shows bound text → ⊥
no_rest bound text busy shows = absurd (cc (busy, shows.rest))

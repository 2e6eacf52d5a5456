-- What `replay` finds in the files that it loads, and what it writes.
--     IsChecked files file trace line     the line says what is to be said of that trace, as a report of that script
--     LeadsOn files file trace name       that is a file of the script, or the trace behind a script that was read
--     IsUnchecked ..                      why there is no line
use Rattle.std.specs.Prelude.{◌≡◌, ℕ, ◌⊎◌, List, Option, Some}
use Rattle.fab_base.specs.Counts.{Rose}
use Rattle.fab_base.specs.declared.script.Bound.{Bound}
use Rattle.fab_base.specs.declared.status.Status.{Status}
use Rattle.fab_base.specs.declared.status.Status.TheVariants.{ScriptRefused, TooLong, ReadFault, NoMemory}
use Rattle.fab_replay.specs.Verdict.{verdict, verdict_line}
use Rattle.fab_outside.specs.Loading.{Files, IsOver, IsRead, IsWhole, IsWrong, LeadsTo}

-- the file spells a script, its payload files are read, and this is the line on the whole file `trace`
pub record IsChecked (files : Files) (file trace line : List ℕ) : Type 0 where
  pub bound : Bound
  pub read : IsRead files file bound
  pub text : List ℕ
  pub whole : IsWhole files trace text
  pub says : line ≡ verdict_line (verdict bound text)

abbrev pub LeadsOn : Files → List ℕ → List ℕ → List ℕ → Type 0
LeadsOn files file trace name = LeadsTo files file name ⊎ ((name ≡ trace) × ((bound : Bound) × IsRead files file bound))

abbrev pub IsUnchecked : Files → List ℕ → List ℕ → ℕ → ℕ → Option (List ℕ) → Status → Type 0
IsUnchecked files file trace faults faults' failed (ScriptRefused line why) = IsWrong files file line why
IsUnchecked files file trace faults faults' failed (TooLong name) = LeadsOn files file trace name × IsOver files name
IsUnchecked files file trace faults faults' failed (ReadFault name) = LeadsOn files file trace name × Rose faults faults' × (failed ≡ Some name)
IsUnchecked files file trace faults faults' failed NoMemory = Unit {0}
IsUnchecked files file trace faults faults' failed status = ⊥

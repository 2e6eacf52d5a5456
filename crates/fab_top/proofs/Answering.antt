-- Where nothing stands in the way of a command, it is carried out, or memory is wanting.
use Rattle.std.proofs.Common.{◌≡◌, ℕ, List, Option, Some, inl, inr, refl, sym, ap, ◌∙◌}
use Rattle.fab_base.specs.Counts.{Rose}
use Rattle.fab_base.specs.declared.status.Status.{Status}
use Rattle.fab_base.specs.declared.status.Status.TheVariants.{Done, Stuck, Usage, ScriptRefused, TooLong, ReadFault, WriteFault, NoMemory}
use Rattle.fab_workloads.specs.declared.workload.Workload.{Workload}
use Rattle.fab_workloads.specs.Commands.{payload_file, workload_of}
use Rattle.fab_base.specs.declared.status.Why.{Why}
use Rattle.fab_top.specs.Checking.{LeadsOn}
use Rattle.fab_command_runs.specs.Files.{BreaksRules, coll_file}
use Rattle.fab_outside.specs.Commands.{replay_files, script_file}
use Rattle.fab_outside.specs.Loading.{Files, IsOver, IsUnread, IsWrong}
use Rattle.fab_top.specs.Runs.{EndsBench, EndsCheck, IsAnswered, IsUnhindered}

-- the status of a workload's command
pub bench_answered : (files : Files) (words : List (List ℕ)) (f f' s s' : ℕ) (w : Workload) (status : Status) → workload_of words ≡ Some w → EndsBench status
    → ((name : List ℕ) → status ≡ TooLong name → (payload_file words ≡ Some name) × IsOver files name) → ((name : List ℕ) → status ≡ ReadFault name → Rose f f')
    → (status ≡ WriteFault → Rose s s') → IsUnhindered files words f f' s s' → IsAnswered status
bench_answered files words f f' s s' w Done is ends long unread fault u = tt
bench_answered files words f f' s s' w Stuck is ends long unread fault u = tt
bench_answered files words f f' s s' w Usage is ends long unread fault u = absurd ends
bench_answered files words f f' s s' w (ScriptRefused line why) is ends long unread fault u = absurd ends
bench_answered files words f f' s s' w (TooLong name) is ends long unread fault u = (let l = long name refl in absurd (u.within name (inr (inl (w, is, l.0))) l.1))
bench_answered files words f f' s s' w (ReadFault name) is ends long unread fault u = absurd (u.loads (unread name refl))
bench_answered files words f f' s s' w WriteFault is ends long unread fault u = absurd (u.takes (fault refl))
bench_answered files words f f' s s' w NoMemory is ends long unread fault u = tt

-- the status where no script was read
pub unread_answered : (files : Files) (words : List (List ℕ)) (f f' s s' : ℕ) (failed : Option (List ℕ)) (file : List ℕ) (status : Status) → script_file words ≡ Some file
    → IsUnread files file f f' failed status → IsUnhindered files words f f' s s' → IsAnswered status
unread_answered files words f f' s s' failed file Done is unread u = tt
unread_answered files words f f' s s' failed file Stuck is unread u = tt
unread_answered files words f f' s s' failed file Usage is unread u = absurd unread
unread_answered files words f f' s s' failed file (ScriptRefused line why) is unread u = absurd (u.spelt line why (inl (file, inl is, unread)))
unread_answered files words f f' s s' failed file (TooLong name) is unread u = absurd (u.within name (inl (file, is, unread.0)) unread.1)
unread_answered files words f f' s s' failed file (ReadFault name) is unread u = absurd (u.loads unread.1)
unread_answered files words f f' s s' failed file WriteFault is unread u = absurd unread
unread_answered files words f f' s s' failed file NoMemory is unread u = tt

-- the status of the command that checks a report
pub check_answered : (files : Files) (words : List (List ℕ)) (f f' s s' : ℕ) (file trace : List ℕ) (status : Status) → replay_files words ≡ Some (file, trace) → EndsCheck status
    → ((line : ℕ) (why : Why) → status ≡ ScriptRefused line why → IsWrong files file line why)
    → ((name : List ℕ) → status ≡ TooLong name → LeadsOn files file trace name × IsOver files name) → ((name : List ℕ) → status ≡ ReadFault name → Rose f f')
    → (status ≡ WriteFault → Rose s s') → IsUnhindered files words f f' s s' → IsAnswered status
check_answered files words f f' s s' file trace Done is ends wrong long unread fault u = tt
check_answered files words f f' s s' file trace Stuck is ends wrong long unread fault u = tt
check_answered files words f f' s s' file trace Usage is ends wrong long unread fault u = absurd ends
check_answered files words f f' s s' file trace (ScriptRefused line why) is ends wrong long unread fault u = absurd (u.spelt line why (inl (file, inr (trace, is), wrong line why refl)))
check_answered files words f f' s s' file trace (TooLong name) is ends wrong long unread fault u = (let l = long name refl in absurd (u.within name (inr (inr (inl (file, trace, is, l.0)))) l.1))
check_answered files words f f' s s' file trace (ReadFault name) is ends wrong long unread fault u = absurd (u.loads (unread name refl))
check_answered files words f f' s s' file trace WriteFault is ends wrong long unread fault u = absurd (u.takes (fault refl))
check_answered files words f f' s s' file trace NoMemory is ends wrong long unread fault u = tt

-- the status of the command that runs rounds
pub coll_answered : (files : Files) (words : List (List ℕ)) (f f' s s' : ℕ) (file : List ℕ) (status : Status) → coll_file words ≡ Some file → EndsCheck status
    → ((line : ℕ) (why : Why) → status ≡ ScriptRefused line why → BreaksRules files file line why)
    → ((name : List ℕ) → status ≡ TooLong name → (name ≡ file) × IsOver files name) → ((name : List ℕ) → status ≡ ReadFault name → Rose f f')
    → (status ≡ WriteFault → Rose s s') → IsUnhindered files words f f' s s' → IsAnswered status
coll_answered files words f f' s s' file Done is ends wrong long unread fault u = tt
coll_answered files words f f' s s' file Stuck is ends wrong long unread fault u = tt
coll_answered files words f f' s s' file Usage is ends wrong long unread fault u = absurd ends
coll_answered files words f f' s s' file (ScriptRefused line why) is ends wrong long unread fault u = absurd (u.spelt line why (inr (file, is, wrong line why refl)))
coll_answered files words f f' s s' file (TooLong name) is ends wrong long unread fault u =
    (let l = long name refl in absurd (u.within name (inr (inr (inr (is ∙ ap Some (sym l.0))))) l.1))
coll_answered files words f f' s s' file (ReadFault name) is ends wrong long unread fault u = absurd (u.loads (unread name refl))
coll_answered files words f f' s s' file WriteFault is ends wrong long unread fault u = absurd (u.takes (fault refl))
coll_answered files words f f' s s' file NoMemory is ends wrong long unread fault u = tt

-- The names of the files that a command loads.
use Rattle.std.proofs.Common.{◌≡◌, ℕ, List, Option, Some, inl, inr, refl}
use Rattle.fab_base.specs.declared.script.Bound.{Bound}
use Rattle.fab_command_runs.specs.Files.{coll_file}
use Rattle.fab_outside.specs.Commands.{replay_files, script_file}
use Rattle.fab_outside.specs.Loading.{Files, IsRead, LeadsTo, LoadsOnly}
use Rattle.fab_outside.specs.Outside.{one_more}
use Rattle.fab_outside.proofs.Named.{loads_as, loads_one, loads_then}
use Rattle.fab_workloads.specs.declared.workload.Workload.{Workload}
use Rattle.fab_workloads.specs.Commands.{payload_file, workload_of}
use Rattle.fab_top.specs.Checking.{LeadsOn}
use Rattle.fab_top.specs.Runs.{AskFor}

pub names_script : (files : Files) (words : List (List ℕ)) (file : List ℕ) (a b : Option (List (List ℕ))) → script_file words ≡ Some file → LoadsOnly (LeadsTo files file) a b → LoadsOnly (AskFor files words) a b
names_script files words file a b command loads = loads_as (LeadsTo files file) (AskFor files words) a b (λ name leads. inl (file, command, leads)) loads

pub names_payload : (files : Files) (words : List (List ℕ)) (workload : Workload) (a b : Option (List (List ℕ))) → workload_of words ≡ Some workload → LoadsOnly (λ name. payload_file words ≡ Some name) a b → LoadsOnly (AskFor files words) a b
names_payload files words workload a b command loads = loads_as (λ name. payload_file words ≡ Some name) (AskFor files words) a b (λ name is. inr (inl (workload, command, is))) loads

pub names_check : (files : Files) (words : List (List ℕ)) (file trace : List ℕ) (a b : Option (List (List ℕ))) → replay_files words ≡ Some (file, trace) → LoadsOnly (LeadsOn files file trace) a b → LoadsOnly (AskFor files words) a b
names_check files words file trace a b command loads = loads_as (LeadsOn files file trace) (AskFor files words) a b (λ name leads. inr (inr (inl (file, trace, command, leads)))) loads

pub names_rounds : (files : Files) (words : List (List ℕ)) (file : List ℕ) (a b : Option (List (List ℕ))) → coll_file words ≡ Some file → b ≡ one_more a file → LoadsOnly (AskFor files words) a b
names_rounds files words file a b command more = loads_one (AskFor files words) file a b (inr (inr (inr command))) more

-- ---- the command that checks a report

pub names_read : (files : Files) (file trace : List ℕ) (a b : Option (List (List ℕ))) → LoadsOnly (LeadsTo files file) a b → LoadsOnly (LeadsOn files file trace) a b
names_read files file trace a b loads = loads_as (LeadsTo files file) (LeadsOn files file trace) a b (λ name leads. inl leads) loads

pub names_trace : (files : Files) (file trace : List ℕ) (bound : Bound) (a b c : Option (List (List ℕ))) → LoadsOnly (LeadsTo files file) a b → IsRead files file bound → c ≡ one_more b trace → LoadsOnly (LeadsOn files file trace) a c
names_trace files file trace bound a b c loads read more =
    loads_then (LeadsOn files file trace) a b c (names_read files file trace a b loads) (loads_one (LeadsOn files file trace) trace b c (inr (refl, (bound, read))) more)

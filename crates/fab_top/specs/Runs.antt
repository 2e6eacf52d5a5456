-- What a run of a command does.
--     Reports bound text      the text is the report of the lawful schedule that its trace lines tell, and at its end the peers are at rest
--     AskFor files words name the words lead to this file
--     NamesScript words file  the words name this file as a script
--     IsRefused ..            the words name a file that is refused as a script, or as one of rounds
--     IsLoaded files name bytes  the file of this name, whole, or no bytes where there is no name
--     IsReport, IsOffer, IsBench, IsVerdict, IsTotals, IsCollected   the text is what the words of one command ask for
--     IsText ..               the text is what the words ask for, whichever command they are
--     IsWritten Is before after   some text that `Is` holds of is written
--     IsBegun Is before after     the first bytes of one are written, and not its last
--     ComesToRest bound done  some lawful schedule leads the peers to rest
--     NeverSticks ..          the script is settled, and its answer does all lines
--     AsksNone words          they ask for no file
--     IsUnhindered ..         nothing stands in the way of the command
use Rattle.std.specs.Prelude.{◌≡◌, ℕ, ◌<◌, ◌⊎◌, Bool, true, List, [], length, take, Option, Some, None, is_none}
use Rattle.std.specs.Io.KnownBytes.{append_known}
use Rattle.std.specs.List.{list_all}
use Rattle.fab_answer.specs.Answer.{answer as answer_of}
use Rattle.fab_answer.specs.Laws.{nothing_posted}
use Rattle.fab_laws.specs.Headline.{Headline}
use Rattle.fab_answer.specs.Settled.{is_settled}
use Rattle.fab_base.specs.Counts.{Rose}
use Rattle.fab_base.specs.declared.caps.Api.TheVariants.{Two}
use Rattle.fab_base.specs.declared.caps.Caps.{Caps}
use Rattle.fab_base.specs.declared.peers.Step.{Step}
use Rattle.fab_base.specs.declared.script.Bound.{Bound}
use Rattle.fab_base.specs.declared.status.Status.{Status}
use Rattle.fab_base.specs.declared.status.Status.TheVariants.{Done, Stuck, ScriptRefused, TooLong, ReadFault, WriteFault, NoMemory}
use Rattle.fab_base.specs.declared.status.Why.{Why}
use Rattle.fab_grammar.specs.Settings.{asking}
use Rattle.fab_model.specs.Negotiation.{grant}
use Rattle.fab_model.specs.Replay.{Lawful, replayed, at_rest, all_done}
use Rattle.fab_model.specs.Report.{report, traces}
use Rattle.fab_replay.specs.declared.verdicts.Verdict.TheVariants as answer
use Rattle.fab_replay.specs.Verdict.{verdict}
use Rattle.fab_top.specs.Checking.{IsChecked, LeadsOn}
use Rattle.fab_outside.specs.Commands.{script_file, info_caps, replay_files}
use Rattle.fab_top.specs.Commands.{IsNoCommand}
use Rattle.fab_outside.specs.Info.{info_text, offer}
use Rattle.fab_outside.specs.Loading.{Files, IsOver, IsRead, IsWhole, IsWrong, LeadsTo}
use Rattle.fab_command_runs.specs.Files.{BreaksRules, IsDue, coll_file}
use Rattle.fab_command_runs.specs.declared.asked.Asked.{Asked}
use Rattle.fab_command_runs.specs.Commands.{asked_text, window_of}
use Rattle.fab_workloads.specs.declared.workload.Workload.{Workload}
use Rattle.fab_workloads.specs.Bench.{bench_line}
use Rattle.fab_workloads.specs.Commands.{payload_file, workload_of}

-- The text is the report of the schedule that its own trace lines tell, and this schedule is lawful. At its end the peers are at rest; whether all lines are done then, and if so, nothing is posted. So `replay` answers `lawful, at rest` of it.
-- And of this schedule the headline holds.
pub record Reports (bound : Bound) (text : List ℕ) (done : Bool) : Type 0 where
  pub lawful : Lawful bound (traces text)
  pub text_is : text ≡ report bound (traces text)
  pub rest : at_rest (replayed bound (traces text)).states ≡ true
  pub done_is : all_done (replayed bound (traces text)).states ≡ done
  pub cleared : done ≡ true → nothing_posted (replayed bound (traces text)).states ≡ true
  pub found : verdict bound text ≡ answer.Lawful true
  pub headline : Headline bound (traces text)

-- some lawful schedule leads the peers to rest, and this says whether all lines are done then
abbrev pub ComesToRest : Bound → Bool → Type 0
ComesToRest bound done =
    (schedule : List (List Step)) × Lawful bound schedule × (at_rest (replayed bound schedule).states ≡ true)
    × (all_done (replayed bound schedule).states ≡ done)

-- the words name a workload, and this is the file whose first bytes it sends
abbrev pub IsPayload : List (List ℕ) → List ℕ → Type 0
IsPayload words name = (workload : Workload) × (workload_of words ≡ Some workload) × (payload_file words ≡ Some name)

-- the words name a script and a trace, and this is a file of the script, or the trace
abbrev pub IsOfReplay : Files → List (List ℕ) → List ℕ → Type 0
IsOfReplay files words name = (file trace : List ℕ) × (replay_files words ≡ Some (file, trace)) × LeadsOn files file trace name

-- the words name a script, and this is its file or one of its payload files, which the order of checks comes to, or the trace that is read last; or they name a workload, and this is its file; or this is the file of rounds that they name
abbrev pub AskFor : Files → List (List ℕ) → List ℕ → Type 0
AskFor files words name = ((file : List ℕ) × (script_file words ≡ Some file) × LeadsTo files file name) ⊎ IsPayload words name ⊎ IsOfReplay files words name ⊎ (coll_file words ≡ Some name)

-- to run it, or to check a report of it
abbrev pub NamesScript : List (List ℕ) → List ℕ → Type 0
NamesScript words file = (script_file words ≡ Some file) ⊎ ((trace : List ℕ) × (replay_files words ≡ Some (file, trace)))

-- the words name a file that spells no script, or a script of which a line names bytes that are not there: this is the first such line, and the first rule that it breaks; or they name a file that spells no rounds
abbrev pub IsRefused : Files → List (List ℕ) → ℕ → Why → Type 0
IsRefused files words line why =
    ((file : List ℕ) × NamesScript words file × IsWrong files file line why)
    ⊎ ((file : List ℕ) × (coll_file words ≡ Some file) × BreaksRules files file line why)

-- the words name a file that spells a script, and this is a report of this script with its payload files; whether all lines are done at its end
pub record IsReport (files : Files) (words : List (List ℕ)) (done : Bool) (text : List ℕ) : Type 0 where
  pub file : List ℕ
  pub command : script_file words ≡ Some file
  pub bound : Bound
  pub read : IsRead files file bound
  pub reports : Reports bound text done

-- the words ask what is granted to whoever asks for these capabilities, and this is the answer
pub record IsOffer (words : List (List ℕ)) (text : List ℕ) : Type 0 where
  pub caps : Caps
  pub command : info_caps words ≡ Some caps
  pub granted : grant Two (Some (asking caps)) ≡ Some (offer caps)
  pub text_is : text ≡ info_text caps

-- the file of this name, whole and within the limit, or no bytes where there is no name
abbrev pub IsLoaded : Files → Option (List ℕ) → List ℕ → Type 0
IsLoaded files None bytes = bytes ≡ []
IsLoaded files (Some name) bytes = IsWhole files name bytes

-- the words name a workload, its file was loaded, and this is its line, with the first and the last moment of a clock that has given exactly two
pub record IsBench (files : Files) (words : List (List ℕ)) (given first last : ℕ) (text : List ℕ) : Type 0 where
  pub workload : Workload
  pub command : workload_of words ≡ Some workload
  pub file : List ℕ
  pub loaded : IsLoaded files (payload_file words) file
  pub moments : given ≡ 2
  pub text_is : text ≡ bench_line workload first last

-- the words name a script and a trace, and this is the line on the trace, as a report of that script with its payload files
pub record IsVerdict (files : Files) (words : List (List ℕ)) (text : List ℕ) : Type 0 where
  pub file : List ℕ
  pub trace : List ℕ
  pub command : replay_files words ≡ Some (file, trace)
  pub checked : IsChecked files file trace text

-- the words ask peers to add to a window, and this is what its words hold at last: a function of what was asked
pub record IsTotals (words : List (List ℕ)) (text : List ℕ) : Type 0 where
  pub asked : Asked
  pub command : window_of words ≡ Some asked
  pub text_is : text ≡ asked_text asked

-- the words name a file of rounds, and this is what each rank makes of them: a function of the file
pub record IsCollected (files : Files) (words : List (List ℕ)) (text : List ℕ) : Type 0 where
  pub file : List ℕ
  pub command : coll_file words ≡ Some file
  pub due : IsDue files file text

-- the text that the words ask for, whichever command they are; of a script's report, whether all its lines are done
abbrev pub IsText : Files → List (List ℕ) → ℕ → ℕ → ℕ → Bool → List ℕ → Type 0
IsText files words given first last done text =
    IsReport files words done text ⊎ IsOffer words text ⊎ IsBench files words given first last text ⊎ IsVerdict files words text ⊎ IsTotals words text ⊎ IsCollected files words text

-- such a text is written
pub record IsWritten (Is : List ℕ → Type 0) (before after : Option (List ℕ)) : Type 0 where
  pub text : List ℕ
  pub is : Is text
  pub written : after ≡ append_known before text

-- of such a text the first bytes are written, and not its last
pub record IsBegun (Is : List ℕ → Type 0) (before after : Option (List ℕ)) : Type 0 where
  pub text : List ℕ
  pub is : Is text
  pub some : ℕ
  pub fewer : some < length text
  pub written : after ≡ append_known before (take some text)

-- the script is settled, and its one answer does all its lines
abbrev pub DoesAll : Bound → Type 0
DoesAll bound = (is_settled bound ≡ true) × (list_all is_none (answer_of bound).next ≡ true)

-- the words name a file that spells a script, which is not one that is settled and whose answer does all lines
abbrev pub MayStick : Files → List (List ℕ) → Type 0
MayStick files words = (file : List ℕ) × (bound : Bound) × (script_file words ≡ Some file) × IsRead files file bound × (DoesAll bound → ⊥)

-- files are told
abbrev pub AreTold : Files → Type 0
AreTold None = ⊥
AreTold (Some file) = Unit {0}

-- the words name a file that is told, and it spells a settled script whose answer does all lines
abbrev pub NeverSticks : Files → List (List ℕ) → Type 0
NeverSticks files words = AreTold files × ((file : List ℕ) × (bound : Bound) × (script_file words ≡ Some file) × IsRead files file bound × DoesAll bound)

-- the words ask for no file
abbrev pub AsksNone : List (List ℕ) → Type 0
AsksNone words = (script_file words ≡ None) × (payload_file words ≡ None) × (replay_files words ≡ None) × (coll_file words ≡ None)

-- the words are no workload
abbrev pub IsNoWorkload : List (List ℕ) → Type 0
IsNoWorkload words = workload_of words ≡ None

-- the statuses at which a report is written, or a part of one
abbrev pub WritesReport : Status → Type 0
WritesReport Done = Unit {0}
WritesReport Stuck = Unit {0}
WritesReport WriteFault = Unit {0}
WritesReport status = ⊥

-- the statuses at which a line is written, or a part of it
abbrev pub WritesLine : Status → Type 0
WritesLine Done = Unit {0}
WritesLine WriteFault = Unit {0}
WritesLine status = ⊥

-- the statuses of a command that asks for no file: its text is written, or a part of it, or memory is wanting
abbrev pub EndsText : Status → Type 0
EndsText Done = Unit {0}
EndsText WriteFault = Unit {0}
EndsText NoMemory = Unit {0}
EndsText status = ⊥

-- the statuses of a workload's command
abbrev pub EndsBench : Status → Type 0
EndsBench Done = Unit {0}
EndsBench (TooLong name) = Unit {0}
EndsBench (ReadFault name) = Unit {0}
EndsBench WriteFault = Unit {0}
EndsBench NoMemory = Unit {0}
EndsBench status = ⊥

-- the statuses of the commands that check a report, and that run rounds
abbrev pub EndsCheck : Status → Type 0
EndsCheck (ScriptRefused line why) = Unit {0}
EndsCheck status = EndsBench status

-- the statuses at which the command was carried out, or memory is wanting
abbrev pub IsAnswered : Status → Type 0
IsAnswered Done = Unit {0}
IsAnswered Stuck = Unit {0}
IsAnswered NoMemory = Unit {0}
IsAnswered status = ⊥

-- the words are a command, no fault came of the files or of the output, no file that is asked for is too long, and no file is refused
pub record IsUnhindered (files : Files) (words : List (List ℕ)) (faults faults' failures failures' : ℕ) : Type 0 where
  pub command : IsNoCommand words → ⊥
  pub loads : Rose faults faults' → ⊥
  pub takes : Rose failures failures' → ⊥
  pub within : (name : List ℕ) → AskFor files words name → IsOver files name → ⊥
  pub spelt : (line : ℕ) (why : Why) → IsRefused files words line why → ⊥

-- the statuses at which nothing is written
abbrev pub IsSilent : Status → Type 0
IsSilent Done = ⊥
IsSilent Stuck = ⊥
IsSilent WriteFault = ⊥
IsSilent status = Unit {0}

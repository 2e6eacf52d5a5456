-- What a run finds in the files that it loads.
--     IsWhole files name bytes     the file of that name is this, and not too long
--     IsOver files name            the file of that name is too long
--     AreWhole files payloads all  so are the files of these `payload` lines, in their order
--     Spells files file script     the file spells this script
--     LeadsTo files file name      that is the script's file, or a payload file of it which comes after whole ones
--     IsWrong files file line why  the file spells no script, or a line of its script names bytes which no payload file has
--     IsUnread ..                  why there is no script with its payload files
--     LoadsOnly May before after   where the names of the loads made are told, those that joined them are such
-- Where files are not told, each of these speaks of some bytes in the place of a file.
use Rattle.std.specs.Prelude.{◌≡◌, ℕ, ◌<◌, ◌≤◌, ◌⊎◌, List, [], ◌∷◌, ◌++◌, length, Option, Some, None, option_map}
use Rattle.std.specs.List.{All}
use Rattle.fab_base.specs.declared.limits.TheConstants.{FILE_BYTES}
use Rattle.fab_base.specs.Counts.{Rose}
use Rattle.fab_base.specs.declared.script.Bound.{Bound}
use Rattle.fab_base.specs.declared.script.Payload.{Payload}
use Rattle.fab_base.specs.declared.script.Script.{Script}
use Rattle.fab_base.specs.declared.status.Status.{Status}
use Rattle.fab_base.specs.declared.status.Status.TheVariants.{ScriptRefused, TooLong, ReadFault, NoMemory}
use Rattle.fab_base.specs.declared.status.Why.{Why}
use Rattle.fab_grammar.specs.Grammar.{script_of, refusal_of}
use Rattle.fab_script.specs.Bound.{outside}
use Rattle.fab_outside.specs.Outside.{IsFile, BeginsFile}

-- what a depot tells of its files
abbrev pub Files : Type 0
Files = Option (List ℕ → Option (List ℕ))

-- the greatest length of a file, in bytes
abbrev pub file_max : ℕ
file_max = FILE_BYTES

abbrev pub IsWhole : Files → List ℕ → List ℕ → Type 0
IsWhole files name bytes = IsFile files name bytes × (length bytes ≤ file_max)

abbrev pub IsOver : Files → List ℕ → Type 0
IsOver files name = (bytes : List ℕ) × BeginsFile files name bytes × (file_max < length bytes)

abbrev pub AreWhole : Files → List Payload → List (List ℕ) → Type 0
AreWhole files [] [] = Unit {0}
AreWhole files [] (bytes ∷ all) = ⊥
AreWhole files (payload ∷ payloads) [] = ⊥
AreWhole files (payload ∷ payloads) (bytes ∷ all) = IsWhole files payload.name bytes × AreWhole files payloads all

-- a `payload` line names the file, and the files of the lines before it are whole
pub record Reaches (files : Files) (payloads : List Payload) (name : List ℕ) : Type 0 where
  pub before : List Payload
  pub payload : Payload
  pub after : List Payload
  pub stands : payloads ≡ before ++ payload ∷ after
  pub named : payload.name ≡ name
  pub all : List (List ℕ)
  pub whole : AreWhole files before all

abbrev pub Spells : Files → List ℕ → Script → Type 0
Spells files file script = (bytes : List ℕ) × IsWhole files file bytes × (script_of bytes ≡ Some script)

abbrev pub LeadsTo : Files → List ℕ → List ℕ → Type 0
LeadsTo files file name = (name ≡ file) ⊎ ((script : Script) × Spells files file script × Reaches files script.payloads name)

-- the first line that breaks a rule, and the first rule that it breaks; or the first line that names bytes which are not there
abbrev pub IsWrong : Files → List ℕ → ℕ → Why → Type 0
IsWrong files file line why =
    ((bytes : List ℕ) × IsWhole files file bytes × (refusal_of bytes ≡ Some (line, why)))
    ⊎ ((script : Script) × (all : List (List ℕ)) × Spells files file script × AreWhole files script.payloads all × (outside script all ≡ Some (line, why)))

-- the file spells a script, its payload files are these, and all bytes that a line names are there
pub record IsRead (files : Files) (file : List ℕ) (bound : Bound) : Type 0 where
  pub spells : Spells files file bound.script
  pub whole : AreWhole files bound.script.payloads bound.files
  pub inside : outside bound.script bound.files ≡ None

abbrev pub LoadsOnly : (List ℕ → Type 0) → Option (List (List ℕ)) → Option (List (List ℕ)) → Type 0
LoadsOnly May before after = (more : List (List ℕ)) × All May more × (after ≡ option_map (λ names. names ++ more) before)

-- the file of this name was not loaded
abbrev pub IsUnloaded : Files → List ℕ → ℕ → ℕ → Option (List ℕ) → Status → Type 0
IsUnloaded files name faults faults' failed (TooLong over) = (over ≡ name) × IsOver files name
IsUnloaded files name faults faults' failed (ReadFault fault) = (fault ≡ name) × Rose faults faults' × (failed ≡ Some name)
IsUnloaded files name faults faults' failed NoMemory = Unit {0}
IsUnloaded files name faults faults' failed status = ⊥

-- these bytes were not read as a script
abbrev pub IsUnspelt : List ℕ → Status → Type 0
IsUnspelt bytes (ScriptRefused line why) = refusal_of bytes ≡ Some (line, why)
IsUnspelt bytes NoMemory = Unit {0}
IsUnspelt bytes status = ⊥

-- a file of these `payload` lines was not loaded
abbrev pub AreUnloaded : Files → List Payload → ℕ → ℕ → Option (List ℕ) → Status → Type 0
AreUnloaded files payloads faults faults' failed (TooLong name) = Reaches files payloads name × IsOver files name
AreUnloaded files payloads faults faults' failed (ReadFault name) = Reaches files payloads name × Rose faults faults' × (failed ≡ Some name)
AreUnloaded files payloads faults faults' failed NoMemory = Unit {0}
AreUnloaded files payloads faults faults' failed status = ⊥

abbrev pub IsUnread : Files → List ℕ → ℕ → ℕ → Option (List ℕ) → Status → Type 0
IsUnread files file faults faults' failed (ScriptRefused line why) = IsWrong files file line why
IsUnread files file faults faults' failed (TooLong name) = LeadsTo files file name × IsOver files name
IsUnread files file faults faults' failed (ReadFault name) = LeadsTo files file name × Rose faults faults' × (failed ≡ Some name)
IsUnread files file faults faults' failed NoMemory = Unit {0}
IsUnread files file faults faults' failed status = ⊥

-- What the words of a command ask for.
--     script_file words      the file whose script is to be run, where the words are `script FILE`
--     info_caps words        the capabilities that are asked for of the provider (fi_getinfo(3)), where they are `info CAPS`
--     replay_files words     the script's file and its report's, where they are `replay FILE TRACE`
use Rattle.std.specs.Prelude.{ℕ, List, [], ◌∷◌, bytes_eq, codes, Option, Some, None, if◌then◌else◌}
use Rattle.std.specs.Result.{result_ok}
use Rattle.fab_base.specs.declared.caps.Caps.{Caps}
use Rattle.fab_grammar.specs.Capabilities.{caps_of}
use Rattle.fab_model.specs.Negotiation.{no_hints}

-- `script FILE`
abbrev pub script_file : List (List ℕ) → Option (List ℕ)
script_file (verb ∷ file ∷ []) = if bytes_eq verb (codes "script") then Some file else None
script_file _ = None

-- `-` asks for none; else the commas join the names of those that are asked for
unfoldable pub caps_in : List ℕ → Option Caps
caps_in caps = if bytes_eq caps (codes "-") then Some no_hints.caps else result_ok (caps_of caps)

-- `info CAPS`
abbrev pub info_caps : List (List ℕ) → Option Caps
info_caps (verb ∷ caps ∷ []) = if bytes_eq verb (codes "info") then caps_in caps else None
info_caps _ = None

-- `replay FILE TRACE`
abbrev pub replay_files : List (List ℕ) → Option (List ℕ × List ℕ)
replay_files (verb ∷ file ∷ trace ∷ []) = if bytes_eq verb (codes "replay") then Some (file, trace) else None
replay_files _ = None

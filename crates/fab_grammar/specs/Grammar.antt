-- The script that a file's bytes spell.
--     verdict bytes        the script, or the first line that breaks a rule and the first rule that it breaks
--     script_of bytes      the script, where the bytes are one
--     refusal_of bytes     why they are none
use Rattle.std.specs.Prelude.{ℕ, ◌+◌, List, [], ◌∷◌, length, Option, Some, None, Result, Ok, Err}
use Rattle.std.specs.Result.{result_ok, result_err}
use Rattle.fab_base.specs.declared.status.Why.{Why}
use Rattle.fab_base.specs.declared.status.Why.TheVariants as why
use Rattle.fab_base.specs.declared.caps.Api.{Api}
use Rattle.fab_base.specs.declared.caps.Info.{Info}
use Rattle.fab_base.specs.declared.script.Conf.{Conf}
use Rattle.fab_base.specs.declared.script.Line.{Line}
use Rattle.fab_base.specs.declared.script.Payload.{Payload}
use Rattle.fab_base.specs.declared.script.Script.{Script}
use Rattle.fab_model.specs.Negotiation.{grant}
use Rattle.fab_grammar.specs.Before.{Before, nothing, parts_of}
use Rattle.fab_grammar.specs.Conf.{conf_of}
use Rattle.fab_grammar.specs.Settings.{hints_of}
use Rattle.fab_words.specs.Rows.{lines_of}
use Rattle.fab_grammar.specs.Rules.{why_of, with_line}
use Rattle.fab_grammar.specs.Versions.{version_of}

abbrev pub Refusal : Type 0
Refusal = ℕ × Why

-- what the lines say, the first of which has this number; or the first that breaks a rule
unfoldable pub read_lines : Before → ℕ → List (List ℕ) → Result Before Refusal
read_lines before number [] = Ok before
read_lines before number (line ∷ lines) = elim (why_of before number line) [
  | Some why ↦ Err (number, why)
  | None ↦ read_lines (with_line before number line) (number + 1) lines
]

abbrev pub script_with : Api → Conf → List Payload → List (List Line) → Script
script_with api conf payloads parts = record { version = version_of api; conf = conf; payloads = payloads; peers = parts }

-- what the provider answers to the settings; that it refuses is seen at a line before
abbrev pub granted : Api → ℕ → Before → ℕ → Option Info → Result Script Refusal
granted api count before n (Some info) = Ok (script_with api (conf_of before.settings n info) before.payloads (parts_of n before.items))
granted api count before n None = Err (count, why.NoData)

abbrev pub of_peers : Api → ℕ → Before → Option ℕ → Result Script Refusal
of_peers api count before (Some n) = granted api count before n (grant api (Some (hints_of before.settings)))
of_peers api count before None = Err (count, why.Missing)

-- A file of so many lines, none of which is refused: line 0 where none has words, and the last line where the number of peers is missing.
unfoldable pub script_said : ℕ → Before → Result Script Refusal
script_said count before = elim before.api [ None ↦ Err (0, why.Header) | Some api ↦ of_peers api count before before.settings.peers ]

abbrev pub then_script : ℕ → Result Before Refusal → Result Script Refusal
then_script count (Ok before) = script_said count before
then_script count (Err refusal) = Err refusal

unfoldable pub verdict : List ℕ → Result Script Refusal
verdict bytes = then_script (length (lines_of bytes)) (read_lines nothing 1 (lines_of bytes))

unfoldable pub script_of : List ℕ → Option Script
script_of bytes = result_ok (verdict bytes)

unfoldable pub refusal_of : List ℕ → Option Refusal
refusal_of bytes = result_err (verdict bytes)

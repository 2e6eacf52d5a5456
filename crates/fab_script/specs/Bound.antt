-- A script with its payload files.
--     is_inside payloads files op      the bytes that the line names of a file are there
--     outside script files             why the files don't fit the script: the first line that names bytes which are not there
--     IsComplete bound                 each line has its bytes
--     IsSound bound                    and the settings are granted, in the version of the script
use Rattle.std.specs.Prelude.{◌≡◌, ℕ, min, ◌+◌, Bool, true, not, ◌&&◌, nat_le, List, length, filter, map, Option, Some, None, option_map}
use Rattle.std.specs.List.{concat, list_all, reduce}
use Rattle.fab_base.specs.declared.script.Bound.{Bound}
use Rattle.fab_base.specs.declared.script.BytesWord.{BytesWord}
use Rattle.fab_base.specs.declared.script.BytesWord.TheVariants.{File}
use Rattle.fab_base.specs.declared.script.Line.{Line}
use Rattle.fab_base.specs.declared.script.LineOp.{LineOp}
use Rattle.fab_base.specs.declared.script.LineOp.TheVariants.{Send, TSend, Inject, TInject, Write, WInject, Reg, Put}
use Rattle.fab_base.specs.declared.script.Payload.{Payload}
use Rattle.fab_base.specs.declared.script.Script.{Script}
use Rattle.fab_base.specs.declared.status.Why.{Why}
use Rattle.fab_base.specs.declared.status.Why.TheVariants.{FileRange}
use Rattle.fab_grammar.specs.Before.{is_distinct}
use Rattle.fab_grammar.specs.Rules.{has_id}
use Rattle.fab_grammar.specs.Versions.{version_of}
use Rattle.fab_model.specs.Negotiation.{grant}
use Rattle.fab_model.specs.Replay.{payload}

-- how the line names bytes, where it does
abbrev pub bytes_of : LineOp → Option BytesWord
bytes_of (Send ctx dest word imm level completion fence) = Some word
bytes_of (TSend ctx dest tag word imm level completion fence) = Some word
bytes_of (Inject dest word imm) = Some word
bytes_of (TInject dest tag word imm) = Some word
bytes_of (Write ctx dest key at word imm completion fence) = Some word
bytes_of (WInject dest key at word imm) = Some word
bytes_of (Reg key access word) = Some word
bytes_of (Put key at word) = Some word
bytes_of op = None

-- a payload file that is declared has these bytes
abbrev pub has_bytes : List Payload → List (List ℕ) → Option BytesWord → Bool
has_bytes payloads files (Some (File id at len)) = has_id payloads (Some id) && nat_le (at + len) (length (payload payloads files id))
has_bytes payloads files word = true

abbrev pub is_inside : List Payload → List (List ℕ) → LineOp → Bool
is_inside payloads files op = has_bytes payloads files (bytes_of op)

-- the numbers of the lines that name bytes which are not there
abbrev pub lines_outside : List Payload → List (List ℕ) → List Line → List ℕ
lines_outside payloads files lines = map (λ line. line.number) (filter (λ line. not (is_inside payloads files line.op)) lines)

abbrev pub at_range : ℕ → ℕ × Why
at_range number = (number, FileRange)

abbrev pub outside : Script → List (List ℕ) → Option (ℕ × Why)
outside script files = option_map at_range (reduce min (concat (map (lines_outside script.payloads files) script.peers)))

-- each peer has its lines and each payload its file, no number names two files, and the bytes that a line names of a file are there
pub record IsComplete (b : Bound) : Type 0 where
  pub lists : length b.script.peers ≡ b.script.conf.peers
  pub files : length b.files ≡ length b.script.payloads
  pub distinct : is_distinct (map (λ p. p.id) b.script.payloads) ≡ true
  pub inside : list_all (list_all (λ line. is_inside b.script.payloads b.files line.op)) b.script.peers ≡ true

-- the settings are what the provider answers to the wishes in this version (fi_getinfo(3)), the first or the second
pub record IsSound (b : Bound) : Type 0 where
  pub complete : IsComplete b
  pub version : b.script.version ≡ version_of b.script.conf.info.api
  pub granted : grant b.script.conf.info.api b.script.conf.hints ≡ Some b.script.conf.info
  pub peers : b.script.conf.peers ≡ b.script.conf.info.peers

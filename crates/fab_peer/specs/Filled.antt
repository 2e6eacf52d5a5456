-- The buffers of sends that are there before their lines want them.
--     sent op                the bytes of a send
--     sent_at lines n        those of the line with this number
--     IsAt lines n b         they are these, where there is such a line
--     IsFilled lines fs      each buffer has the bytes of its line
use Rattle.std.specs.Prelude.{◌≡◌, ℕ, List, [], ◌∷◌, Option, Some, slice_get}
use Rattle.std.specs.Option.{option_map}
use Rattle.fab_base.specs.declared.script.Line.{Line}
use Rattle.fab_base.specs.declared.script.LineOp.{LineOp}
use Rattle.fab_base.specs.declared.script.LineOp.TheVariants.{Send, TSend}
use Rattle.fab_model.specs.Calls.{word_bytes}
use Rattle.fab_peer.specs.declared.lines.Filled.{Filled}

abbrev pub sent : LineOp → List ℕ
sent (Send ctx dest word imm level completion fence) = word_bytes word
sent (TSend ctx dest tag word imm level completion fence) = word_bytes word
sent _ = []

abbrev pub sent_at : List Line → ℕ → Option (List ℕ)
sent_at lines n = option_map (λ (line : Line). sent line.op) (slice_get lines n)

abbrev pub IsAt : List Line → ℕ → List ℕ → Type 0
IsAt lines n b = (own : List ℕ) → sent_at lines n ≡ Some own → b ≡ own

abbrev pub IsFilled : List Line → List Filled → Type 0
IsFilled lines [] = Unit {0}
IsFilled lines (f ∷ fs) = IsAt lines f.at f.buf × IsFilled lines fs

-- The lines that may have optional words.
--     send_of, tsend_of, inject_of, tinject_of      fi_msg(3) and fi_tagged(3)
--     write_of, winject_of                          fi_rma(3)
--     mrecv_of                                      FI_MULTI_RECV of fi_msg(3)
-- Each names at most `most` bytes, or makes room for as many.
use Rattle.std.specs.Prelude.{ℕ, true, false, List, ◌∷◌, Option, Result, Err}
use Rattle.fab_base.specs.declared.script.BytesWord.{BytesWord}
use Rattle.fab_base.specs.declared.script.LineOp.{LineOp}
use Rattle.fab_base.specs.declared.script.LineOp.TheVariants as op
use Rattle.fab_words.specs.declared.misread.Misread.{Misread}
use Rattle.fab_words.specs.declared.misread.Misread.TheVariants.{Words}
use Rattle.fab_grammar.specs.declared.options.Allowed.{Allowed}
use Rattle.fab_grammar.specs.declared.options.Options.{Options}
use Rattle.fab_words.specs.Bytes.{read_bytes}
use Rattle.fab_words.specs.Misreads.{◌&◌, map_ok}
use Rattle.fab_grammar.specs.Options.{allowing, read_options}
use Rattle.fab_words.specs.Words.{read_number, read_index, read_up_to, read_source}

-- `D KEY AT`: where at another peer
unfoldable pub read_target : List ℕ → List ℕ → List ℕ → Result ((ℕ × ℕ) × ℕ) Misread
read_target dest key at = read_index dest & read_number key & read_number at

-- `C D`
unfoldable pub read_to : List ℕ → List ℕ → Result (ℕ × ℕ) Misread
read_to ctx dest = read_number ctx & read_index dest

-- `C D TAG`
unfoldable pub read_tagged : List ℕ → List ℕ → List ℕ → Result ((ℕ × ℕ) × ℕ) Misread
read_tagged ctx dest tag = read_to ctx dest & read_number tag

-- `C D KEY AT`
unfoldable pub read_remote : List ℕ → List ℕ → List ℕ → List ℕ → Result (ℕ × ((ℕ × ℕ) × ℕ)) Misread
read_remote ctx dest key at = read_number ctx & read_target dest key at

-- what the kinds of lines may have
abbrev pub for_send : Allowed
for_send = allowing true true true true false

abbrev pub for_inject : Allowed
for_inject = allowing true false false false false

abbrev pub for_write : Allowed
for_write = allowing true false true true false

abbrev pub for_multi : Allowed
for_multi = allowing false false false false true

-- `send C D BYTES`
abbrev pub a_send : ((ℕ × ℕ) × BytesWord) × Options → LineOp
a_send (((ctx, dest), bytes), o) = op.Send ctx dest bytes o.imm o.level o.completion o.fence

unfoldable pub send_of : ℕ → List (List ℕ) → Result LineOp Misread
send_of most (ctx ∷ dest ∷ bytes ∷ options) = map_ok a_send (read_to ctx dest & read_bytes most bytes & read_options for_send options)
send_of most _ = Err Words

-- `tsend C D TAG BYTES`
abbrev pub a_tsend : (((ℕ × ℕ) × ℕ) × BytesWord) × Options → LineOp
a_tsend ((((ctx, dest), tag), bytes), o) = op.TSend ctx dest tag bytes o.imm o.level o.completion o.fence

unfoldable pub tsend_of : ℕ → List (List ℕ) → Result LineOp Misread
tsend_of most (ctx ∷ dest ∷ tag ∷ bytes ∷ options) = map_ok a_tsend (read_tagged ctx dest tag & read_bytes most bytes & read_options for_send options)
tsend_of most _ = Err Words

-- `inject D BYTES`
abbrev pub an_inject : (ℕ × BytesWord) × Options → LineOp
an_inject ((dest, bytes), o) = op.Inject dest bytes o.imm

unfoldable pub inject_of : ℕ → List (List ℕ) → Result LineOp Misread
inject_of most (dest ∷ bytes ∷ options) = map_ok an_inject (read_index dest & read_bytes most bytes & read_options for_inject options)
inject_of most _ = Err Words

-- `tinject D TAG BYTES`
abbrev pub a_tinject : ((ℕ × ℕ) × BytesWord) × Options → LineOp
a_tinject (((dest, tag), bytes), o) = op.TInject dest tag bytes o.imm

unfoldable pub tinject_of : ℕ → List (List ℕ) → Result LineOp Misread
tinject_of most (dest ∷ tag ∷ bytes ∷ options) = map_ok a_tinject (read_index dest & read_number tag & read_bytes most bytes & read_options for_inject options)
tinject_of most _ = Err Words

-- `mrecv C SRC LEN`
abbrev pub an_mrecv : ((ℕ × Option ℕ) × ℕ) × Options → LineOp
an_mrecv (((ctx, source), len), o) = op.MRecv ctx source len o.min

unfoldable pub mrecv_of : ℕ → List (List ℕ) → Result LineOp Misread
mrecv_of most (ctx ∷ source ∷ len ∷ options) = map_ok an_mrecv (read_number ctx & read_source source & read_up_to most len & read_options for_multi options)
mrecv_of most _ = Err Words

-- `write C D KEY AT BYTES`
abbrev pub a_write : ((ℕ × ((ℕ × ℕ) × ℕ)) × BytesWord) × Options → LineOp
a_write (((ctx, ((dest, key), at)), bytes), o) = op.Write ctx dest key at bytes o.imm o.completion o.fence

unfoldable pub write_of : ℕ → List (List ℕ) → Result LineOp Misread
write_of most (ctx ∷ dest ∷ key ∷ at ∷ bytes ∷ options) = map_ok a_write (read_remote ctx dest key at & read_bytes most bytes & read_options for_write options)
write_of most _ = Err Words

-- `winject D KEY AT BYTES`
abbrev pub a_winject : (((ℕ × ℕ) × ℕ) × BytesWord) × Options → LineOp
a_winject ((((dest, key), at), bytes), o) = op.WInject dest key at bytes o.imm

unfoldable pub winject_of : ℕ → List (List ℕ) → Result LineOp Misread
winject_of most (dest ∷ key ∷ at ∷ bytes ∷ options) = map_ok a_winject (read_target dest key at & read_bytes most bytes & read_options for_inject options)
winject_of most _ = Err Words

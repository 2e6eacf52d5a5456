-- Lines as they are written, worked out by the definitions alone: a word left out, changed or exchanged gives another line.
use Rattle.std.proofs.Common.{◌≡◌, [], ◌∷◌, ◌++◌, Some, None, true, refl}
use Rattle.std.specs.Fmt.{digits}
use Rattle.std.specs.Prelude.{codes}
use Rattle.fab_base.specs.declared.items.AtomicOp.TheVariants.{AtomicRead}
use Rattle.fab_base.specs.declared.items.Num.TheVariants.{U8}
use Rattle.fab_base.specs.declared.peers.Level.TheVariants.{Delivery}
use Rattle.fab_base.specs.declared.script.BytesWord.TheVariants.{Hex, Zero}
use Rattle.fab_base.specs.declared.script.LineOp.TheVariants.{Send, Inject, TRecv, Fetch}
use Rattle.fab_model.specs.Words.{line_of}
use Rattle.fab_spell.specs.Spelling.{row_of, verb_for, args_for, bytes_word}

-- how many elements a fetch reads
fetch : line_of (row_of (Fetch 1 2 3 4 AtomicRead U8 [] 4)) ≡ codes "fetch 1 2 3 4 FI_ATOMIC_READ u8 *4" ++ 10 ∷ []
unfolding digits verb_for args_for
fetch = refl

-- both digits of each byte, remote data, the level, and a fence behind them
send : line_of (row_of (Send 1 2 (Hex (106 ∷ 255 ∷ [])) (Some 9) Delivery true true)) ≡ codes "send 1 2 hex:6aff data=9 level=delivery completion fence" ++ 10 ∷ []
unfolding digits verb_for args_for bytes_word
send = refl

-- the index of a source, and the tag before the ignored bits
receive : line_of (row_of (TRecv 1 (Some 6) 5 3 16)) ≡ codes "trecv 1 6 5 3 16" ++ 10 ∷ []
unfolding digits verb_for args_for
receive = refl

-- how many zeros
zeros : line_of (row_of (Inject 0 (Zero 8) None)) ≡ codes "inject 0 zero:8" ++ 10 ∷ []
unfolding digits verb_for args_for bytes_word
zeros = refl

-- Order of matching.
use Rattle.std.specs.Prelude.{List, [], ◌∷◌, ℕ, Some, None, false, codes, refl}
use Rattle.fab_base.specs.declared.peers.Level.{Level}
use Rattle.fab_base.specs.declared.script.Bound.{Bound}
use Rattle.fab_base.specs.declared.script.BytesWord.TheVariants.{Text}
use Rattle.fab_base.specs.declared.script.LineOp.{LineOp}
use Rattle.fab_model.specs.Machine.{machine}
use Rattle.fab_model.proofs.Scripts.{script_of, line, Shows}

pub script : Bound
script = script_of (
    (line 4 (LineOp.TRecv 1 (Some 1) 5 0 4)
    ∷ line 5 (LineOp.TRecv 2 (Some 1) 0 18446744073709551615 4)
    ∷ line 6 (LineOp.Wait (Some 1))
    ∷ line 7 (LineOp.Wait (Some 2)) ∷ [])
    ∷ (line 9 (LineOp.TSend 3 0 7 (Text (codes "x")) None Level.Transmit false false)
    ∷ line 10 (LineOp.TSend 4 0 5 (Text (codes "y")) None Level.Transmit false false) ∷ [])
    ∷ []
    )

pub text : List ℕ
text = codes "fabric 1 peers 2\npeer 0\n4 trecv ok\n5 trecv ok\n6 wait 1 FI_TAGGED FI_RECV from 1 tag 5 len 1 bytes 79\n7 wait 2 FI_TAGGED FI_RECV from 1 tag 7 len 1 bytes 78\ntrace D D H1 T1 H1 T1 R R D D\npeer 1\n9 tsend ok\n10 tsend ok\nleft 3 FI_TAGGED FI_SEND\nleft 4 FI_TAGGED FI_SEND\ntrace D S0 D S0 R R\nend done\n"

pub row : Shows script text
unfolding script text machine
row = record { report_is = refl; lawful = refl; rest = refl }

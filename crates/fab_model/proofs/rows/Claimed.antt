-- A claimed message.
use Rattle.std.specs.Prelude.{List, [], ◌∷◌, ℕ, Some, None, false, codes, refl}
use Rattle.fab_base.specs.declared.peers.Level.{Level}
use Rattle.fab_base.specs.declared.script.Bound.{Bound}
use Rattle.fab_base.specs.declared.script.BytesWord.TheVariants.{Text}
use Rattle.fab_base.specs.declared.script.LineOp.{LineOp}
use Rattle.fab_model.specs.Machine.{machine}
use Rattle.fab_model.proofs.Scripts.{script_of, line, Shows}

pub script : Bound
script = script_of (
    (line 4 (LineOp.TSend 1 0 5 (Text (codes "hi")) None Level.Transmit false false)
    ∷ line 5 (LineOp.TSend 2 0 8 (Text (codes "z")) None Level.Transmit false false)
    ∷ line 6 (LineOp.TRecv 3 (Some 0) 8 0 1)
    ∷ line 7 (LineOp.Wait (Some 3))
    ∷ line 8 (LineOp.Claim 4 None 5 0)
    ∷ line 9 (LineOp.Wait (Some 4))
    ∷ line 10 (LineOp.TRecv 5 None 5 0 2)
    ∷ line 11 (LineOp.Take 4 2)
    ∷ line 12 (LineOp.Wait (Some 4))
    ∷ line 13 (LineOp.Take 4 2)
    ∷ line 14 (LineOp.Cancel 5)
    ∷ line 15 (LineOp.Wait (Some 5))
    ∷ line 16 (LineOp.Cancel 5) ∷ [])
    ∷ []
    )

pub text : List ℕ
text = codes "fabric 1 peers 1\npeer 0\n4 tsend ok\n5 tsend ok\n6 trecv ok\n7 wait 3 FI_TAGGED FI_RECV from 0 tag 8 len 1 bytes 7a\n8 claim ok\n9 wait 4 FI_TAGGED FI_RECV FI_CLAIM from 0 tag 5 len 2\n10 trecv ok\n11 take ok\n12 wait 4 FI_TAGGED FI_RECV from 0 tag 5 len 2 bytes 6869\n13 take refused FI_ENOENT\n14 cancel ok\n15 wait 5 error FI_ECANCELED\n16 cancel refused FI_ENOENT\nleft 1 FI_TAGGED FI_SEND\nleft 2 FI_TAGGED FI_SEND\ntrace D S0 R D S0 R D H0 T0 H0 T0 R D D R D D D R D D D R D D\nend done\n"

pub row : Shows script text
unfolding script text machine
row = record { report_is = refl; lawful = refl; rest = refl }

-- Peek and claim.
use Rattle.std.specs.Prelude.{List, [], ◌∷◌, ℕ, Some, None, false, codes, refl}
use Rattle.fab_base.specs.declared.peers.Level.{Level}
use Rattle.fab_base.specs.declared.script.Bound.{Bound}
use Rattle.fab_base.specs.declared.script.BytesWord.TheVariants.{Text}
use Rattle.fab_base.specs.declared.script.LineOp.{LineOp}
use Rattle.fab_model.specs.Machine.{machine}
use Rattle.fab_model.proofs.Scripts.{script_of, line, Shows}

pub script : Bound
script = script_of (
    (line 4 (LineOp.Peek 1 None 5 0)
    ∷ line 5 (LineOp.Wait (Some 1))
    ∷ line 6 (LineOp.TSend 2 0 5 (Text (codes "hi")) None Level.Delivery false false)
    ∷ line 7 (LineOp.Wait (Some 2))
    ∷ line 8 (LineOp.Claim 3 None 5 0)
    ∷ line 9 (LineOp.Wait (Some 3))
    ∷ line 10 (LineOp.TRecv 4 None 5 0 4)
    ∷ line 11 (LineOp.Take 3 4)
    ∷ line 12 (LineOp.Wait (Some 3))
    ∷ line 13 (LineOp.Take 3 4)
    ∷ line 14 (LineOp.Cancel 4)
    ∷ line 15 (LineOp.Wait (Some 4))
    ∷ line 16 (LineOp.Cancel 4) ∷ [])
    ∷ []
    )

pub text : List ℕ
text = codes "fabric 1 peers 1\npeer 0\n4 peek ok\n5 wait 1 error FI_ENOMSG\n6 tsend ok\n7 wait 2 FI_TAGGED FI_SEND\n8 claim ok\n9 wait 3 FI_TAGGED FI_RECV FI_CLAIM from 0 tag 5 len 2\n10 trecv ok\n11 take ok\n12 wait 3 FI_TAGGED FI_RECV from 0 tag 5 len 2 bytes 6869\n13 take refused FI_ENOENT\n14 cancel ok\n15 wait 4 error FI_ECANCELED\n16 cancel refused FI_ENOENT\ntrace D R D D S0 H0 T0 S0 H0 T0 R D D R D D D R D D D R D D\nend done\n"

pub row : Shows script text
unfolding script text machine
row = record { report_is = refl; lawful = refl; rest = refl }

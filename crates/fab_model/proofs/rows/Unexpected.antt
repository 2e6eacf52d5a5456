-- An unexpected message at level Delivery.
use Rattle.std.specs.Prelude.{List, [], ◌∷◌, ℕ, Some, None, false, codes, refl}
use Rattle.fab_base.specs.declared.peers.Level.{Level}
use Rattle.fab_base.specs.declared.script.Bound.{Bound}
use Rattle.fab_base.specs.declared.script.BytesWord.TheVariants.{Text}
use Rattle.fab_base.specs.declared.script.LineOp.{LineOp}
use Rattle.fab_model.specs.Machine.{machine}
use Rattle.fab_model.proofs.Scripts.{script_of, line, Shows}

pub script : Bound
script = script_of (
    (line 4 (LineOp.TSend 1 0 5 (Text (codes "hi")) None Level.Delivery false false)
    ∷ line 5 (LineOp.Wait (Some 1))
    ∷ line 6 (LineOp.TRecv 2 None 0 18446744073709551615 2)
    ∷ line 7 (LineOp.Wait (Some 2)) ∷ [])
    ∷ []
    )

pub text : List ℕ
text = codes "fabric 1 peers 1\npeer 0\n4 tsend ok\n5 wait 1 FI_TAGGED FI_SEND\n6 trecv ok\n7 wait 2 FI_TAGGED FI_RECV from 0 tag 5 len 2 bytes 6869\ntrace D S0 H0 T0 S0 H0 T0 R D D R D\nend done\n"

pub row : Shows script text
unfolding script text machine
row = record { report_is = refl; lawful = refl; rest = refl }

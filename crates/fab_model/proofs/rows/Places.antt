-- Places in a multi-receive.
use Rattle.std.specs.Prelude.{List, [], ◌∷◌, ℕ, Some, None, codes, refl}
use Rattle.fab_base.specs.declared.script.Bound.{Bound}
use Rattle.fab_base.specs.declared.script.BytesWord.TheVariants.{Zero}
use Rattle.fab_base.specs.declared.script.LineOp.{LineOp}
use Rattle.fab_model.specs.Machine.{machine}
use Rattle.fab_model.proofs.Scripts.{script_of, line, Shows}

pub script : Bound
script = script_of (
    (line 4 (LineOp.MRecv 1 None 100 (Some 64))
    ∷ line 5 (LineOp.Inject 0 (Zero 30) None)
    ∷ line 6 (LineOp.Inject 0 (Zero 20) None)
    ∷ line 7 (LineOp.Inject 0 (Zero 8) None)
    ∷ line 8 (LineOp.Wait (Some 1))
    ∷ line 9 (LineOp.Wait (Some 1))
    ∷ line 10 (LineOp.Wait (Some 1)) ∷ [])
    ∷ []
    )

pub text : List ℕ
text = codes "fabric 1 peers 1\npeer 0\n4 mrecv ok\n5 inject ok\n6 inject ok\n7 inject ok\n8 wait 1 FI_RECV from 0 at 0 len 30 bytes 000000000000000000000000000000000000000000000000000000000000\n9 wait 1 FI_RECV from 0 at 30 len 20 bytes 0000000000000000000000000000000000000000\n10 wait 1 FI_MULTI_RECV used 50\ntrace D D S0 D S0 D S0 H0 T0 H0 T0 H0 T0 R R R D D D\nend done\n"

pub row : Shows script text
unfolding script text machine
row = record { report_is = refl; lawful = refl; rest = refl }

-- A multi-receive.
use Rattle.std.specs.Prelude.{List, [], ◌∷◌, ℕ, Some, None, codes, refl}
use Rattle.fab_base.specs.declared.script.Bound.{Bound}
use Rattle.fab_base.specs.declared.script.BytesWord.TheVariants.{Text}
use Rattle.fab_base.specs.declared.script.LineOp.{LineOp}
use Rattle.fab_model.specs.Machine.{machine}
use Rattle.fab_model.proofs.Scripts.{script_of, line, Shows}

pub script : Bound
script = script_of (
    (line 4 (LineOp.MRecv 1 None 10 (Some 6))
    ∷ line 5 (LineOp.Inject 0 (Text (codes "abc")) None)
    ∷ line 6 (LineOp.Inject 0 (Text (codes "de")) None)
    ∷ line 7 (LineOp.Inject 0 (Text (codes "f")) None)
    ∷ line 8 (LineOp.Wait (Some 1))
    ∷ line 9 (LineOp.Wait (Some 1))
    ∷ line 10 (LineOp.Wait (Some 1))
    ∷ line 11 (LineOp.Recv 2 None 4)
    ∷ line 12 (LineOp.Wait (Some 2)) ∷ [])
    ∷ []
    )

pub text : List ℕ
text = codes "fabric 1 peers 1\npeer 0\n4 mrecv ok\n5 inject ok\n6 inject ok\n7 inject ok\n8 wait 1 FI_RECV from 0 at 0 len 3 bytes 616263\n9 wait 1 FI_RECV from 0 at 3 len 2 bytes 6465\n10 wait 1 FI_MULTI_RECV used 5\n11 recv ok\n12 wait 2 FI_RECV from 0 len 1 bytes 66\ntrace D D S0 D S0 D S0 H0 T0 H0 T0 H0 T0 R R R D D D D R D\nend done\n"

pub row : Shows script text
unfolding script text machine
row = record { report_is = refl; lawful = refl; rest = refl }

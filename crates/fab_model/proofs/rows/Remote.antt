-- A write with data.
use Rattle.std.specs.Prelude.{List, [], ◌∷◌, ℕ, Some, None, true, false, codes, refl}
use Rattle.fab_base.specs.declared.script.Bound.{Bound}
use Rattle.fab_base.specs.declared.script.BytesWord.TheVariants.{Text, Zero}
use Rattle.fab_base.specs.declared.script.LineOp.{LineOp}
use Rattle.fab_model.specs.Machine.{machine}
use Rattle.fab_model.proofs.Scripts.{script_of, line, Shows}

pub script : Bound
script = script_of (
    (line 4 (LineOp.Reg 7 (record { remote_read = false; remote_write = true }) (Zero 4))
    ∷ line 5 (LineOp.Wait None)
    ∷ line 6 (LineOp.Show 7) ∷ [])
    ∷ (line 8 (LineOp.Write 1 0 7 1 (Text (codes "ab")) (Some 9) false false)
    ∷ line 9 (LineOp.Wait (Some 1)) ∷ [])
    ∷ []
    )

pub text : List ℕ
text = codes "fabric 1 peers 2\npeer 0\n4 reg ok\n5 wait * FI_RMA FI_REMOTE_WRITE FI_REMOTE_CQ_DATA from 1 data 9\n6 show 00616200\ntrace D H1 T1 R S1 D D\npeer 1\n8 write ok\n9 wait 1 FI_WRITE\ntrace D S0 H0 T0 R D\nend done\n"

pub row : Shows script text
unfolding script text machine
row = record { report_is = refl; lawful = refl; rest = refl }

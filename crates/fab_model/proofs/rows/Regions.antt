-- Regions.
use Rattle.std.specs.Prelude.{List, [], ◌∷◌, ℕ, Some, None, true, false, codes, refl}
use Rattle.fab_base.specs.declared.script.Bound.{Bound}
use Rattle.fab_base.specs.declared.script.BytesWord.TheVariants.{Text, Hex, Zero}
use Rattle.fab_base.specs.declared.script.LineOp.{LineOp}
use Rattle.fab_model.specs.Machine.{machine}
use Rattle.fab_model.proofs.Scripts.{script_of, line, Shows}

pub script : Bound
script = script_of (
    (line 4 (LineOp.Reg 10 (record { remote_read = true; remote_write = true }) (Zero 8))
    ∷ line 5 (LineOp.Write 1 0 10 4 (Text (codes "abcd")) None false false)
    ∷ line 6 (LineOp.Wait (Some 1))
    ∷ line 7 (LineOp.Write 2 0 10 5 (Text (codes "wxyz")) None false false)
    ∷ line 8 (LineOp.Wait (Some 2))
    ∷ line 9 (LineOp.Show 10)
    ∷ line 10 (LineOp.Read 3 0 10 8 0)
    ∷ line 11 (LineOp.Wait (Some 3))
    ∷ line 12 (LineOp.Write 4 0 11 0 (Hex ([])) None false false)
    ∷ line 13 (LineOp.Wait (Some 4))
    ∷ line 14 (LineOp.Reg 10 (record { remote_read = true; remote_write = false }) (Hex ([]))) ∷ [])
    ∷ []
    )

pub text : List ℕ
text = codes "fabric 1 peers 1\npeer 0\n4 reg ok\n5 write ok\n6 wait 1 FI_WRITE\n7 write ok\n8 wait 2 error RANGE\n9 show 0000000061626364\n10 read ok\n11 wait 3 FI_READ len 0 bytes -\n12 write ok\n13 wait 4 error FI_ENOKEY\n14 reg refused FI_ENOKEY\ntrace D D S0 H0 T0 S0 H0 T0 R D D S0 H0 T0 S0 H0 T0 R D D D S0 H0 T0 S0 H0 T0 R D D S0 H0 T0 S0 H0 T0 R D D\nend done\n"

pub row : Shows script text
unfolding script text machine
row = record { report_is = refl; lawful = refl; rest = refl }

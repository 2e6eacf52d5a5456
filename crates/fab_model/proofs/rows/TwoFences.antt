-- Two peers with a fence each, that wait for one another's replies: a reply is not held back.
use Rattle.std.specs.Prelude.{List, [], ◌∷◌, ℕ, Some, None, true, false, codes, refl}
use Rattle.fab_base.specs.declared.script.Bound.{Bound}
use Rattle.fab_base.specs.declared.script.BytesWord.TheVariants.{Text, Zero}
use Rattle.fab_base.specs.declared.script.LineOp.{LineOp}
use Rattle.fab_model.specs.Machine.{machine}
use Rattle.fab_model.proofs.Scripts.{script_of, line, Shows}

pub script : Bound
script = script_of (
    (line 4 (LineOp.Reg 1 (record { remote_read = false; remote_write = true }) (Zero 1))
    ∷ line 5 (LineOp.Write 1 1 1 0 (Text (codes "a")) None false false)
    ∷ line 6 (LineOp.Write 2 1 1 0 (Text (codes "b")) None false true)
    ∷ line 7 (LineOp.Wait (Some 2)) ∷ [])
    ∷ (line 9 (LineOp.Reg 1 (record { remote_read = false; remote_write = true }) (Zero 1))
    ∷ line 10 (LineOp.Write 1 0 1 0 (Text (codes "a")) None false false)
    ∷ line 11 (LineOp.Write 2 0 1 0 (Text (codes "b")) None false true)
    ∷ line 12 (LineOp.Wait (Some 2)) ∷ [])
    ∷ []
    )

pub text : List ℕ
text = codes "fabric 1 peers 2\npeer 0\n4 reg ok\n5 write ok\n6 write ok\n7 wait 2 FI_WRITE\nleft 1 FI_WRITE\ntrace D D S1 D H1 T1 S1 H1 T1 S1 R H1 T1 S1 H1 T1 R D\npeer 1\n9 reg ok\n10 write ok\n11 write ok\n12 wait 2 FI_WRITE\nleft 1 FI_WRITE\ntrace D D S0 D H0 T0 S0 H0 T0 S0 R H0 T0 S0 H0 T0 R D\nend done\n"

pub row : Shows script text
unfolding script text machine
row = record { report_is = refl; lawful = refl; rest = refl }

-- Selective completion.
use Rattle.std.specs.Prelude.{List, [], ◌∷◌, ℕ, Some, None, true, false, codes, refl}
use Rattle.fab_base.specs.declared.peers.Level.{Level}
use Rattle.fab_base.specs.declared.script.Bound.{Bound}
use Rattle.fab_base.specs.declared.script.BytesWord.TheVariants.{Text}
use Rattle.fab_base.specs.declared.script.LineOp.{LineOp}
use Rattle.fab_model.specs.Machine.{machine}
use Rattle.fab_model.proofs.Scripts.{selective_script_of, line, Shows}

pub script : Bound
script = selective_script_of (
    (line 5 (LineOp.TSend 1 0 1 (Text (codes "a")) None Level.Transmit false false)
    ∷ line 6 (LineOp.TSend 2 0 1 (Text (codes "b")) None Level.Transmit true false)
    ∷ line 7 (LineOp.Wait (Some 2)) ∷ [])
    ∷ []
    )

pub text : List ℕ
text = codes "fabric 1 peers 1\npeer 0\n5 tsend ok\n6 tsend ok\n7 wait 2 FI_TAGGED FI_SEND\ntrace D S0 D S0 R D H0 T0 H0 T0\nend done\n"

pub row : Shows script text
unfolding script text machine
row = record { report_is = refl; lawful = refl; rest = refl }

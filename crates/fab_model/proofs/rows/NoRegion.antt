-- An injected write to no region.
use Rattle.std.specs.Prelude.{List, [], ◌∷◌, ℕ, None, codes, refl}
use Rattle.fab_base.specs.declared.script.Bound.{Bound}
use Rattle.fab_base.specs.declared.script.BytesWord.TheVariants.{Text}
use Rattle.fab_base.specs.declared.script.LineOp.{LineOp}
use Rattle.fab_model.specs.Machine.{machine}
use Rattle.fab_model.proofs.Scripts.{script_of, line, Shows}

pub script : Bound
script = script_of (
    (line 4 (LineOp.WInject 0 3 0 (Text (codes "a")) None)
    ∷ line 5 (LineOp.Wait None) ∷ [])
    ∷ []
    )

pub text : List ℕ
text = codes "fabric 1 peers 1\npeer 0\n4 winject ok\n5 wait * error FI_ENOKEY\ntrace D S0 H0 T0 S0 H0 T0 R D\nend done\n"

pub row : Shows script text
unfolding script text machine
row = record { report_is = refl; lawful = refl; rest = refl }

-- Two peers without lines.
use Rattle.std.specs.Prelude.{List, [], ◌∷◌, ℕ, codes, refl}
use Rattle.fab_base.specs.declared.script.Bound.{Bound}
use Rattle.fab_model.specs.Machine.{machine}
use Rattle.fab_model.proofs.Scripts.{script_of, Shows}

pub script : Bound
script = script_of (
    ([])
    ∷ ([])
    ∷ []
    )

pub text : List ℕ
text = codes "fabric 1 peers 2\npeer 0\ntrace\npeer 1\ntrace\nend done\n"

pub row : Shows script text
unfolding script text machine
row = record { report_is = refl; lawful = refl; rest = refl }

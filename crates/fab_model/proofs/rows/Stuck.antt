-- Two peers that wait for ever.
use Rattle.std.specs.Prelude.{List, [], ◌∷◌, ℕ, Some, None, codes, refl}
use Rattle.fab_base.specs.declared.script.Bound.{Bound}
use Rattle.fab_base.specs.declared.script.LineOp.{LineOp}
use Rattle.fab_model.specs.Machine.{machine}
use Rattle.fab_model.proofs.Scripts.{script_of, line, Shows}

pub script : Bound
script = script_of (
    (line 4 (LineOp.TRecv 1 None 0 0 4)
    ∷ line 5 (LineOp.Wait (Some 1)) ∷ [])
    ∷ (line 7 (LineOp.TRecv 1 None 0 0 4)
    ∷ line 8 (LineOp.Wait (Some 1)) ∷ [])
    ∷ []
    )

pub text : List ℕ
text = codes "fabric 1 peers 2\npeer 0\n4 trecv ok\nstuck at 5\ntrace D\npeer 1\n7 trecv ok\nstuck at 8\ntrace D\nend stuck\n"

pub row : Shows script text
unfolding script text machine
row = record { report_is = refl; lawful = refl; rest = refl }

-- The final cancel.
use Rattle.std.specs.Prelude.{List, [], ◌∷◌, ℕ, None, codes, refl}
use Rattle.fab_base.specs.declared.script.Bound.{Bound}
use Rattle.fab_base.specs.declared.script.LineOp.{LineOp}
use Rattle.fab_model.specs.Machine.{machine}
use Rattle.fab_model.proofs.Scripts.{script_of, line, Shows}

pub script : Bound
script = script_of (
    (line 4 (LineOp.TRecv 1 None 0 0 4) ∷ [])
    ∷ []
    )

pub text : List ℕ
text = codes "fabric 1 peers 1\npeer 0\n4 trecv ok\nleft 1 error FI_ECANCELED\ntrace D X R\nend done\n"

pub row : Shows script text
unfolding script text machine
row = record { report_is = refl; lawful = refl; rest = refl }

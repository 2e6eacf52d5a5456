-- A capability that was not granted.
use Rattle.std.specs.Prelude.{List, [], ◌∷◌, ℕ, None, false, codes, refl}
use Rattle.fab_base.specs.declared.peers.Level.{Level}
use Rattle.fab_base.specs.declared.script.Bound.{Bound}
use Rattle.fab_base.specs.declared.script.BytesWord.TheVariants.{Text}
use Rattle.fab_base.specs.declared.script.LineOp.{LineOp}
use Rattle.fab_model.specs.Machine.{machine}
use Rattle.fab_model.proofs.Scripts.{tagged_script_of, line, Shows}

pub script : Bound
script = tagged_script_of (
    (line 5 (LineOp.Send 1 0 (Text (codes "a")) None Level.Transmit false false) ∷ [])
    ∷ []
    )

pub text : List ℕ
text = codes "fabric 1 peers 1\npeer 0\n5 send refused FI_EOPNOTSUPP\ntrace D\nend done\n"

pub row : Shows script text
unfolding script text machine
row = record { report_is = refl; lawful = refl; rest = refl }

-- Addresses.
use Rattle.std.specs.Prelude.{List, [], ◌∷◌, ℕ, None, false, codes, refl}
use Rattle.fab_base.specs.declared.peers.Level.{Level}
use Rattle.fab_base.specs.declared.script.Bound.{Bound}
use Rattle.fab_base.specs.declared.script.BytesWord.TheVariants.{Text}
use Rattle.fab_base.specs.declared.script.LineOp.{LineOp}
use Rattle.fab_model.specs.Machine.{machine}
use Rattle.fab_model.proofs.Scripts.{script_of, line, Shows}

pub script : Bound
script = script_of (
    (line 4 (LineOp.Insert (codes "shm://1"))
    ∷ line 5 (LineOp.Remove 1)
    ∷ line 6 (LineOp.Send 1 1 (Text (codes "a")) None Level.Transmit false false)
    ∷ line 7 (LineOp.Insert (codes "shm://1"))
    ∷ line 8 (LineOp.Insert (codes "shm://9"))
    ∷ line 9 (LineOp.Remove 1) ∷ [])
    ∷ ([])
    ∷ []
    )

pub text : List ℕ
text = codes "fabric 1 peers 2\npeer 0\n4 insert index 1\n5 remove ok\n6 send refused FI_EINVAL\n7 insert index 2\n8 insert FI_ADDR_NOTAVAIL\n9 remove refused FI_ENOENT\ntrace D D D D D D\npeer 1\ntrace\nend done\n"

pub row : Shows script text
unfolding script text machine
row = record { report_is = refl; lawful = refl; rest = refl }

-- A fence that waits for a message that no receive takes: its own message is not sent, and both peers wait for ever.
use Rattle.std.specs.Prelude.{List, [], ◌∷◌, ℕ, Some, None, true, false, codes, refl}
use Rattle.fab_base.specs.declared.peers.Level.{Level}
use Rattle.fab_base.specs.declared.script.Bound.{Bound}
use Rattle.fab_base.specs.declared.script.BytesWord.TheVariants.{Text}
use Rattle.fab_base.specs.declared.script.LineOp.{LineOp}
use Rattle.fab_model.specs.Machine.{machine}
use Rattle.fab_model.proofs.Scripts.{script_of, line, Shows}

pub script : Bound
script = script_of (
    (line 4 (LineOp.TSend 1 1 4 (Text (codes "a")) None Level.Match false false)
    ∷ line 5 (LineOp.TSend 2 1 5 (Text (codes "b")) None Level.Transmit false true)
    ∷ line 6 (LineOp.Wait (Some 2)) ∷ [])
    ∷ (line 8 (LineOp.TRecv 1 (Some 0) 5 0 1)
    ∷ line 9 (LineOp.Wait (Some 1)) ∷ [])
    ∷ []
    )

pub text : List ℕ
text = codes "fabric 1 peers 2\npeer 0\n4 tsend ok\n5 tsend ok\nstuck at 6\npending 1\ndeferred 1\ntrace D S1 D\npeer 1\n8 trecv ok\nstuck at 9\ntrace D H0 T0\nend stuck\n"

pub row : Shows script text
unfolding script text machine
row = record { report_is = refl; lawful = refl; rest = refl }

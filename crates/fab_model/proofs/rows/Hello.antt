-- One tagged message.
use Rattle.std.specs.Prelude.{List, [], ◌∷◌, ℕ, Some, None, false, codes, refl}
use Rattle.fab_base.specs.declared.peers.Level.{Level}
use Rattle.fab_base.specs.declared.script.Bound.{Bound}
use Rattle.fab_base.specs.declared.script.BytesWord.TheVariants.{Text}
use Rattle.fab_base.specs.declared.script.LineOp.{LineOp}
use Rattle.fab_model.specs.Machine.{machine}
use Rattle.fab_model.proofs.Scripts.{script_of, line, Shows}

pub script : Bound
script = script_of (
    (line 4 (LineOp.TRecv 1 None 7 0 16)
    ∷ line 5 (LineOp.Wait (Some 1)) ∷ [])
    ∷ (line 7 (LineOp.TSend 2 0 7 (Text (codes "hello")) None Level.Transmit false false) ∷ [])
    ∷ []
    )

pub text : List ℕ
text = codes "fabric 1 peers 2\npeer 0\n4 trecv ok\n5 wait 1 FI_TAGGED FI_RECV from 1 tag 7 len 5 bytes 68656c6c6f\ntrace D H1 T1 R D\npeer 1\n7 tsend ok\nleft 2 FI_TAGGED FI_SEND\ntrace D S0 R\nend done\n"

pub row : Shows script text
unfolding script text machine
row = record { report_is = refl; lawful = refl; rest = refl }

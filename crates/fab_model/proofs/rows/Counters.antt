-- Counters.
use Rattle.std.specs.Prelude.{List, [], ◌∷◌, ℕ, Some, None, false, codes, refl}
use Rattle.fab_base.specs.declared.entries.Class.{Class}
use Rattle.fab_base.specs.declared.peers.Level.{Level}
use Rattle.fab_base.specs.declared.script.Bound.{Bound}
use Rattle.fab_base.specs.declared.script.BytesWord.TheVariants.{Text}
use Rattle.fab_base.specs.declared.script.LineOp.{LineOp}
use Rattle.fab_model.specs.Machine.{machine}
use Rattle.fab_model.proofs.Scripts.{script_of, line, Shows}

pub script : Bound
script = script_of (
    (line 4 (LineOp.TRecv 1 (Some 0) 3 0 1)
    ∷ line 5 (LineOp.TSend 2 0 3 (Text (codes "ab")) None Level.Transmit false false)
    ∷ line 6 (LineOp.Wait (Some 1))
    ∷ line 7 (LineOp.Count Class.Recv)
    ∷ line 8 (LineOp.Count Class.Send) ∷ [])
    ∷ []
    )

pub text : List ℕ
text = codes "fabric 1 peers 1\npeer 0\n4 trecv ok\n5 tsend ok\n6 wait 1 error FI_ETRUNC from 0 tag 3 len 1 olen 1 bytes 61\n7 count ok 0 err 1\n8 count ok 1 err 0\nleft 2 FI_TAGGED FI_SEND\ntrace D D S0 R H0 T0 R D D D\nend done\n"

pub row : Shows script text
unfolding script text machine
row = record { report_is = refl; lawful = refl; rest = refl }

-- Peer 2 is seen first.
use Rattle.std.specs.Prelude.{List, [], ◌∷◌, ℕ, Some, None, false, codes, refl}
use Rattle.fab_base.specs.declared.peers.Level.{Level}
use Rattle.fab_base.specs.declared.script.Bound.{Bound}
use Rattle.fab_base.specs.declared.script.BytesWord.TheVariants.{Text}
use Rattle.fab_base.specs.declared.script.LineOp.{LineOp}
use Rattle.fab_model.specs.Machine.{machine}
use Rattle.fab_model.proofs.Scripts.{script_of, line, Shows}

pub script : Bound
script = script_of (
    (line 4 (LineOp.TRecv 1 None 0 0 1)
    ∷ line 5 (LineOp.TRecv 2 None 0 0 1)
    ∷ line 6 (LineOp.Wait (Some 1))
    ∷ line 7 (LineOp.Wait (Some 2)) ∷ [])
    ∷ (line 9 (LineOp.TSend 3 0 0 (Text (codes "a")) None Level.Transmit false false) ∷ [])
    ∷ (line 11 (LineOp.TSend 4 0 0 (Text (codes "b")) None Level.Transmit false false) ∷ [])
    ∷ []
    )

pub text : List ℕ
text = codes "fabric 1 peers 3\npeer 0\n4 trecv ok\n5 trecv ok\n6 wait 1 FI_TAGGED FI_RECV from 2 tag 0 len 1 bytes 62\n7 wait 2 FI_TAGGED FI_RECV from 1 tag 0 len 1 bytes 61\ntrace D D H2 T2 R D H1 T1 R D\npeer 1\n9 tsend ok\nleft 3 FI_TAGGED FI_SEND\ntrace D S0 R\npeer 2\n11 tsend ok\nleft 4 FI_TAGGED FI_SEND\ntrace D S0 R\nend done\n"

pub row : Shows script text
unfolding script text machine
row = record { report_is = refl; lawful = refl; rest = refl }

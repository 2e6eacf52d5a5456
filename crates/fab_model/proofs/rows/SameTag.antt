-- The same tag twice, both unexpected.
use Rattle.std.specs.Prelude.{List, [], ◌∷◌, ℕ, Some, None, false, codes, refl}
use Rattle.fab_base.specs.declared.peers.Level.{Level}
use Rattle.fab_base.specs.declared.script.Bound.{Bound}
use Rattle.fab_base.specs.declared.script.BytesWord.TheVariants.{Text}
use Rattle.fab_base.specs.declared.script.LineOp.{LineOp}
use Rattle.fab_model.specs.Machine.{machine}
use Rattle.fab_model.proofs.Scripts.{script_of, line, Shows}

pub script : Bound
script = script_of (
    (line 4 (LineOp.TSend 1 0 9 (Text (codes "ab")) None Level.Transmit false false)
    ∷ line 5 (LineOp.TSend 2 0 9 (Text (codes "cd")) None Level.Transmit false false)
    ∷ line 6 (LineOp.TSend 3 0 8 (Text (codes "z")) None Level.Transmit false false)
    ∷ line 7 (LineOp.TRecv 4 (Some 0) 8 0 1)
    ∷ line 8 (LineOp.Wait (Some 4))
    ∷ line 9 (LineOp.TRecv 5 None 9 0 8)
    ∷ line 10 (LineOp.TRecv 6 (Some 0) 9 0 8)
    ∷ line 11 (LineOp.Wait (Some 5))
    ∷ line 12 (LineOp.Wait (Some 6)) ∷ [])
    ∷ []
    )

pub text : List ℕ
text = codes "fabric 1 peers 1\npeer 0\n4 tsend ok\n5 tsend ok\n6 tsend ok\n7 trecv ok\n8 wait 4 FI_TAGGED FI_RECV from 0 tag 8 len 1 bytes 7a\n9 trecv ok\n10 trecv ok\n11 wait 5 FI_TAGGED FI_RECV from 0 tag 9 len 2 bytes 6162\n12 wait 6 FI_TAGGED FI_RECV from 0 tag 9 len 2 bytes 6364\nleft 1 FI_TAGGED FI_SEND\nleft 2 FI_TAGGED FI_SEND\nleft 3 FI_TAGGED FI_SEND\ntrace D S0 R D S0 R D S0 R D H0 T0 H0 T0 H0 T0 R D D R D R D D\nend done\n"

pub row : Shows script text
unfolding script text machine
row = record { report_is = refl; lawful = refl; rest = refl }

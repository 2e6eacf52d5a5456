-- A message of no bytes.
use Rattle.std.specs.Prelude.{List, [], ◌∷◌, ℕ, Some, None, false, codes, refl}
use Rattle.fab_base.specs.declared.peers.Level.{Level}
use Rattle.fab_base.specs.declared.script.Bound.{Bound}
use Rattle.fab_base.specs.declared.script.BytesWord.TheVariants.{Hex}
use Rattle.fab_base.specs.declared.script.LineOp.{LineOp}
use Rattle.fab_model.specs.Machine.{machine}
use Rattle.fab_model.proofs.Scripts.{script_of, line, Shows}

pub script : Bound
script = script_of (
    (line 4 (LineOp.TRecv 1 (Some 0) 1 0 0)
    ∷ line 5 (LineOp.TSend 2 0 1 (Hex ([])) None Level.Transmit false false)
    ∷ line 6 (LineOp.Wait (Some 1)) ∷ [])
    ∷ []
    )

pub text : List ℕ
text = codes "fabric 1 peers 1\npeer 0\n4 trecv ok\n5 tsend ok\n6 wait 1 FI_TAGGED FI_RECV from 0 tag 1 len 0 bytes -\nleft 2 FI_TAGGED FI_SEND\ntrace D D S0 R H0 T0 R D\nend done\n"

pub row : Shows script text
unfolding script text machine
row = record { report_is = refl; lawful = refl; rest = refl }

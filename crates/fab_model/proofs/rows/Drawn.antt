-- Draws.
use Rattle.std.specs.Prelude.{List, [], ◌∷◌, ℕ, Some, None, false, codes, refl}
use Rattle.fab_base.specs.declared.peers.Level.{Level}
use Rattle.fab_base.specs.declared.script.Bound.{Bound}
use Rattle.fab_base.specs.declared.script.BytesWord.TheVariants.{Text}
use Rattle.fab_base.specs.declared.script.LineOp.{LineOp}
use Rattle.fab_model.specs.Machine.{machine}
use Rattle.fab_model.proofs.Scripts.{script_of, line, Shows}

pub script : Bound
script = script_of (
    (line 4 (LineOp.Send 1 0 (Text (codes "abc")) None Level.Delivery false false)
    ∷ line 5 (LineOp.Wait (Some 1))
    ∷ line 6 (LineOp.Send 2 0 (Text (codes "de")) None Level.Delivery false false)
    ∷ line 7 (LineOp.Wait (Some 2))
    ∷ line 8 (LineOp.MRecv 3 None 10 (Some 6))
    ∷ line 9 (LineOp.Wait (Some 3))
    ∷ line 10 (LineOp.Wait (Some 3))
    ∷ line 11 (LineOp.Wait (Some 3)) ∷ [])
    ∷ []
    )

pub text : List ℕ
text = codes "fabric 1 peers 1\npeer 0\n4 send ok\n5 wait 1 FI_SEND\n6 send ok\n7 wait 2 FI_SEND\n8 mrecv ok\n9 wait 3 FI_RECV from 0 at 0 len 3 bytes 616263\n10 wait 3 FI_RECV from 0 at 3 len 2 bytes 6465\n11 wait 3 FI_MULTI_RECV used 5\ntrace D S0 H0 T0 S0 H0 T0 R D D S0 H0 T0 S0 H0 T0 R D D M M R R R D D D\nend done\n"

pub row : Shows script text
unfolding script text machine
row = record { report_is = refl; lawful = refl; rest = refl }

-- Requests performed at a peer count there in the second version, and not in the first; a refused one counts nothing.
use Rattle.std.specs.Prelude.{List, [], ◌∷◌, ◌++◌, ℕ, Some, None, true, false, codes, refl}
use Rattle.fab_base.specs.declared.entries.Class.{Class}
use Rattle.fab_base.specs.declared.items.AtomicOp.{AtomicOp}
use Rattle.fab_base.specs.declared.items.Num.{Num}
use Rattle.fab_base.specs.declared.script.BytesWord.TheVariants.{Text, Zero}
use Rattle.fab_base.specs.declared.script.Line.{Line}
use Rattle.fab_base.specs.declared.script.LineOp.{LineOp}
use Rattle.fab_model.specs.Machine.{machine}
use Rattle.fab_model.proofs.Scripts.{script_of, second_script_of, line, Shows}

pub lines : List (List Line)
lines =
    (line 4 (LineOp.Reg 10 (record { remote_read = true; remote_write = true }) (Zero 4))
    ∷ line 5 (LineOp.Write 1 0 10 0 (Text (codes "ab")) None false false)
    ∷ line 6 (LineOp.Wait (Some 1))
    ∷ line 7 (LineOp.Write 2 0 10 4 (Text (codes "c")) None false false)
    ∷ line 8 (LineOp.Wait (Some 2))
    ∷ line 9 (LineOp.Fetch 3 0 10 0 AtomicOp.AtomicRead Num.U8 [] 1)
    ∷ line 10 (LineOp.Wait (Some 3))
    ∷ line 11 (LineOp.Count Class.RemoteWrite)
    ∷ line 12 (LineOp.Count Class.RemoteRead) ∷ [])
    ∷ []

-- the lines between the first one and the counts
pub between : List ℕ
between = codes "peer 0\n4 reg ok\n5 write ok\n6 wait 1 FI_WRITE\n7 write ok\n8 wait 2 error RANGE\n9 fetch ok\n10 wait 3 FI_ATOMIC FI_READ len 1 bytes 61\n"

pub behind : List ℕ
behind = codes "trace D D S0 H0 T0 S0 H0 T0 R D D S0 H0 T0 S0 H0 T0 R D D S0 H0 T0 S0 H0 T0 R D D D\nend done\n"

pub second : Shows (second_script_of lines) (codes "fabric 2 peers 1\n" ++ between ++ codes "11 count ok 1 err 0\n12 count ok 1 err 0\n" ++ behind)
unfolding lines between behind machine
second = record { report_is = refl; lawful = refl; rest = refl }

pub first : Shows (script_of lines) (codes "fabric 1 peers 1\n" ++ between ++ codes "11 count ok 0 err 0\n12 count ok 0 err 0\n" ++ behind)
unfolding lines between behind machine
first = record { report_is = refl; lawful = refl; rest = refl }

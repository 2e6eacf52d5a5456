-- Atomics.
use Rattle.std.specs.Prelude.{List, [], ◌∷◌, ℕ, Some, true, codes, refl}
use Rattle.fab_base.specs.declared.items.AtomicOp.{AtomicOp}
use Rattle.fab_base.specs.declared.items.Num.{Num}
use Rattle.fab_base.specs.declared.script.Bound.{Bound}
use Rattle.fab_base.specs.declared.script.BytesWord.TheVariants.{Hex}
use Rattle.fab_base.specs.declared.script.LineOp.{LineOp}
use Rattle.fab_model.specs.Machine.{machine}
use Rattle.fab_model.proofs.Scripts.{script_of, line, Shows}

pub script : Bound
script = script_of (
    (line 4 (LineOp.Reg 1 (record { remote_read = true; remote_write = true }) (Hex (127 ∷ [])))
    ∷ line 5 (LineOp.Fetch 1 0 1 0 AtomicOp.Sum Num.I8 (1 ∷ []) 0)
    ∷ line 6 (LineOp.Wait (Some 1))
    ∷ line 7 (LineOp.Show 1)
    ∷ line 8 (LineOp.Reg 2 (record { remote_read = true; remote_write = true }) (Hex (7 ∷ [])))
    ∷ line 9 (LineOp.Compare 2 0 2 0 AtomicOp.CswapLe Num.U8 (1 ∷ []) (5 ∷ []))
    ∷ line 10 (LineOp.Wait (Some 2))
    ∷ line 11 (LineOp.Show 2)
    ∷ line 12 (LineOp.Reg 3 (record { remote_read = true; remote_write = true }) (Hex (240 ∷ [])))
    ∷ line 13 (LineOp.Compare 3 0 3 0 AtomicOp.Mswap Num.U8 (60 ∷ []) (15 ∷ []))
    ∷ line 14 (LineOp.Wait (Some 3))
    ∷ line 15 (LineOp.Show 3) ∷ [])
    ∷ []
    )

pub text : List ℕ
text = codes "fabric 1 peers 1\npeer 0\n4 reg ok\n5 fetch ok\n6 wait 1 FI_ATOMIC FI_READ len 1 bytes 7f\n7 show 80\n8 reg ok\n9 compare ok\n10 wait 2 FI_ATOMIC FI_READ len 1 bytes 07\n11 show 01\n12 reg ok\n13 compare ok\n14 wait 3 FI_ATOMIC FI_READ len 1 bytes f0\n15 show fc\ntrace D D S0 H0 T0 S0 H0 T0 R D D D D S0 H0 T0 S0 H0 T0 R D D D D S0 H0 T0 S0 H0 T0 R D D\nend done\n"

pub row : Shows script text
unfolding script text machine
row = record { report_is = refl; lawful = refl; rest = refl }

-- Atomics that are refused.
use Rattle.std.specs.Prelude.{List, [], ◌∷◌, ℕ, Some, true, false, codes, refl}
use Rattle.fab_base.specs.declared.items.AtomicOp.{AtomicOp}
use Rattle.fab_base.specs.declared.items.Num.{Num}
use Rattle.fab_base.specs.declared.script.Bound.{Bound}
use Rattle.fab_base.specs.declared.script.BytesWord.TheVariants.{Hex}
use Rattle.fab_base.specs.declared.script.LineOp.{LineOp}
use Rattle.fab_model.specs.Machine.{machine}
use Rattle.fab_model.proofs.Scripts.{script_of, line, Shows}

pub script : Bound
script = script_of (
    (line 4 (LineOp.Reg 5 (record { remote_read = true; remote_write = true }) (Hex (1 ∷ 2 ∷ [])))
    ∷ line 5 (LineOp.Fetch 1 0 5 0 AtomicOp.AtomicRead Num.U8 [] 2)
    ∷ line 6 (LineOp.Wait (Some 1))
    ∷ line 7 (LineOp.Atomic 2 0 5 1 AtomicOp.Sum Num.U16 (1 ∷ 0 ∷ []) false false)
    ∷ line 8 (LineOp.Atomic 3 0 5 0 AtomicOp.Cswap Num.U8 (1 ∷ []) false false) ∷ [])
    ∷ []
    )

pub text : List ℕ
text = codes "fabric 1 peers 1\npeer 0\n4 reg ok\n5 fetch ok\n6 wait 1 FI_ATOMIC FI_READ len 2 bytes 0102\n7 atomic refused FI_EINVAL\n8 atomic refused FI_EINVAL\ntrace D D S0 H0 T0 S0 H0 T0 R D D D\nend done\n"

pub row : Shows script text
unfolding script text machine
row = record { report_is = refl; lawful = refl; rest = refl }

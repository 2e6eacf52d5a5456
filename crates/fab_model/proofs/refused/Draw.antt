-- A draw: it is due, and its entries have room.
use Rattle.std.specs.Prelude.{[], ◌∷◌, Some, None, true, false, codes, refl}
use Rattle.fab_base.specs.declared.script.Bound.{Bound}
use Rattle.fab_base.specs.declared.script.BytesWord.TheVariants.{Text}
use Rattle.fab_base.specs.declared.script.LineOp.{LineOp}
use Rattle.fab_model.specs.Machine.{machine}
use Rattle.fab_model.specs.Report.{traces}
use Rattle.fab_model.proofs.Refusals.{Refuses, refuses, sized}
use Rattle.fab_model.proofs.Scripts.{script_of, line}

-- a look, a multi-receive, and room for one entry
abbrev pub crowded : Bound
crowded = sized 64 256 1 (script_of (
    (line 4 (LineOp.Peek 1 None 0 0) ∷ line 5 (LineOp.MRecv 2 None 8 (Some 4)) ∷ [])
    ∷ (line 7 (LineOp.Inject 0 (Text (codes "ab")) None) ∷ [])
    ∷ []
    ))

pub not_due : Refuses crowded (traces (codes "trace M\ntrace\n")) 0 (false ∷ true ∷ [])
unfolding machine
not_due = refuses _ _ _ _ 0 refl refl

pub no_room : Refuses crowded (traces (codes "trace H1 T1 D D M\ntrace D S0\n")) 0 (true ∷ false ∷ [])
unfolding machine
no_room = refuses _ _ _ _ 0 refl refl

-- The final cancel: all lines are done, no draw is due, all items are whole, a receive is posted, and its entry has room.
use Rattle.std.specs.Prelude.{[], ◌∷◌, Some, None, true, false, codes, refl}
use Rattle.fab_base.specs.declared.script.Bound.{Bound}
use Rattle.fab_base.specs.declared.script.BytesWord.TheVariants.{Text}
use Rattle.fab_base.specs.declared.script.LineOp.{LineOp}
use Rattle.fab_model.specs.Machine.{machine}
use Rattle.fab_model.specs.Report.{traces}
use Rattle.fab_model.proofs.Refusals.{Refuses, refuses, sized}
use Rattle.fab_model.proofs.Scripts.{script_of, line}

-- a receive of peer 0 that no message of peer 1 meets
abbrev pub script : Bound
script = script_of (
    (line 4 (LineOp.TRecv 1 None 7 0 4) ∷ [])
    ∷ (line 6 (LineOp.Inject 0 (Text (codes "ab")) None) ∷ [])
    ∷ []
    )

pub lines_left : Refuses script (traces (codes "trace D X\ntrace\n")) 0 (false ∷ true ∷ true ∷ true ∷ true ∷ [])
unfolding machine
lines_left = refuses _ _ _ _ 0 refl refl

pub not_whole : Refuses script (traces (codes "trace D X\ntrace D S0\n")) 0 (true ∷ true ∷ false ∷ true ∷ true ∷ [])
unfolding machine
not_whole = refuses _ _ _ _ 0 refl refl

pub not_posted : Refuses script (traces (codes "trace H1 T1 D\ntrace D S0 X\n")) 1 (true ∷ true ∷ true ∷ false ∷ true ∷ [])
unfolding machine
not_posted = refuses _ _ _ _ 0 refl refl

-- a multi-receive of peer 0 that matches the message of peer 1
abbrev pub drawing : Bound
drawing = script_of (
    (line 4 (LineOp.MRecv 1 None 8 (Some 4)) ∷ [])
    ∷ (line 6 (LineOp.Inject 0 (Text (codes "ab")) None) ∷ [])
    ∷ []
    )

pub draw_is_due : Refuses drawing (traces (codes "trace H1 T1 D X\ntrace D S0\n")) 0 (true ∷ false ∷ true ∷ true ∷ true ∷ [])
unfolding machine
draw_is_due = refuses _ _ _ _ 0 refl refl

-- two receives, and room for one entry
abbrev pub crowded : Bound
crowded = sized 64 256 1 (script_of (
    (line 4 (LineOp.TRecv 1 None 7 0 4) ∷ line 5 (LineOp.TRecv 2 None 7 0 4) ∷ [])
    ∷ []
    ))

pub no_room : Refuses crowded (traces (codes "trace D D X X\n")) 0 (true ∷ true ∷ true ∷ true ∷ false ∷ [])
unfolding machine
no_room = refuses _ _ _ _ 0 refl refl

-- The completion of an item: it has arrived, it is transmitted, and its entries have room. What is transmitted was accepted.
use Rattle.std.specs.Prelude.{[], ◌∷◌, None, true, false, codes, refl}
use Rattle.fab_base.specs.declared.script.Bound.{Bound}
use Rattle.fab_base.specs.declared.script.BytesWord.TheVariants.{Text}
use Rattle.fab_base.specs.declared.script.LineOp.{LineOp}
use Rattle.fab_model.specs.Machine.{machine}
use Rattle.fab_model.specs.Report.{traces}
use Rattle.fab_model.proofs.Refusals.{Refuses, refuses, sized}
use Rattle.fab_model.proofs.Scripts.{script_of, line}

-- peer 1 sends a message to peer 0
abbrev pub script : Bound
script = script_of (
    (line 4 (LineOp.TRecv 1 None 7 0 4) ∷ [])
    ∷ (line 6 (LineOp.TInject 0 7 (Text (codes "ab")) None) ∷ [])
    ∷ []
    )

pub not_arrived : Refuses script (traces (codes "trace T1\ntrace D S0\n")) 0 (true ∷ false ∷ true ∷ true ∷ [])
unfolding machine
not_arrived = refuses _ _ _ _ 0 refl refl

pub not_transmitted : Refuses script (traces (codes "trace H1 T1\ntrace D\n")) 0 (true ∷ true ∷ false ∷ true ∷ [])
unfolding machine
not_transmitted = refuses _ _ _ _ 0 refl refl

-- two messages, and room for one entry
abbrev pub crowded : Bound
crowded = sized 64 256 1 (script_of (
    (line 4 (LineOp.TRecv 1 None 7 0 4) ∷ line 5 (LineOp.TRecv 2 None 7 0 4) ∷ [])
    ∷ (line 7 (LineOp.TInject 0 7 (Text (codes "ab")) None) ∷ line 8 (LineOp.TInject 0 7 (Text (codes "cd")) None) ∷ [])
    ∷ []
    ))

pub no_room : Refuses crowded (traces (codes "trace D D H1 T1 H1 T1\ntrace D D S0 S0\n")) 0 (true ∷ true ∷ true ∷ false ∷ [])
unfolding machine
no_room = refuses _ _ _ _ 0 refl refl

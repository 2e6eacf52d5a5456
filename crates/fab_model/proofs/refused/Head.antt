-- The arrival of an item: it was accepted and no fence holds it back, none of the source is coming, and no draw is due.
use Rattle.std.specs.Prelude.{[], ◌∷◌, Some, None, true, false, codes, refl}
use Rattle.fab_base.specs.declared.peers.Level.{Level}
use Rattle.fab_base.specs.declared.script.Bound.{Bound}
use Rattle.fab_base.specs.declared.script.BytesWord.TheVariants.{Text}
use Rattle.fab_base.specs.declared.script.LineOp.{LineOp}
use Rattle.fab_model.specs.Machine.{machine}
use Rattle.fab_model.specs.Report.{traces}
use Rattle.fab_model.proofs.Refusals.{Refuses, refuses}
use Rattle.fab_model.proofs.Scripts.{script_of, line}

-- peer 1 sends two messages to peer 0
abbrev pub script : Bound
script = script_of (
    (line 4 (LineOp.MRecv 1 None 8 (Some 4)) ∷ [])
    ∷ (line 6 (LineOp.Inject 0 (Text (codes "ab")) None) ∷ line 7 (LineOp.Inject 0 (Text (codes "cd")) None) ∷ [])
    ∷ []
    )

pub not_accepted : Refuses script (traces (codes "trace H1\ntrace\n")) 0 (false ∷ true ∷ true ∷ [])
unfolding machine
not_accepted = refuses _ _ _ _ 0 refl refl

pub one_is_coming : Refuses script (traces (codes "trace H1 H1\ntrace D D\n")) 0 (true ∷ false ∷ true ∷ [])
unfolding machine
one_is_coming = refuses _ _ _ _ 0 refl refl

pub draw_is_due : Refuses script (traces (codes "trace H1 T1 D H1\ntrace D D S0\n")) 0 (true ∷ true ∷ false ∷ [])
unfolding machine
draw_is_due = refuses _ _ _ _ 0 refl refl

-- peer 1 sends a message that asks for a reply, one with a fence, and one behind it
abbrev pub fenced : Bound
fenced = script_of (
    []
    ∷ (line 6 (LineOp.TSend 1 0 7 (Text (codes "ab")) None Level.Delivery false false)
    ∷ line 7 (LineOp.TSend 2 0 7 (Text (codes "cd")) None Level.Transmit false true)
    ∷ line 8 (LineOp.TInject 0 7 (Text (codes "e")) None) ∷ [])
    ∷ []
    )

-- the first is whole, but its reply is not: nothing passes the fence
pub held_back : Refuses fenced (traces (codes "trace H1 T1 H1\ntrace D D D S0\n")) 0 (false ∷ true ∷ true ∷ [])
unfolding machine
held_back = refuses _ _ _ _ 0 refl refl

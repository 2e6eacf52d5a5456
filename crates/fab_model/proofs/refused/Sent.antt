-- The transmission of an item: it was accepted and no fence holds it back, and its entry has room.
use Rattle.std.specs.Prelude.{[], ◌∷◌, None, true, false, codes, refl}
use Rattle.fab_base.specs.declared.peers.Level.{Level}
use Rattle.fab_base.specs.declared.script.Bound.{Bound}
use Rattle.fab_base.specs.declared.script.BytesWord.TheVariants.{Text}
use Rattle.fab_base.specs.declared.script.LineOp.{LineOp}
use Rattle.fab_model.specs.Machine.{machine}
use Rattle.fab_model.specs.Report.{traces}
use Rattle.fab_model.proofs.Refusals.{Refuses, refuses, sized}
use Rattle.fab_model.proofs.Scripts.{script_of, line}

-- two messages of a peer to itself, and room for one entry
abbrev pub crowded : Bound
crowded = sized 64 256 1 (script_of (
    (line 4 (LineOp.TSend 1 0 7 (Text (codes "ab")) None Level.Transmit false false) ∷ line 5 (LineOp.TSend 2 0 7 (Text (codes "cd")) None Level.Transmit false false) ∷ [])
    ∷ []
    ))

pub not_accepted : Refuses crowded (traces (codes "trace S0\n")) 0 (false ∷ true ∷ [])
unfolding machine
not_accepted = refuses _ _ _ _ 0 refl refl

pub sent_before : Refuses crowded (traces (codes "trace D S0 S0\n")) 0 (false ∷ true ∷ [])
unfolding machine
sent_before = refuses _ _ _ _ 0 refl refl

pub no_room : Refuses crowded (traces (codes "trace D D S0 S0\n")) 0 (true ∷ false ∷ [])
unfolding machine
no_room = refuses _ _ _ _ 0 refl refl

-- a message of a peer to itself that asks for a reply, and one with a fence
abbrev pub fenced : Bound
fenced = script_of (
    (line 4 (LineOp.TSend 1 0 7 (Text (codes "ab")) None Level.Delivery false false) ∷ line 5 (LineOp.TSend 2 0 7 (Text (codes "cd")) None Level.Transmit false true) ∷ [])
    ∷ []
    )

pub held_back : Refuses fenced (traces (codes "trace D D S0 S0\n")) 0 (false ∷ true ∷ [])
unfolding machine
held_back = refuses _ _ _ _ 0 refl refl

-- A read: an entry is unread.
use Rattle.std.specs.Prelude.{[], ◌∷◌, None, false, codes, refl}
use Rattle.fab_base.specs.declared.peers.Level.{Level}
use Rattle.fab_base.specs.declared.script.Bound.{Bound}
use Rattle.fab_base.specs.declared.script.BytesWord.TheVariants.{Text}
use Rattle.fab_base.specs.declared.script.LineOp.{LineOp}
use Rattle.fab_model.specs.Machine.{machine}
use Rattle.fab_model.specs.Report.{traces}
use Rattle.fab_model.proofs.Refusals.{Refuses, refuses}
use Rattle.fab_model.proofs.Scripts.{script_of, line}

-- a message of a peer to itself
abbrev pub script : Bound
script = script_of (
    (line 4 (LineOp.TSend 1 0 7 (Text (codes "ab")) None Level.Transmit false false) ∷ [])
    ∷ []
    )

pub not_written : Refuses script (traces (codes "trace D R\n")) 0 (false ∷ [])
unfolding machine
not_written = refuses _ _ _ _ 0 refl refl

pub read_before : Refuses script (traces (codes "trace D S0 R R\n")) 0 (false ∷ [])
unfolding machine
read_before = refuses _ _ _ _ 0 refl refl

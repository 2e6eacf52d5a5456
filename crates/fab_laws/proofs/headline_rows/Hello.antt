-- One tagged message. Its schedule is lawful and leads to where all is drained, and an entry tells the message there: so the premises of the headline, and those in it, are met.
use Rattle.std.proofs.Common.{◌≡◌, true, false, List, [], ◌∷◌, ◌++◌, slice_get, Some, None, inl, refl}
use Rattle.std.specs.Prelude.{codes, replicate}
use Rattle.fab_base.specs.declared.entries.Entry.TheVariants.{Received}
use Rattle.fab_base.specs.declared.entries.Taken.TheVariants.{Success}
use Rattle.fab_base.specs.declared.operations.Written.{Written}
use Rattle.fab_base.specs.declared.peers.Level.{Level}
use Rattle.fab_base.specs.declared.peers.Step.{Step}
use Rattle.fab_base.specs.declared.peers.Step.TheVariants.{Do, Head, Tail}
use Rattle.fab_base.specs.declared.script.Bound.{Bound}
use Rattle.fab_base.specs.declared.script.BytesWord.TheVariants.{Text}
use Rattle.fab_base.specs.declared.script.LineOp.{LineOp}
use Rattle.fab_model.specs.Machine.{machine}
use Rattle.fab_model.specs.Peers.{Actor}
use Rattle.fab_model.specs.Replay.{Lawful, is_drained, replayed}
use Rattle.fab_model.proofs.Scripts.{line, script_of}
use Rattle.fab_laws.specs.Matched.{tells_message}
use Rattle.fab_laws.specs.Members.{In}

script : Bound
script = script_of (
    (line 4 (LineOp.TRecv 1 None 7 0 16)
    ∷ line 5 (LineOp.Wait (Some 1)) ∷ [])
    ∷ (line 7 (LineOp.TSend 2 0 7 (Text (codes "hello")) None Level.Transmit false false) ∷ [])
    ∷ []
    )

schedule : List (List Step)
schedule = (Do ∷ Head 1 ∷ Tail 1 ∷ Step.Read ∷ Do ∷ []) ∷ (Do ∷ Step.Sent 0 ∷ Step.Read ∷ []) ∷ []

record Ends (states : List Actor) : Type 0 where
  drained : is_drained states ≡ true
  receiver : Actor
  here : slice_get states 0 ≡ Some receiver
  entry : (w : Written) × In w receiver.state.cq.written × (tells_message w.entry ≡ true) × (w.entry ≡ Success (Received 1 1 (Some 7) None 5 (codes "hello" ++ replicate 11 0)))

lawful : Lawful script schedule
unfolding script schedule machine
lawful = refl

ends : Ends (replayed script schedule).states
unfolding script schedule machine
ends = record { drained = refl; receiver = _; here = refl; entry = (_, inl refl, refl, refl) }

-- A call that touches the machine's state alone, as one of its regions does.
--     DoesHere call answer h t      the answer and the state after it are the machine's, and the rest of what is held stays
use Rattle.std.specs.Prelude.{◌≡◌}
use Rattle.fab_base.specs.declared.peers.LineResult.{LineResult}
use Rattle.fab_model.specs.Calls.{Call, do_call}
use Rattle.fab_face.specs.Held.{Held, with_machine}

abbrev pub DoesHere : Call → LineResult → Held → Held → Type 0
DoesHere call answer h t = (do_call h.state call ≡ (answer, t.state)) × (t ≡ with_machine t.state h)

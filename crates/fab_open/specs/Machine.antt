-- What contracts of an endpoint see of its machine.
use Rattle.fab_core.specs.Parts.{held_of}
use Rattle.fab_face.specs.Held.{Held}
use Rattle.fab_open.specs.declared.machine.BinMachine.{BinMachine}

abbrev pub machine_held : BinMachine → Held
machine_held m = held_of m.core

use Rattle.fab_core.specs.Parts.{state_of}
use Rattle.fab_core.proofs.Calling.{if_transmit_some, if_transmit_none}
use Rattle.fab_core.proofs.machine.CoreMachine.send_fault.Goals as goal

pub returns-clause-some : goal.returns-clause-some
returns-clause-some g c = if_transmit_some (state_of c.args.self.now) c.args.message.now c.args.bytes.now c.message_fault.result c.message_fault.ensures

pub returns-clause-none : goal.returns-clause-none
returns-clause-none g c = if_transmit_none (state_of c.args.self.now) c.args.message.now c.args.bytes.now c.message_fault.result c.message_fault.ensures

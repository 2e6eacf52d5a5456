use Rattle.fab_core.specs.Parts.{state_of}
use Rattle.fab_core.proofs.Calling.{if_post_some, if_post_none}
use Rattle.fab_core.proofs.machine.CoreMachine.post_fault.Goals as goal

pub returns-clause-some : goal.returns-clause-some
returns-clause-some g c = if_post_some (state_of c.args.self.now) c.args.ask.now c.args.buf.now c.ask_fault.result c.ask_fault.ensures

pub returns-clause-none : goal.returns-clause-none
returns-clause-none g c = if_post_none (state_of c.args.self.now) c.args.ask.now c.args.buf.now c.ask_fault.result c.ask_fault.ensures

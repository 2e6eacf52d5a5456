use Rattle.fab_core.specs.Parts.{state_of}
use Rattle.fab_core.proofs.Asking.{if_asked_lasting, if_asked_none, if_asked_some}
use Rattle.fab_core.proofs.requests.CoreRequesting.request_fault.Goals as goal

pub returns-clause-some : goal.returns-clause-some
returns-clause-some g c = if_asked_some (state_of c.args.self.now) c.args.request.now c.args.bytes.now c.args.compared.now c.asking_fault.result c.asking_fault.ensures

pub returns-clause-lasting : goal.returns-clause-lasting
returns-clause-lasting g c = if_asked_lasting (state_of c.args.self.now) c.args.request.now c.args.bytes.now c.args.compared.now c.asking_fault.result c.asking_fault.ensures

pub returns-clause-none : goal.returns-clause-none
returns-clause-none g c = if_asked_none (state_of c.args.self.now) c.args.request.now c.args.bytes.now c.args.compared.now c.asking_fault.result c.asking_fault.ensures

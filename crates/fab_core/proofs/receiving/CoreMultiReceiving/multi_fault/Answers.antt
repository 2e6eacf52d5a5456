use Rattle.fab_core.specs.Parts.{state_of}
use Rattle.fab_core.proofs.Sharing.{if_share_some, if_share_lasting, if_share_none}
use Rattle.fab_core.proofs.receiving.CoreMultiReceiving.multi_fault.Goals as goal

pub returns-clause-some : goal.returns-clause-some
returns-clause-some g c = if_share_some (state_of c.args.self.now) c.args.ask.now c.args.buf.now c.share_fault.result c.share_fault.ensures

pub returns-clause-lasting : goal.returns-clause-lasting
returns-clause-lasting g c = if_share_lasting (state_of c.args.self.now) c.args.ask.now c.args.buf.now c.share_fault.result c.share_fault.ensures

pub returns-clause-none : goal.returns-clause-none
returns-clause-none g c = if_share_none (state_of c.args.self.now) c.args.ask.now c.args.buf.now c.share_fault.result c.share_fault.ensures

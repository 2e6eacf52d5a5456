use Rattle.fab_script.proofs.SizeLemmas.{verdict_sized}
use Rattle.fab_script.proofs.grammar.parse.Goals as goal

pub returns-clause-sized : goal.returns-clause-sized
returns-clause-sized c = verdict_sized c.args.bytes.now c.read.result c.read.ensures

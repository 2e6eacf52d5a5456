use Rattle.fab_atomics.proofs.Spans.{and_ones}
use Rattle.fab_atomics.proofs.numbers.wrapped.Goals as goal

pub returns : goal.returns
returns c = and_ones c.args.num c.args.x c.ones.result c.ones.ensures

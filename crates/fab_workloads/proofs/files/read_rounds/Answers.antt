use Rattle.fab_workloads.proofs.Within.{read_within}
use Rattle.fab_workloads.proofs.files.read_rounds.Goals as goal

pub returns-clause-within : goal.returns-clause-within
returns-clause-within c = read_within c.args.bytes.now c.read.result c.read.ensures

use Rattle.fab_workloads.proofs.bench.add_bandwidth.Goals as goal

pub returns : goal.returns
returns c = c.in_ok-writeln.ensures.bytes

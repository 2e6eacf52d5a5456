use Rattle.fab_ring.specs.Ports.{out_of}
use Rattle.lane_bench.proofs.Betweens.{to_heads}
use Rattle.lane_bench.proofs.end.End.new.Goals as goal

pub invariant_of-result : goal.invariant_of-result
invariant_of-result c = record { below = c.requires.below; between = to_heads (out_of c.args.port) c.requires.between }

use Rattle.std.proofs.Common.{arith}
use Rattle.fab_link.specs.Frames.{frame}
use Rattle.fab_ring.specs.Ports.{out_of}
use Rattle.fab_ring.proofs.Samples.{between_after}
use Rattle.lane_bench.proofs.end.post.Goals as goal

pub returns-clause-between : goal.returns-clause-between
returns-clause-between c = let e = c.post.ensures in let w = c.whole.ensures in let from = w.from in let len = w.len in let total = w.total in
    between_after (out_of c.args.port.now) (out_of c.post.new.self) c.args.dest (frame c.whole.result c.args.bytes.now) c.post.result e.ok e.err e.noticed.after e.others c.requires.between (omega arith)

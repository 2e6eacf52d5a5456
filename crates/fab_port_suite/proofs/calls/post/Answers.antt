use Rattle.std.proofs.Common.{arith}
use Rattle.fab_link.specs.Frames.{frame}
use Rattle.fab_port_suite.proofs.Between.{between_after}
use Rattle.fab_port_suite.proofs.calls.post.Goals as goal

pub returns-clause-between : goal.returns-clause-between
returns-clause-between g c = let e = c.post.ensures in let w = c.whole.ensures in let from = w.from in let len = w.len in let total = w.total in
    between_after (g.P.Port.outs c.args.port.now) (g.P.Port.outs c.post.new.self) c.args.dest (frame c.whole.result c.bytes-bytes.result.now) c.post.result e.ok e.err e.noticed.after e.others c.requires.between (omega arith)

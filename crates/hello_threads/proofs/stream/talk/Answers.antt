use Rattle.std.proofs.Common.{arith}
use Rattle.hello_threads.proofs.Streaming.{both_if}
use Rattle.hello_threads.proofs.stream.talk.Goals as goal

pub returns : goal.returns
returns g c =
    let pair = c.in_ok-pair.pair in
    let ran = c.side_by_side-first.result in
    both_if g.E.Sees.seen c.args.zero.items c.args.one.items _ _ c.args.endpoints.items pair.0 pair.1 ran.0.endpoint ran.1.endpoint ran.0.told ran.1.told c.together.result c.in_ok-pair.ensures.are c.in_ok-pair.ensures.directed c.together.ensures.endpoints
    c.together.ensures.told (omega (arith, c.args.one.ok.0)) (omega (arith, c.args.zero.ok.0)) c.side_by_side-first.ensures.zero c.side_by_side-first.ensures.one

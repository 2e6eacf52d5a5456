use Rattle.hello_threads.proofs.Streaming.{runs}
use Rattle.hello_threads.proofs.stream.run.Goals as goal

pub returns : goal.returns
returns g c = runs c.args.other c.args.texts.items c.as_slice.result.now c.args.expects c.flow-ended.new.self.sent (g.E.Sees.seen c.args.endpoint) (g.E.Sees.seen c.flow-ended.new.endpoint) c.new.result.items (record {
  came = c.flow-ended.new.self.came;
  ended = c.flow-ended.result;
}) c.as_slice.ensures.value c.new.ensures.items c.flow-ended.ensures.keeps c.flow-ended.ensures.all

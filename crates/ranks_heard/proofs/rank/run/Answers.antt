use Rattle.ranks_heard.proofs.Ranking.{runs}
use Rattle.ranks_heard.proofs.rank.run.Goals as goal

pub returns : goal.returns
returns g c = runs c.args.job.lines.items c.as_slice.result.now c.flow-ended.new.self.sent (g.E.Sees.seen c.args.job.endpoint) (g.E.Sees.seen c.flow-ended.new.endpoint) c.new.result.items (record {
  came = c.flow-ended.new.self.came;
  others = c.flow-ended.new.self.others;
  ended = c.flow-ended.result;
}) c.as_slice.ensures.value c.new.ensures.items c.flow-ended.ensures

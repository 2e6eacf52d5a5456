use Rattle.std.proofs.Common.{length}
use Rattle.std.proofs.lemmas.Slice.Zip.{zip_end}
use Rattle.fab_replay.proofs.Multis.{all_counted}
use Rattle.fab_replay.proofs.completions.multis_made.Goals as goal

pub returns : goal.returns
returns c =
    let lines = c.args.lines.now in
    let results = c.args.results.now in
    let end = zip_end lines results c.loop-line.yielded c.into_iter-line-iterator.result c.loop-line.line-iterator c.next.new.self c.next.result (cc) (cc) c.loop-line.yielded_by c.in-None.is c.next.ensures.steps in
    all_counted c.args.ctx lines results (length c.loop-line.yielded) c.loop-line.made _ end c.loop-line.invariant.counted

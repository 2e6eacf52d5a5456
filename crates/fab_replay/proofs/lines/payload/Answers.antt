use Rattle.std.proofs.Common.{length}
use Rattle.std.proofs.lemmas.Slice.Zip.{zip_end}
use Rattle.fab_replay.proofs.Files.{no_file}
use Rattle.fab_replay.proofs.lines.payload.Goals as goal

pub returns : goal.returns
returns c =
    let payloads = c.args.payloads.now in
    let files = c.args.files.now in
    let end = zip_end payloads files c.loop-payload.yielded c.into_iter-payload-iterator.result c.loop-payload.payload-iterator c.next.new.self c.next.result (cc) (cc) c.loop-payload.yielded_by c.in-None.is c.next.ensures.steps in
    no_file payloads files c.args.id (length c.loop-payload.yielded) end c.loop-payload.invariant

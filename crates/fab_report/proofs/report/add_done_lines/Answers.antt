use Rattle.std.proofs.Common.{length, string_bytes}
use Rattle.std.proofs.lemmas.Slice.Zip.{zip_end}
use Rattle.fab_model.specs.Words.{text_of}
use Rattle.fab_model.specs.Report.{done_lines}
use Rattle.fab_report.proofs.Blanks.{done_all}
use Rattle.fab_report.proofs.report.add_done_lines.Goals as goal

pub returns : goal.returns
returns c =
    let lines = c.args.lines.now in
    let results = c.args.results.now in
    let end = zip_end lines results c.loop-line.yielded c.into_iter-line-iterator.result c.loop-line.line-iterator c.next.new.self c.next.result (cc) (cc) c.loop-line.yielded_by c.in-None.is c.next.ensures.steps in
    done_all lines results (length c.loop-line.yielded) (string_bytes c.args.out.now) (string_bytes c.loop-line.out) (text_of (done_lines lines results)) end c.loop-line.invariant

use Rattle.std.proofs.Common.{◌≡◌, sym, ap, ◌∙◌}
use Rattle.std.specs.Prelude.{Err}
use Rattle.std.proofs.lemmas.Result.{err_from_is_err_and}
use Rattle.fab_words.specs.Misreads.{◌&◌}
use Rattle.fab_grammar.specs.Lines.{trecv_of}
use Rattle.fab_words.specs.Words.{read_number, read_source, read_up_to}
use Rattle.fab_grammar.proofs.LineLemmas.{trecv_fault}
use Rattle.fab_grammar.proofs.lines.trecv.Goals as goal

pub returns-in_err-ctx : goal.returns-in_err-ctx
returns-in_err-ctx c =
    let w = c.in-Some in
    let fault = c.in_err-ctx.field-0.0 in
    let said : (read_number w.ctx.now & read_source w.source.now & read_number w.tag.now & read_number w.ignore.now & read_up_to c.args.most w.len.now) ≡ Err fault =
    rw (sym c.read_number.ensures, sym c.read_source.ensures, sym c.read_number-2.ensures, sym c.read_number-3.ensures, sym c.read_up_to.ensures, sym c.both.ensures, sym c.both-start.ensures, sym c.both-2.ensures) (sym c.in_err-ctx.ensures) in
    let p = err_from_is_err_and c.from_residual.result c.from_residual.ensures.1 in
    p.1 ∙ (ap Err p.2 ∙ (sym (trecv_fault c.args.most w.ctx.now w.source.now w.tag.now w.ignore.now w.len.now fault said) ∙ ap (trecv_of c.args.most) (sym c.in-Some.ensures)))

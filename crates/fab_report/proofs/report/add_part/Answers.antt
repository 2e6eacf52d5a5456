use Rattle.std.proofs.Common.{Some, None, codes, ◌++◌, string_bytes}
use Rattle.fab_model.specs.Report.{named, received_words, len_words}
use Rattle.fab_report.proofs.Blanks.{words_more, words_last}
use Rattle.fab_report.proofs.report.add_part.Goals as goal

pub returns : goal.returns
returns c =
    let source = received_words None ++ named (codes "from") (Some c.args.source) in
    let imm = source ++ named (codes "data") c.args.imm in
    let at = imm ++ named (codes "at") (Some c.args.at) in
    let first = words_more _ _ _ (received_words None) (named (codes "from") (Some c.args.source)) c.in_ok-add_text.ensures c.in_ok-add_named.ensures in
    let second = words_more _ _ _ source (named (codes "data") c.args.imm) first c.in_ok-add_named-2.ensures in
    let third = words_more _ _ _ imm (named (codes "at") (Some c.args.at)) second c.in_ok-add_named-3.ensures in
    words_last c.add_len.result (string_bytes c.args.out.now) (string_bytes c.add_named-3.new.out) (string_bytes c.add_len.new.out) at (len_words c.args.len c.args.bytes.now) third c.add_len.ensures

use Rattle.std.proofs.Common.{◌≡◌, ◌++◌, ap, ◌∙◌, length, string_bytes}
use Rattle.fab_model.specs.Report.{first_line, last_line}
use Rattle.fab_model.specs.Words.{line_of}
use Rattle.fab_replay.proofs.Parts.{whole_report, done_all}
use Rattle.fab_replay.proofs.writing.report.Goals as goal

pub returns : goal.returns
returns c =
    let first : string_bytes c.add_first.new.out ≡ line_of (first_line c.args.bound.now.script.version (length c.args.peers.now)) = c.in_ok-add_first.ensures ∙ ap (λ text. text ++ line_of (first_line c.args.bound.now.script.version (length c.args.peers.now))) c.new-out.ensures.bytes in
    whole_report c.args.bound.now c.args.peers.now _ _ _ first c.in_ok-add_peers.ensures (c.in_ok-add_last.ensures ∙ ap (λ done. string_bytes c.add_peers.new.out ++ line_of (last_line done)) (c.all_done.ensures ∙ done_all c.args.bound.now c.args.peers.now))

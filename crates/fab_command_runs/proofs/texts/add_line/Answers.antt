use Rattle.std.proofs.Common.{decimal, string_bytes}
use Rattle.fab_model.specs.Words.{hex_or_dash}
use Rattle.fab_workloads.specs.Text.{verb_word}
use Rattle.fab_command_runs.proofs.Telling.{line_told}
use Rattle.fab_command_runs.proofs.texts.add_line.Goals as goal

pub returns : goal.returns
unfolding lib.Utf8.encode
returns c =
    line_told (string_bytes c.args.out.now) (string_bytes c.add_verb.new.out) (string_bytes c.add_bytes.new.out) _ (decimal c.args.round.now.line) (verb_word c.args.round.now.coll) (hex_or_dash c.args.bytes.now)
    c.in_ok-add_verb.ensures c.in_ok-add_bytes.ensures c.in_ok-push.ensures.bytes

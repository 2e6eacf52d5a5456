use Rattle.std.proofs.Common.{string_bytes}
use Rattle.fab_command_runs.proofs.Telling.{rank_part}
use Rattle.fab_command_runs.proofs.texts.add_rank.Goals as goal

pub returns : goal.returns
returns c =
    rank_part c.add_rounds.result (string_bytes c.args.out.now) (string_bytes c.add_peer.new.out) (string_bytes c.add_rounds.new.out) c.args.script.now.rounds c.args.r c.in_ok-add_peer.ensures c.add_rounds.ensures

use Rattle.std.proofs.Common.{sym, ◌∙◌}
use Rattle.fab_report.proofs.Telling.{lists_are}
use Rattle.fab_report.proofs.reading.read_schedule.Goals as goal

pub returns-clause-traces : goal.returns-clause-traces
returns-clause-traces c = lists_are c.args.peers c.args.text.now c.in-Some.lists (sym c.in_ok-lists.ensures ∙ c.in-Some.is)

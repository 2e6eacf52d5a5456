use Rattle.std.proofs.lemmas.Result.{on_ok_weaker as on_ok}
use Rattle.fab_host.specs.Ending.{why_name}
use Rattle.fab_host.proofs.Writing.{refused_line}
use Rattle.fab_host.proofs.ending.tell_refused.Goals as goal

pub returns-clause-ok : goal.returns-clause-ok
returns-clause-ok g c =
    on_ok c.tell_named.result (refused_line c.args.line (why_name c.args.why) _ _ _ _ c.in_ok-write_all.ensures.ok c.in_ok-write_number.ensures.ok)
    (rw c.name_of.ensures at c.tell_named.ensures.ok)

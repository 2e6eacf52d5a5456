use Rattle.fabric_uses.specs.Uses.{waiting}
use Rattle.fabric_uses.proofs.Coming.{told_len}
use Rattle.fabric_uses.proofs.receiving.next_len.Goals as goal

pub returns-in-Ok : goal.returns-in-Ok
returns-in-Ok g c = told_len (waiting c.args.tag (g.E.Sees.seen c.args.endpoint.now)) _ c.len_of.result c.in-Ok.ensures.ok.1 c.len_of.ensures

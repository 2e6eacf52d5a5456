use Rattle.fabric_uses.specs.Uses.{waiting}
use Rattle.fabric_uses.proofs.Coming.{all_bytes}
use Rattle.fabric_uses.proofs.receiving.receive_next.Goals as goal

pub returns-in-Some : goal.returns-in-Some
returns-in-Some g c = λ calm. all_bytes (waiting c.args.tag (g.E.Sees.seen c.args.endpoint.now)) c.in-Some.len c.receive_long.result c.in-Some.ensures (c.receive_long.ensures calm)

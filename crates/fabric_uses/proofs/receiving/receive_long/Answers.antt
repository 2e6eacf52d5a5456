use Rattle.std.proofs.Common.{◌≡◌, ℕ, length, ap, arith}
use Rattle.std.proofs.lemmas.List.{length-replicate}
use Rattle.fabric_uses.specs.Uses.{waiting}
use Rattle.fabric_uses.proofs.Coming.{with_length}
use Rattle.fabric_uses.proofs.receiving.receive_long.Goals as goal

pub returns-in-Ok : goal.returns-in-Ok
returns-in-Ok g c =
    let long = length-replicate {A = ℕ} c.from.result 0 in
    let same = ap length c.in-Ok.ensures in
    let is = c.from.ensures in
    let size : length c.in-Ok.buf ≡ c.args.len = omega (arith, long, same, is) in
    λ calm. with_length c.in-Ok.buf c.args.len (waiting c.args.tag (g.E.Sees.seen c.args.endpoint.now)) c.receive_into.result size (c.receive_into.ensures calm)

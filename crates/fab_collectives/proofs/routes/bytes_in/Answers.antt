use Rattle.std.proofs.Common.{◌≡◌, ℕ, ◌*◌, ◌^◌, ◌<◌, sym, subst, arith}
use Rattle.fab_topology.specs.Rounds.{width}
use Rattle.fab_collectives.specs.Routes.{topology_of}
use Rattle.fab_collectives.proofs.Widths.{wide_fits}
use Rattle.fab_collectives.proofs.routes.bytes_in.Goals as goal

pub overflow_mul-result : goal.overflow_mul-result
overflow_mul-result c = let fits = wide_fits c.args.work c.args.len c.args.round c.in-Barrier.is (omega (arith, c.ranges.len.fits)) in
    let same : c.width.result ≡ width (topology_of c.args.work c.args.len) c.args.work.peers c.args.round = grind (arith, c.topology.ensures, c.width.ensures) in
    let here : c.width.result * c.args.len < 2 ^ 64 = subst (λ (w : ℕ). w * c.args.len < 2 ^ 64) (sym same) fits in omega arith

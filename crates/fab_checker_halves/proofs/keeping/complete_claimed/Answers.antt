use Rattle.std.proofs.Common.{ℕ, ◌<◌, length, arith, ap}
use Rattle.fab_base.specs.declared.operations.Arrival.{Arrival}
use Rattle.fab_model.specs.Arrivals.{completed}
use Rattle.fab_checker_halves.proofs.Parts.{changed_step}
use Rattle.fab_checker_halves.proofs.keeping.complete_claimed.Goals as goal

pub loop-place-preserved : goal.loop-place-preserved
loop-place-preserved c =
    let within : c.loop-place.place < length c.args.claimed.now.items = omega arith in
    changed_step (λ (x : ℕ × Arrival). (x.0, completed c.args.source c.args.bytes.now x.1)) c.args.claimed.now.items c.loop-place.claimed.items c.loop-place.place c.index_mut.result.now
    (c.index_mut.result.now.0, c.complete.new.arrival) c.loop-place.invariant within c.index_mut.ensures.value (ap (λ (a : Arrival). (c.index_mut.result.now.0, a)) c.in_ok-complete.ensures)

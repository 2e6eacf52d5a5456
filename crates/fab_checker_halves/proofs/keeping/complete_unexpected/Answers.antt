use Rattle.std.proofs.Common.{◌<◌, length, arith}
use Rattle.fab_model.specs.Arrivals.{completed}
use Rattle.fab_checker_halves.proofs.Parts.{changed_step}
use Rattle.fab_checker_halves.proofs.keeping.complete_unexpected.Goals as goal

pub loop-place-preserved : goal.loop-place-preserved
loop-place-preserved c =
    let within : c.loop-place.place < length c.args.unexpected.now.items = omega arith in
    changed_step (completed c.args.source c.args.bytes.now) c.args.unexpected.now.items c.loop-place.unexpected.items c.loop-place.place c.index_mut.result.now c.complete.new.arrival
    c.loop-place.invariant within c.index_mut.ensures.value c.in_ok-complete.ensures

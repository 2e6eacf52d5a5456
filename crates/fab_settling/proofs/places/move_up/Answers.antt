use Rattle.std.proofs.Common.{◌<◌, ◌∙◌, arith, length, length-set, refl}
use Rattle.fab_settling.specs.Members.{one_read}
use Rattle.fab_settling.proofs.Listing.{turned_by}
use Rattle.fab_settling.proofs.places.move_up.Goals as goal

pub loop-k-preserved : goal.loop-k-preserved
loop-k-preserved c =
    let i = c.loop-k.invariant in
    let lt : c.loop-k.k < length c.args.places.now.items = omega arith in
    (turned_by one_read c.args.places.now.items c.loop-k.places.items c.loop-k.k c.index.result.now (record { ctx = c.index.result.now.ctx; place = c.moved_up.result }) i.0 lt c.index.ensures (rw c.moved_up.ensures refl), length-set c.loop-k.places.items c.loop-k.k _ ∙ i.1, i.2)

use Rattle.std.proofs.Common.{[], sym, ap}
use Rattle.std.specs.Prelude.{is_some, unwrap_or}
use Rattle.fab_kept.specs.Places.{queue_of}
use Rattle.fab_kept.proofs.Indexing.{popped, written}
use Rattle.fab_kept.proofs.index.pop_from_map.Goals as goal

pub returns : goal.returns
returns c =
    let w = c.pop.new.self in
    let later = c.get_mut.follows.lender w in
    popped (queue_of c.args.map.now) (queue_of later) c.args.ctx c.pop.result c.in-Some.queue.now w (ap (λ o. unwrap_or o []) (sym c.in-Some.ensures.value))
    (written c.args.map.now later c.args.ctx w ((c.get_mut.follows.holds w).3 (ap is_some (sym c.in-Some.ensures.value))).0) c.pop.ensures.first c.pop.ensures.none

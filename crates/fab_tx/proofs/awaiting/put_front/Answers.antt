use Rattle.std.proofs.Common.{◌<◌, length, refl, arith}
use Rattle.fab_tx.proofs.Indexed.{front_moves, unchanged}
use Rattle.fab_tx.proofs.awaiting.put_front.Goals as goal

pub returns-then-not-put-clause-still : goal.returns-then-not-put-clause-still
returns-then-not-put-clause-still c = unchanged c.args.index.now c.put.new.index c.args.queue.now.items (c.put.ensures.same c.if-not-put.true)

pub returns-clause-still : goal.returns-clause-still
returns-clause-still c =
    let queue = c.args.queue.now in
    let variant = c.in-Some.ensures.variant.0 refl in
    let some : 0 < length queue.items = omega (arith, variant, queue.ok.0) in
    front_moves c.args.index.now c.put.new.index queue.items c.pop_front.new.self.items c.in-Some.entry.now some c.in-Some.ensures.lookup c.pop_front.ensures.rest (c.put.ensures.fresh c.if-not-put.false) (c.put.ensures.put c.if-not-put.false)

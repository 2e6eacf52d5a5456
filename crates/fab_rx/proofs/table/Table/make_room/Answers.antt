use Rattle.std.proofs.Common.{arith}
use Rattle.fab_rx.proofs.Tables.{few_ids, more_room, same_values}
use Rattle.fab_rx.proofs.table.Table.make_room.Goals as goal

pub returns-in_err-reserve-clause-more : goal.returns-in_err-reserve-clause-more
returns-in_err-reserve-clause-more g c = rw (← c.self.view_is) (more_room c.self.inside.slab c.reserve.new.self c.self.invariant c.reserve.ensures.capacity c.reserve.ensures.rest_kept)

pub returns-in_err-reserve-clause-same : goal.returns-in_err-reserve-clause-same
returns-in_err-reserve-clause-same g c = λ id. rw (← c.self.view_is) (same_values c.self.inside.slab c.reserve.new.self c.self.invariant c.reserve.ensures.capacity c.reserve.ensures.rest_kept id)

pub returns-then-capacity-gt-MOST_IDS-clause-more : goal.returns-then-capacity-gt-MOST_IDS-clause-more
returns-then-capacity-gt-MOST_IDS-clause-more g c = rw (← c.self.view_is) (more_room c.self.inside.slab c.reserve.new.self c.self.invariant c.reserve.ensures.capacity c.reserve.ensures.rest_kept)

pub returns-then-capacity-gt-MOST_IDS-clause-same : goal.returns-then-capacity-gt-MOST_IDS-clause-same
returns-then-capacity-gt-MOST_IDS-clause-same g c = λ id. rw (← c.self.view_is) (same_values c.self.inside.slab c.reserve.new.self c.self.invariant c.reserve.ensures.capacity c.reserve.ensures.rest_kept id)

pub returns-clause-few : goal.returns-clause-few
returns-clause-few g c = few_ids c.reserve.new.self (omega (arith, c.if-capacity-gt-MOST_IDS.false, c.capacity.ensures.value))

pub returns-clause-more : goal.returns-clause-more
returns-clause-more g c = rw (← c.self.view_is) (more_room c.self.inside.slab c.reserve.new.self c.self.invariant c.reserve.ensures.capacity c.reserve.ensures.rest_kept)

pub returns-clause-same : goal.returns-clause-same
returns-clause-same g c = λ id. rw (← c.self.view_is) (same_values c.self.inside.slab c.reserve.new.self c.self.invariant c.reserve.ensures.capacity c.reserve.ensures.rest_kept id)

use Rattle.fab_rx.specs.Arriving.{begun_of}
use Rattle.std.proofs.Common.{◌≡◌, length}
use Rattle.fab_rx.proofs.Growing.{item_there}
use Rattle.fab_core.proofs.Handed.{whole_left, whole_next, whole_state}
use Rattle.fab_core.proofs.parts.Core.take_whole.Goals as goal

pub returns-clause-state : goal.returns-clause-state
returns-clause-state g c =
    let there = item_there (λ item. length item.bytes ≡ item.head.total) (begun_of c.args.self.now.rx c.args.source) c.requires.whole in
    whole_state c.args.self.now (rw (← c.self.view_is) c.self.invariant.2) (rw (← c.self.view_is) c.known.ensures) (rw (← c.self.view_is) c.known-2.ensures) c.args.source c.requires.source there.0 there.1 c.end_item.new.self c.end_item.ensures

pub returns-clause-next : goal.returns-clause-next
returns-clause-next g c =
    let there = item_there (λ item. length item.bytes ≡ item.head.total) (begun_of c.args.self.now.rx c.args.source) c.requires.whole in
    whole_next c.args.self.now (rw (← c.self.view_is) c.self.invariant.2) (rw (← c.self.view_is) c.known.ensures) (rw (← c.self.view_is) c.known-2.ensures) c.args.source c.requires.source there.0 there.1 c.end_item.new.self c.end_item.ensures

pub returns-clause-begun : goal.returns-clause-begun
returns-clause-begun g c =
    let there = item_there (λ item. length item.bytes ≡ item.head.total) (begun_of c.args.self.now.rx c.args.source) c.requires.whole in
    (whole_left c.args.self.now (rw (← c.self.view_is) c.self.invariant.2) (rw (← c.self.view_is) c.known.ensures) (rw (← c.self.view_is) c.known-2.ensures) c.args.source c.requires.source there.0 there.1 c.end_item.new.self c.end_item.ensures).begun

pub returns-clause-places : goal.returns-clause-places
returns-clause-places g c =
    let there = item_there (λ item. length item.bytes ≡ item.head.total) (begun_of c.args.self.now.rx c.args.source) c.requires.whole in
    (whole_left c.args.self.now (rw (← c.self.view_is) c.self.invariant.2) (rw (← c.self.view_is) c.known.ensures) (rw (← c.self.view_is) c.known-2.ensures) c.args.source c.requires.source there.0 there.1 c.end_item.new.self c.end_item.ensures).places

pub returns-clause-multis : goal.returns-clause-multis
returns-clause-multis g c =
    let there = item_there (λ item. length item.bytes ≡ item.head.total) (begun_of c.args.self.now.rx c.args.source) c.requires.whole in
    (whole_left c.args.self.now (rw (← c.self.view_is) c.self.invariant.2) (rw (← c.self.view_is) c.known.ensures) (rw (← c.self.view_is) c.known-2.ensures) c.args.source c.requires.source there.0 there.1 c.end_item.new.self c.end_item.ensures).multis

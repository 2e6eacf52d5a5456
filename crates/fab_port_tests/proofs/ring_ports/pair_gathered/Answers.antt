use Rattle.std.proofs.Common.{rules, ◌≡◌, ◌∙◌, [], ◌∷◌, ap}
use Rattle.fab_table.specs.declared.lane_table.LaneTable.{LaneTable}
use Rattle.fab_ring.specs.Ports.{table_of}
use Rattle.fab_port_tests.proofs.RingPorts.{ring_all, ring_count, ring_goes}
use Rattle.fab_port_tests.proofs.ring_ports.pair_gathered.Goals as goal

pub gather-requires : goal.gather-requires
gather-requires c = let is : c.push-2.new.self.items ≡ c.args.zero ∷ c.args.one ∷ [] = search rules in (table_of c.args.zero, ring_all c.args.zero c.args.one c.push-2.new.self.items is c.requires.zero.0 c.requires.zero.1 c.requires.one.0 c.requires.one.1)

pub both-requires : goal.both-requires
both-requires c = let is : c.push-2.new.self.items ≡ c.args.zero ∷ c.args.one ∷ [] = search rules in ring_count c.args.zero c.args.one c.push-2.new.self.items c.in-Ok.plain.items is c.in-Ok.ensures.gathered

pub returns-clause-goes_on : goal.returns-clause-goes_on
returns-clause-goes_on c =
    let is : c.push-2.new.self.items ≡ c.args.zero ∷ c.args.one ∷ [] = search rules in
    ring_goes c.args.zero c.args.one c.push-2.new.self.items c.in-Ok.plain.items c.in_ok-pair.pair.0 c.in_ok-pair.pair.1 is (c.in_ok-pair.ensures {u = tt}) c.in-Ok.ensures.gathered

pub returns-clause-lanes : goal.returns-clause-lanes
returns-clause-lanes c =
    let is : c.push-2.new.self.items ≡ c.args.zero ∷ c.args.one ∷ [] = search rules in
    let goes = ring_goes c.args.zero c.args.one c.push-2.new.self.items c.in-Ok.plain.items c.in_ok-pair.pair.0 c.in_ok-pair.pair.1 is (c.in_ok-pair.ensures {u = tt}) c.in-Ok.ensures.gathered in
    (goes.0.peers ∙ c.requires.zero.1, goes.1.peers ∙ ap (λ (t : LaneTable). t.peers) c.requires.one.1 ∙ c.requires.zero.1)

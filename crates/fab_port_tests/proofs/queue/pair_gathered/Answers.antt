use Rattle.std.proofs.Common.{rules, ◌≡◌, ◌∙◌, [], ◌∷◌}
use Rattle.fab_port_tests.proofs.QueuePorts.{queue_all, queue_count, queue_goes}
use Rattle.fab_port_tests.proofs.queue.pair_gathered.Goals as goal

pub gather_again-requires : goal.gather_again-requires
gather_again-requires g c = let is : c.push-2.new.self.items ≡ c.args.zero ∷ c.args.one ∷ [] = search rules in queue_all c.args.zero c.args.one c.push-2.new.self.items is c.requires.zero.0 c.requires.zero.1 c.requires.one.0 c.requires.one.1 c.requires.lanes

pub both-requires : goal.both-requires
both-requires g c = let is : c.push-2.new.self.items ≡ c.args.zero ∷ c.args.one ∷ [] = search rules in queue_count c.args.zero c.args.one c.push-2.new.self.items c.in_ok-plain.plain.items is c.in_ok-plain.ensures

pub returns : goal.returns
returns g c =
    let is : c.push-2.new.self.items ≡ c.args.zero ∷ c.args.one ∷ [] = search rules in
    let goes = queue_goes c.args.zero c.args.one c.push-2.new.self.items c.in_ok-plain.plain.items c.in_ok-pair.pair.0 c.in_ok-pair.pair.1 is (c.in_ok-pair.ensures {u = tt}) (c.in_ok-plain.ensures {u = tt}) in
    (goes.0.peers ∙ c.requires.zero.1, goes.1.peers ∙ c.requires.one.1)

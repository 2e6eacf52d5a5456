use Rattle.std.proofs.Common.{map, sym, ◌∙◌, arith, rules, ap, ◌≡◌, length}
use Rattle.fab_model.specs.Peers.{all_below, facts, has_all}
use Rattle.fab_replay.specs.Seen.{actors_of}
use Rattle.fab_replay.proofs.Tests.{below_more, below_false}
use Rattle.fab_replay.proofs.ready.all_arrived.Goals as goal

pub loop-sender-preserved : goal.loop-sender-preserved
loop-sender-preserved c = λ bound.
    below_more (λ sender. all_below (has_all (map facts (actors_of bound c.args.peers.now)) sender) (length c.args.peers.now)) c.loop-sender.sender (c.loop-sender.invariant bound) (sym (c.all_from.ensures bound) ∙ search rules)

pub returns-then-not-all_from : goal.returns-then-not-all_from
returns-then-not-all_from c = λ bound.
    sym (below_false (λ sender. all_below (has_all (map facts (actors_of bound c.args.peers.now)) sender) (length c.args.peers.now)) (length c.args.peers.now) c.loop-sender.sender (omega arith) (sym (c.all_from.ensures bound) ∙ search rules))

pub returns : goal.returns
returns c = λ bound.
    let end : length c.args.peers.now ≡ c.loop-sender.sender = omega arith in
    sym (ap (all_below (λ sender. all_below (has_all (map facts (actors_of bound c.args.peers.now)) sender) (length c.args.peers.now))) end ∙ c.loop-sender.invariant bound)

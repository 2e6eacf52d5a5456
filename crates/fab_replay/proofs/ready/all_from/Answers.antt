use Rattle.std.proofs.Common.{map, sym, ◌∙◌, arith, rules, ap, ◌≡◌, length}
use Rattle.fab_model.specs.Peers.{all_below, facts, has_all}
use Rattle.fab_replay.specs.Seen.{actors_of}
use Rattle.fab_replay.proofs.Tests.{below_more, below_false}
use Rattle.fab_replay.proofs.ready.all_from.Goals as goal

pub loop-receiver-preserved : goal.loop-receiver-preserved
loop-receiver-preserved c = λ bound.
    below_more (has_all (map facts (actors_of bound c.args.peers.now)) c.args.sender) c.loop-receiver.receiver (c.loop-receiver.invariant bound) (sym (c.has_all.ensures bound) ∙ search rules)

pub returns-then-not-has_all : goal.returns-then-not-has_all
returns-then-not-has_all c = λ bound.
    sym (below_false (has_all (map facts (actors_of bound c.args.peers.now)) c.args.sender) (length c.args.peers.now) c.loop-receiver.receiver (omega arith) (sym (c.has_all.ensures bound) ∙ search rules))

pub returns : goal.returns
returns c = λ bound.
    let end : length c.args.peers.now ≡ c.loop-receiver.receiver = omega arith in
    sym (ap (all_below (has_all (map facts (actors_of bound c.args.peers.now)) c.args.sender)) end ∙ c.loop-receiver.invariant bound)

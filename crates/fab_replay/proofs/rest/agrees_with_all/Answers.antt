use Rattle.std.proofs.Common.{sym, ap, ◌∙◌, rules, get_or}
use Rattle.fab_replay.specs.Seen.{actor_of}
use Rattle.fab_replay.proofs.Resting.{agree_more, agree_not}
use Rattle.fab_replay.proofs.rest.agrees_with_all.Goals as goal

pub returns-then-not-agrees : goal.returns-then-not-agrees
returns-then-not-agrees c = λ bound.
    agree_not bound c.args.peers.now c.loop-of.of (get_or c.args.peers.now c.loop-of.of c.index-peers-of.result) c.loop-of-test.true (ap (λ d. get_or c.args.peers.now c.loop-of.of d) c.index-peers-of.is) c.args.number (actor_of bound c.args.receiver.now) _ (sym (c.agrees.ensures bound) ∙ search rules) (c.loop-of.invariant bound)

pub loop-of-preserved : goal.loop-of-preserved
loop-of-preserved c = λ bound.
    agree_more bound c.args.peers.now c.loop-of.of (get_or c.args.peers.now c.loop-of.of c.index-peers-of.result) c.loop-of-test.true (ap (λ d. get_or c.args.peers.now c.loop-of.of d) c.index-peers-of.is) c.args.number (actor_of bound c.args.receiver.now) _ (sym (c.agrees.ensures bound) ∙ search rules) (c.loop-of.invariant bound)

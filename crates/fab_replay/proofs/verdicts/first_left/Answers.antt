use Rattle.std.proofs.Common.{length, refl, sym, ap, ◌∙◌, get_or}
use Rattle.fab_replay.proofs.Judging.{has_left_read}
use Rattle.fab_replay.proofs.verdicts.first_left.Goals as goal

pub returns-then-peers-number-clause-left : goal.returns-then-peers-number-clause-left
returns-then-peers-number-clause-left c =
    sym (has_left_read c.args.peers.now c.loop-number.number (get_or c.args.peers.now c.loop-number.number c.index-peers-number.result).taken (length c.as_slice.result.now) (get_or c.args.peers.now c.loop-number.number c.index-peers-number.result) (get_or c.args.peers.now c.loop-number.number c.index-peers-number-in-loop-number.result) c.loop-number-test.true
    (ap (λ d. get_or c.args.peers.now c.loop-number.number d) c.index-peers-number.is) (ap (λ d. get_or c.args.peers.now c.loop-number.number d) c.index-peers-number-in-loop-number.is) refl (ap length c.as_slice.ensures) c.if-peers-number.true)
    ∙ c.loop-number.invariant

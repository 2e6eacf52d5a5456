use Rattle.std.proofs.Common.{◌≡◌, Some, ap, sym, ◌∙◌, rules, length}
use Rattle.fab_model.specs.Orders.{turn}
use Rattle.fab_model.specs.Peers.{fabric}
use Rattle.fab_model.specs.Views.{rule}
use Rattle.fab_replay.specs.Seen.{moment_of}
use Rattle.fab_replay.proofs.Replaying.{took_true, lowest_is}
use Rattle.fab_replay.proofs.turns.turn.Goals as goal

pub returns-then-branch-clause-took : goal.returns-then-branch-clause-took
returns-then-branch-clause-took c =
    let bound = c.args.bound.now in
    let m = moment_of bound c.args.peers.now in
    let n = c.loop-number.number in
    let moved = took_true c.in_ok-step.field-0 _ _ _ (search rules) c.in_ok-step.ensures.took in
    let here : turn (rule fabric) m n ≡ Some (moment_of bound c.step.new.peers) = ap (λ m. turn (rule fabric) m n) (sym c.loop-number.invariant.same) ∙ moved in
    (lowest_is (turn (rule fabric) m) (length c.args.peers.now) n (moment_of bound c.step.new.peers) (search rules) c.loop-number.invariant.none here, here)

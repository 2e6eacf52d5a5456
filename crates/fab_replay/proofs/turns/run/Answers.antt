use Rattle.std.proofs.Common.{◌≡◌, ℕ, List, [], ◌∷◌, ◌++◌, Some, None, sym, ap, subst, ◌∙◌, length, rules}
use Rattle.fab_model.specs.Laws.{Run}
use Rattle.fab_model.specs.Orders.{turn}
use Rattle.fab_model.specs.Peers.{fabric}
use Rattle.fab_model.specs.Views.{rule}
use Rattle.fab_replay.specs.Seen.{moment_of}
use Rattle.fab_replay.proofs.Replaying.{taker_is, no_taker, fewer, goes_on, one_more_turn, peers_left}
use Rattle.fab_replay.proofs.turns.run.Goals as goal

pub turns-smaller : goal.turns-smaller
turns-smaller c =
    let bound = c.args.bound.now in
    let goes = taker_is _ _ _ c.in-Some.number c.in-Some.is c.in_ok-number.ensures.took in
    fewer (rule fabric) (moment_of bound c.turns.peers) (moment_of bound c.turn.new.peers) (length c.turns.peers) (peers_left bound c.turns.peers) goes.0

pub turns-preserved : goal.turns-preserved
turns-preserved c =
    let bound = c.args.bound.now in
    let m = moment_of bound c.turns.peers in
    let x = moment_of bound c.turn.new.peers in
    let goes = taker_is _ _ _ c.in-Some.number c.in-Some.is c.in_ok-number.ensures.took in
    let taken : turn (rule fabric) m c.in_ok-narrowed.field-0 ≡ Some x = ap (turn (rule fabric) m) c.in_ok-narrowed.ensures ∙ goes.1 in
    let pushed : c.push.new.self.items ≡ c.turns.order.items ++ c.in_ok-narrowed.field-0 ∷ [] = search rules in
    let more = one_more_turn (turn (rule fabric)) c.turns.order.items c.in_ok-narrowed.field-0 (moment_of bound c.args.peers.now) m x c.turns.invariant.order taken in
    record {
      ends = sym (goes_on (rule fabric) m x (length c.turns.peers) (peers_left bound c.turns.peers) goes.0) ∙ c.turns.invariant.ends;
      steps = c.in_ok-number.ensures.steps ∙ c.turns.invariant.steps;
      order = subst (λ (order : List ℕ). Run (turn (rule fabric)) (moment_of bound c.args.peers.now) order x) (sym pushed) more;
    }

pub returns-clause-order : goal.returns-clause-order
returns-clause-order c =
    let bound = c.args.bound.now in
    let none : c.in_ok-number.field-0 ≡ None = search rules in
    let same = no_taker _ _ c.in_ok-number.field-0 none c.in_ok-number.ensures.took in
    subst (Run (turn (rule fabric)) (moment_of bound c.args.peers.now) c.turns.order.items) (sym same.1) c.turns.invariant.order

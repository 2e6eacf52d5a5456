use Rattle.std.proofs.Common.{◌≡◌, Some, sym, ap, ◌∙◌, rules, get_or, slice_get, ◌<◌, length}
use Rattle.fab_replay.specs.Seen.{actor_of, actors_of}
use Rattle.fab_replay.proofs.Replaying.{actor_here, took_true, took_false}
use Rattle.fab_replay.proofs.Resting.{none_more, none_not, same_after}
use Rattle.fab_replay.proofs.rest.none_can.Goals as goal

pub returns-then-branch : goal.returns-then-branch
returns-then-branch c =
    let bound = c.args.bound.now in
    let all = actors_of bound c.args.peers.now in
    let peers = c.loop-number.peers in
    let k = c.loop-number.number in
    let within : k < length peers = search rules in
    let x = get_or peers k c.index-peers-number.result in
    let a = actor_of bound x.actor in
    let b = actor_of bound c.do_next.new.self in
    let there : slice_get all k ≡ Some a = ap (λ s. slice_get s k) (sym c.loop-number.invariant.same) ∙ actor_here bound peers k x within (ap (λ d. get_or peers k d) c.index-peers-number.is) in
    let some = took_true c.in_ok-do_next.field-0 a b _ (search rules) c.in_ok-do_next.ensures in
    none_not all k a b _ there some c.loop-number.invariant.rest

pub loop-number-preserved : goal.loop-number-preserved
loop-number-preserved c =
    let bound = c.args.bound.now in
    let all = actors_of bound c.args.peers.now in
    let peers = c.loop-number.peers in
    let k = c.loop-number.number in
    let within : k < length peers = search rules in
    let x = get_or peers k c.index-peers-number.result in
    let is = ap (λ d. get_or peers k d) c.index-peers-number.is in
    let a = actor_of bound x.actor in
    let b = actor_of bound c.do_next.new.self in
    let there : slice_get all k ≡ Some a = ap (λ s. slice_get s k) (sym c.loop-number.invariant.same) ∙ actor_here bound peers k x within is in
    let none = took_false c.in_ok-do_next.field-0 a b _ (search rules) c.in_ok-do_next.ensures in
    record {
      same = same_after bound peers k x _ is none.1 ∙ c.loop-number.invariant.same;
      rest = none_more all k a _ there none.0 c.loop-number.invariant.rest;
    }

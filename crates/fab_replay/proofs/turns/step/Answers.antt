use Rattle.std.proofs.Common.{◌≡◌, refl, sym, ap, ◌∙◌, rules, None, slice_get, get_or}
use Rattle.fab_replay.specs.Seen.{actor_of, led}
use Rattle.fab_replay.proofs.Replaying.{here, actor_here, no_step, stepped, same_steps, same_step}
use Rattle.fab_replay.proofs.turns.step.Goals as goal

pub returns-in_default-clause-took : goal.returns-in_default-clause-took
returns-in_default-clause-took c =
    let peer = c.index-peers-number.result in
    let none : slice_get peer.steps peer.taken ≡ None = search rules in
    (no_step c.args.bound.now c.args.peers.now c.args.number peer c.requires.within c.index-peers-number.is none, refl)

pub returns-clause-took : goal.returns-clause-took
returns-clause-took c =
    let bound = c.args.bound.now in
    let peers = c.args.peers.now in
    let p = c.args.number in
    let peer = get_or peers p c.index-peers-number-2.result in
    let is = ap (λ d. get_or peers p d) c.index-peers-number-2.is in
    let before = get_or peers p c.index-peers-number.result in
    let first = here bound peers p before c.requires.within (ap (λ d. get_or peers p d) c.index-peers-number.is) in
    let second = here bound peers p peer c.requires.within is in
    let next = same_step peers p before peer c.in-Some.step first second (sym c.next_step.ensures ∙ c.in-Some.is) in
    let ready = c.in_ok-ready.ensures (actor_of bound peer.actor) (actor_here bound peers p peer c.requires.within is) in
    stepped bound peers p peer c.requires.within is c.in-Some.step next c.take.result c.take.new.self (led (actor_of bound peer.actor) c.in_ok-ready.ready) ready c.take.ensures.took c.take.ensures.taken c.take.ensures.steps

pub returns-clause-steps : goal.returns-clause-steps
returns-clause-steps c =
    let peers = c.args.peers.now in
    let p = c.args.number in
    same_steps c.args.bound.now peers p (get_or peers p c.index-peers-number-2.result) c.requires.within (ap (λ d. get_or peers p d) c.index-peers-number-2.is) c.take.new.self c.take.ensures.steps

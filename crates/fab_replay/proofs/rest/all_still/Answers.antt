use Rattle.std.proofs.Common.{sym, ◌∙◌, rules}
use Rattle.fab_replay.specs.Seen.{actor_of, actors_of}
use Rattle.fab_replay.proofs.Replaying.{actor_here}
use Rattle.fab_replay.proofs.Resting.{still_more, still_not, peer_at}
use Rattle.fab_replay.proofs.rest.all_still.Goals as goal

pub returns-then-not-is_still : goal.returns-then-not-is_still
returns-then-not-is_still c = λ bound.
    let peers = c.args.peers.now in
    let k = c.loop-number.number in
    let within = c.loop-number-test.true in
    let x = peer_at peers k within in
    let is = c.is_still.ensures bound (actor_of bound x.0.actor) (actor_here bound peers k x.0 within x.1) in
    still_not bound peers k x.0 within x.1 (actors_of bound peers) _ (sym is ∙ search rules) (c.loop-number.invariant bound)

pub loop-number-preserved : goal.loop-number-preserved
loop-number-preserved c = λ bound.
    let peers = c.args.peers.now in
    let k = c.loop-number.number in
    let within = c.loop-number-test.true in
    let x = peer_at peers k within in
    let is = c.is_still.ensures bound (actor_of bound x.0.actor) (actor_here bound peers k x.0 within x.1) in
    still_more bound peers k x.0 within x.1 (actors_of bound peers) _ (sym is ∙ search rules) (c.loop-number.invariant bound)

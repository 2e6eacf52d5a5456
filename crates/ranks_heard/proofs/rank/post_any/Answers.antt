use Rattle.ranks_heard.proofs.Ranking.{nothing, posts_any, posts_not}
use Rattle.ranks_heard.proofs.rank.post_any.Goals as goal

pub returns-in_err-room : goal.returns-in_err-room
returns-in_err-room g c = nothing (g.E.Sees.seen c.args.endpoint.now)

pub returns-in-Ok : goal.returns-in-Ok
returns-in-Ok g c = posts_any c.in_ok-room.room (g.E.Sees.seen c.args.endpoint.now) (g.E.Sees.seen c.trecv.new.self) c.in_ok-room.ensures c.in-Ok.ensures.ok

pub returns-in-Err : goal.returns-in-Err
returns-in-Err g c = posts_not _ _ _ _ c.in-Err.ensures.err.1

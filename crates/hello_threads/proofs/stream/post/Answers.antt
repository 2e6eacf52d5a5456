use Rattle.hello_threads.proofs.Streaming.{nothing, posts, posts_not}
use Rattle.hello_threads.proofs.stream.post.Goals as goal

pub returns-in_err-room : goal.returns-in_err-room
returns-in_err-room g c = nothing c.args.other (g.E.Sees.seen c.args.endpoint.now)

pub returns-in-Ok : goal.returns-in-Ok
returns-in-Ok g c = posts c.args.other c.in_ok-room.room (g.E.Sees.seen c.args.endpoint.now) (g.E.Sees.seen c.recv.new.self) c.in_ok-room.ensures c.in-Ok.ensures.ok

pub returns-in-Ok-again : goal.returns-in-Ok-again
returns-in-Ok-again g c = posts_not c.args.other _ _ _ _ c.in-Err.ensures.err.1

pub returns-in-Err-again : goal.returns-in-Err-again
returns-in-Err-again g c = posts_not c.args.other _ _ _ _ c.in-Err.ensures.err.1

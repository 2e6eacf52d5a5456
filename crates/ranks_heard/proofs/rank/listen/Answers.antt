use Rattle.ranks_heard.proofs.Ranking.{nothing, posts_both}
use Rattle.ranks_heard.proofs.rank.listen.Goals as goal

pub returns-then-not-listens : goal.returns-then-not-listens
returns-then-not-listens g c = nothing (g.E.Sees.seen c.args.endpoint.now)

pub returns : goal.returns
returns g c = posts_both _ (g.E.Sees.seen c.post_one.new.endpoint) _ c.post_one.ensures c.post_any.ensures

use Rattle.ranks_heard.proofs.Ranking.{hears}
use Rattle.ranks_heard.proofs.rank.Rank.turn.Goals as goal

pub returns : goal.returns
returns g c = λ opening at.
    hears c.args.lines.now (g.E.Sees.seen c.tell.new.endpoint) (g.E.Sees.seen c.hear.new.endpoint) c.tell.new.self.sent c.tell.new.self.came.items c.hear.new.came.items c.hear.ensures opening (c.tell.ensures opening at)

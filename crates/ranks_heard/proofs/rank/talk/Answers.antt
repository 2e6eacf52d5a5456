use Rattle.ranks_heard.proofs.Ranking.{four_if}
use Rattle.ranks_heard.proofs.rank.talk.Goals as goal

pub returns : goal.returns
returns g c =
    let all = c.in_ok-all.all in
    let ran = c.two_pairs-low.result in
    four_if g.E.Sees.seen c.args.one.items c.args.endpoints.items all.0.0 all.0.1 all.1.0 all.1.1 ran.0.0.endpoint ran.0.1.endpoint ran.1.0.endpoint ran.1.1.endpoint _ _ _ ran.0.0.told ran.0.1.told ran.1.0.told ran.1.1.told c.together.result
    c.in_ok-all.ensures.are c.in_ok-all.ensures.directed c.together.ensures.endpoints c.together.ensures.told c.two_pairs-low.ensures.zero c.two_pairs-low.ensures.one c.two_pairs-low.ensures.two c.two_pairs-low.ensures.three

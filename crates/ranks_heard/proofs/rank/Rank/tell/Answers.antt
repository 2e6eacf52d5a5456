use Rattle.std.proofs.Common.{[], ◌∷◌, subst, take}
use Rattle.ranks_heard.specs.declared.rank.Line.{Line}
use Rattle.ranks_heard.specs.Ranks.{Talks}
use Rattle.ranks_heard.proofs.Ranking.{quiet, tells}
use Rattle.ranks_heard.proofs.rank.Rank.tell.Goals as goal

pub returns-in_err-said : goal.returns-in_err-said
returns-in_err-said g c = quiet c.args.lines.now _ _ c.args.self.now.sent c.args.self.now.came.items c.in_err-said.ensures.err

pub returns : goal.returns
returns g c =
    let seen = g.E.Sees.seen in
    let said = c.in_ok-said.ensures.sent in
    tells c.args.lines.now (seen c.args.endpoint.now) (seen c.say.new.endpoint) c.args.self.now.sent c.args.self.now.came.items c.in_ok-said.said c.index-lines-self.result c.if-self-lines.false (
      said.0,
      subst (λ (line : Line). Talks (g.E.Sees.seen c.args.endpoint.now) (g.E.Sees.seen c.say.new.endpoint) (take c.in_ok-said.said (line ∷ [])) []) c.index-lines-self.is said.1,
    )

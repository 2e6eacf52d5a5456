use Rattle.ranks_heard.specs.Ranks.{RankKeeps}
use Rattle.ranks_heard.proofs.rank.Rank.flow.Given as goal

abbrev pub invariant-turns : goal.invariant-turns
invariant-turns g l = RankKeeps l.lines (g.E.Sees.seen l.fn.endpoint) l.fn.self (g.E.Sees.seen l.endpoint) l.self

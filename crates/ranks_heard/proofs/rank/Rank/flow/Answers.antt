use Rattle.ranks_heard.proofs.Ranking.{quiet}
use Rattle.ranks_heard.proofs.rank.Rank.flow.Goals as goal

pub returns-in_err-listen : goal.returns-in_err-listen
returns-in_err-listen g c = quiet c.args.lines.now _ _ c.args.self.now.sent c.args.self.now.came.items c.listen.ensures

pub turns-init : goal.turns-init
turns-init g c = quiet c.args.lines.now _ _ c.args.self.now.sent c.args.self.now.came.items c.listen.ensures

pub turns-preserved : goal.turns-preserved
turns-preserved g c = λ opening at. c.turn.ensures opening (c.turns.invariant opening at)

pub returns-then-is_flushed : goal.returns-then-is_flushed
returns-then-is_flushed g c = c.turns.invariant

pub returns-in_err-turn : goal.returns-in_err-turn
returns-in_err-turn g c = λ opening at. c.turn.ensures opening (c.turns.invariant opening at)

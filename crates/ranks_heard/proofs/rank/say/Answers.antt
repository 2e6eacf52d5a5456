use Rattle.std.proofs.Common.{arith}
use Rattle.ranks_heard.proofs.Ranking.{says, says_not}
use Rattle.ranks_heard.proofs.rank.say.Goals as goal

pub returns-in-Ok-clause-sent : goal.returns-in-Ok-clause-sent
returns-in-Ok-clause-sent g c = (omega arith, says _ c.args.line.now c.as_slice.result.now _ _ c.as_slice.ensures c.in-Ok.ensures.ok)

pub returns-in-Err-Again-clause-sent : goal.returns-in-Err-Again-clause-sent
returns-in-Err-Again-clause-sent g c = (omega arith, says_not _ _ _ _ _ c.in-Err-Again.ensures.err)

pub returns-in-Err : goal.returns-in-Err
returns-in-Err g c = record { sent = tt; err = says_not _ _ _ _ _ c.in-Err.ensures.err }

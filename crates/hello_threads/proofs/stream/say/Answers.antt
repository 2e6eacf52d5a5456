use Rattle.std.proofs.Common.{arith}
use Rattle.hello_threads.proofs.Streaming.{says, says_not}
use Rattle.hello_threads.proofs.stream.say.Goals as goal

pub returns-in-Ok-clause-sent : goal.returns-in-Ok-clause-sent
returns-in-Ok-clause-sent g c = (omega arith, says c.args.other _ c.args.text.now _ _ c.in-Ok.ensures.ok)

pub returns-in-Err-Again-clause-sent : goal.returns-in-Err-Again-clause-sent
returns-in-Err-Again-clause-sent g c = (omega arith, says_not c.args.other _ _ _ _ _ c.in-Err-Again.ensures.err)

pub returns-in-Err : goal.returns-in-Err
returns-in-Err g c = record { sent = tt; err = says_not c.args.other _ _ _ _ _ c.in-Err.ensures.err }

use Rattle.fabric_uses.proofs.Refusing.{full_told, may_refuse}
use Rattle.fabric_uses.proofs.sending.most_under_way.Goals as goal

pub most_of-requires : goal.most_of-requires
most_of-requires g c = may_refuse _ _ _ _ _ c.in-Err.ensures.err.1 c.in-Err.ensures.never

pub returns-in-Err-clause-most : goal.returns-in-Err-clause-most
returns-in-Err-clause-most g c = (full_told _ _ _ _ _ c.most_of.result c.most_of.ensures c.in-Err.ensures.err.1).0

pub returns-in-Err-clause-full : goal.returns-in-Err-clause-full
returns-in-Err-clause-full g c = (full_told _ _ _ _ _ c.most_of.result c.most_of.ensures c.in-Err.ensures.err.1).1

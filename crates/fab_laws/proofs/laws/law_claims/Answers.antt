-- The law is proved over any program.
use Rattle.fab_laws.proofs.receiving.Holding.{freed_rightly, lost_is_put_away, stays_claimed, takes_tell}
use Rattle.fab_laws.proofs.laws.law_claims.Goals as goal

pub returns-clause-freed : goal.returns-clause-freed
returns-clause-freed c = freed_rightly

pub returns-clause-stays : goal.returns-clause-stays
returns-clause-stays c = stays_claimed

pub returns-clause-lost : goal.returns-clause-lost
returns-clause-lost c = lost_is_put_away

pub returns-clause-takes : goal.returns-clause-takes
returns-clause-takes c = takes_tell

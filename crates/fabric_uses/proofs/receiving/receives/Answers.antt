use Rattle.std.proofs.lemmas.Bool.{both_ways}
use Rattle.fabric_uses.proofs.receiving.receives.Goals.{in-Err, in-Ok}
use Rattle.fabric_uses.proofs.receiving.receives.Goals as goal

pub returns : goal.returns
returns g c = elim c.match-trecv.branch [ in-Ok w ↦ λ t. w.in-Ok.ensures.ok | in-Err w ↦ λ t. absurd (both_ways _ w.result-is t) ]

use Rattle.std.proofs.Common.{Some, refl, ap}
use Rattle.fab_ring.proofs.Clauses.{always_some, always_none}
use Rattle.fab_ring.proofs.meaning.RingPortPort.front.Goals as goal

pub returns : goal.returns
returns c = let all = c.front.follows.holds-at-none in (
  (refl, λ _. tt, (all.fronted, all.others, all.outgoing, all.number, all.peers, all.home, ap Some all.moves, all.saw)),
  record { gives = c.front.ensures.gives; next = always_some c.front.result; lent = c.front.ensures.lent; all_taken = always_none c.front.result; after = tt },
)

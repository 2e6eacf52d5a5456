use Rattle.fab_av.proofs.Tables.{peer_below}
use Rattle.fab_av.proofs.addresses.Av.known.Goals as goal

pub returns : goal.returns
returns c = rw (← c.self.view_is) (λ i peer stands. peer_below _ _ _ i peer c.self.invariant stands)

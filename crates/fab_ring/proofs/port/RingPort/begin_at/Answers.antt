use Rattle.fab_ring.proofs.Hold.{fits_begin}
use Rattle.fab_ring.proofs.port.RingPort.begin_at.Goals as goal

pub invariant_of-self : goal.invariant_of-self
invariant_of-self c = let q = c.args.self.now in
    record { at = q.at; fits = fits_begin _ _ _ _ _ _ _ _ _ _ _ _ q.fits c.args.src c.requires.below c.requires.only; rounds = q.rounds; sees = q.sees; told = q.told; ends = q.ends; counted = q.counted; comes = q.comes }

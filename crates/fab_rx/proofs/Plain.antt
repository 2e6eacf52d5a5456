-- For the crates above: what bytes in a multi-receive leave as it was, and what holds where no multi-receive was posted.
use Rattle.std.proofs.Common.{◌≡◌, ℕ, Bool, true, false, List, Option, Some, None, refl}
use Rattle.fab_base.specs.declared.operations.Receive.{Receive}
use Rattle.fab_model.specs.State.{Receiving, under_way}
use Rattle.fab_model.specs.Complete.{filling}
use Rattle.fab_rx.specs.Arriving.{shared, without_closed}

-- the messages and what is coming stay as they were
pub record IsSameBesides (rx after : Receiving) : Type 0 where
  pub unexpected : after.unexpected ≡ rx.unexpected
  pub claimed : after.claimed ≡ rx.claimed
  pub coming : after.coming ≡ rx.coming

pub shared_besides : (o : Option ℕ) (r : Receive) (place : ℕ) (bytes : List ℕ) (rx : Receiving) → IsSameBesides rx (shared o r place bytes rx)
shared_besides None r place bytes rx = record { unexpected = refl; claimed = refl; coming = refl }
shared_besides (Some least) r place bytes rx = by (under_way (filling r place bytes rx) r.call) refl
  where
    by : (b : Bool) → under_way (filling r place bytes rx) r.call ≡ b → IsSameBesides rx (without_closed r.call (filling r place bytes rx))
    by true is = rw (is, without_closed) (record { unexpected = refl; claimed = refl; coming = refl })
    by false is = rw (is, without_closed) (record { unexpected = refl; claimed = refl; coming = refl })

-- Endpoints that go on over gathered ports.
--     HasTakenAs i j  what was taken of a lane is the same
--     Stays old new   an endpoint's port is the same one
use Rattle.std.specs.Prelude.{◌≡◌}
use Rattle.fab_link.specs.Meaning.{Incoming}
use Rattle.fab_face.specs.Held.{Seen}

abbrev pub HasTakenAs : Incoming → Incoming → Type 0
HasTakenAs i j = (j.taken ≡ i.taken) × (j.after ≡ i.after)

abbrev pub Stays : {Home : Type 0} → Seen Home → Seen Home → Type 0
Stays old new = (new.lanes.number ≡ old.lanes.number) × (new.lanes.peers ≡ old.lanes.peers) × (new.lanes.home ≡ old.lanes.home)

-- What both ends of a lane begin with.
--     IsNew peers port        a port of so many peers, all of whose lanes end with a whole item
--     AreNew peers ports      each of these is one
use Rattle.std.specs.Prelude.{◌≡◌, ℕ, List, Some, slice_get}
use Rattle.fab_link.specs.Cut.{IsBetweenItems}
use Rattle.fab_link.specs.Meaning.{end_of}
use Rattle.fab_ring.specs.declared.port.RingPort.{RingPort}
use Rattle.fab_ring.specs.Ports.{peers_of, out_of}

abbrev pub IsNew : ℕ → RingPort → Type 0
IsNew peers p = (peers_of p ≡ peers) × ((d : ℕ) → IsBetweenItems (end_of (out_of p d)))

abbrev pub AreNew : ℕ → List RingPort → Type 0
AreNew peers ports = (k : ℕ) (p : RingPort) → slice_get ports k ≡ Some p → IsNew peers p

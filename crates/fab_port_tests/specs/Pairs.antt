-- Two ports.
--     IsFresh p            nothing was posted to this port of a table or taken from it
--     AreBoth ports p q    these two are the first and the second of the plain ports
--     ArePaired zero one   the lanes of a port over queues, and of a second, are between these two
use Rattle.std.specs.Prelude.{◌≡◌, ℕ, List, Some, slice_get}
use Rattle.fab_link.specs.Meaning.{AreFresh}
use Rattle.fab_link.specs.Plain.{Plain}
use Rattle.fab_ring.specs.declared.port.RingPort.{RingPort}
use Rattle.fab_ring.specs.Ports.{out_of, in_of}
use Rattle.fab_queue.specs.Ports.{Lanes}

abbrev pub IsFresh : RingPort → Type 0
IsFresh p = (d : ℕ) → AreFresh (out_of p d) (in_of p d)

abbrev pub AreBoth : List Plain → Plain → Plain → Type 0
AreBoth ports p q = (slice_get ports 0 ≡ Some p) × (slice_get ports 1 ≡ Some q)

pub record ArePaired (zero one : Lanes) : Type 0 where
  pub zero_zero : zero.to 0 ≡ zero.from 0
  pub zero_one : zero.to 1 ≡ one.from 0
  pub one_zero : one.to 0 ≡ zero.from 1
  pub one_one : one.to 1 ≡ one.from 1

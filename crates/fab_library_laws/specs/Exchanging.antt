-- A whole program, at an example.
--     AreExchanged all left     of each endpoint: the record of its exchange with peer 0, or of what of it was not refused
--     IsExchanged all left      what the threads did was a run of the program's machine, and each law holds of it; each record is that of an exchange
use Rattle.std.specs.Prelude.{◌≡◌, ℕ, List, Some, replicate, slice_get, take}
use Rattle.fab_ep.specs.Value.{Whole}
use Rattle.fab_ring.specs.declared.port.RingPort.{RingPort}
use Rattle.fab_domain.specs.Seen.{ring_seen}
use Rattle.fab_doings.specs.Doings.{Doing, own_of}
use Rattle.fab_library_laws.specs.declared.example.TheConstants.{MESSAGE}
use Rattle.fab_library_laws.specs.Closing.{endpoints_of}
use Rattle.fab_library_laws.specs.Library.{IsLibraryRun, Thread}
use Rattle.fab_doings.specs.Recording.{AreRecordedSome, exchanged}

-- what peer p is to do itself: its exchange, with buffers of zeros
abbrev pub its_own : ℕ → List Doing
its_own p = exchanged 0 p (replicate MESSAGE 0) (replicate MESSAGE 0)

abbrev pub AreExchanged : List (Whole RingPort) → List (Whole RingPort) → Type 0
AreExchanged all left = (p : ℕ) (e f : Whole RingPort) → slice_get all p ≡ Some e → slice_get left p ≡ Some f → AreRecordedSome (ring_seen e) (ring_seen f) (its_own p)

pub record IsExchanged (all left : List (Whole RingPort)) : Type 0 where
  -- the record of each thread
  pub threads : List Thread
  pub are : endpoints_of threads ≡ left
  pub own : (p : ℕ) (t : Thread) → slice_get threads p ≡ Some t → (n : ℕ) × (own_of t.doings ≡ take n (its_own p))
  pub run : IsLibraryRun all threads

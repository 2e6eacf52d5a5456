-- What a thread received of another in a program over lanes is the first of what that one sent to it, by their own records.
--     LibraryHears      the law
use Rattle.std.specs.Prelude.{◌≡◌, ℕ, Bool, List, Some, slice_get}
use Rattle.fab_base.specs.declared.caps.Info.{Info}
use Rattle.fab_base.specs.declared.items.Want.{Want}
use Rattle.fab_model.specs.Views.{IsPrefixOf}
use Rattle.fab_laws.specs.Members.{In}
use Rattle.fab_ep.specs.Value.{Whole}
use Rattle.fab_ring.specs.declared.port.RingPort.{RingPort}
use Rattle.fab_doings.specs.Doings.{Doing, own_of}
use Rattle.fab_doings.specs.Heard.{AllFit, Chooses, IsSimple, heard, said}
use Rattle.fab_library_laws.specs.Closing.{AreLeft}
use Rattle.fab_library_laws.specs.Library.{IsLibraryRun, Thread}

-- all that the thread itself did is Ok sends, Ok receives and entries read
abbrev pub IsSimpleThread : Thread → Type 0
IsSimpleThread t = (z : Doing) → In z (own_of t.doings) → IsSimple z

-- of threads p and q, whose endpoints opened as e and f
abbrev pub LibraryHears : Type 0
LibraryHears = (info : Info) (selective : Bool) (all : List (Whole RingPort)) (threads : List Thread) → AreLeft info selective all threads → IsLibraryRun all threads
    → (p q : ℕ) (e f : Whole RingPort) (x y : Thread) → slice_get all p ≡ Some e → slice_get threads p ≡ Some x → slice_get all q ≡ Some f → slice_get threads q ≡ Some y → IsSimpleThread x → IsSimpleThread y
    → (want : Want) (mine : ℕ → Bool) → Chooses f.held.state p want mine (own_of y.doings) → AllFit mine (said e.held.state p want q (own_of x.doings)) (own_of y.doings)
    → IsPrefixOf (heard mine (own_of y.doings)) (said e.held.state p want q (own_of x.doings))

-- Where a depot and an output over memory fail.
--     IsToldToFail depot name    this load is to fail
--     IsListed sink              this write is to fail
--     LacksRoom sink n           a piece of n bytes needs more memory than is there
use Rattle.std.specs.Prelude.{◌≡◌, ℕ, ◌+◌, ◌<◌, ◌⊎◌, List, None, Contains, Bool, true, false, Result, Ok, Err, min, vec_len}
use Rattle.std.specs.Vec.{vec_capacity}
use Rattle.fab_outside.specs.declared.memory.MemoryDepot.{MemoryDepot}
use Rattle.fab_outside.specs.declared.memory.MemorySink.{MemorySink}
use Rattle.fab_outside.specs.declared.outside.LoadRefused.{LoadRefused}
use Rattle.fab_outside.specs.declared.outside.LoadRefused.TheVariants.{Failed, TooLong, NoMemory}
use Rattle.fab_outside.specs.Outside.{file_of}
use Rattle.fab_base.specs.Counts.{counted}

-- this load's number is listed, or no file has the name
abbrev pub IsToldToFail : MemoryDepot → List ℕ → Type 0
IsToldToFail depot name = Contains depot.failing.items (counted depot.calls) ⊎ (file_of depot.files.items name ≡ None)

abbrev pub is_failed : Result (List ℕ) LoadRefused → Bool
is_failed (Ok bytes) = false
is_failed (Err Failed) = true
is_failed (Err (TooLong bytes)) = false
is_failed (Err NoMemory) = false

-- this write's number is listed
abbrev pub IsListed : MemorySink → Type 0
IsListed sink = Contains sink.failing.items (counted sink.calls)

-- what the sink takes of a piece of n bytes goes beyond the memory that it has
abbrev pub LacksRoom : MemorySink → ℕ → Type 0
LacksRoom sink n = vec_capacity sink.bytes < vec_len sink.bytes + min sink.most n

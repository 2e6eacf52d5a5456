-- Requests, and what is told of them.
--     kept_of polled                      the end that a completion tells of a request, by its context
--     EndsAs ended at end left            the end at this place is given, and the others stay
--     AllEnd ends answer                  the buffers of all ends in their order, or the first failure
--     told met                            the status of a message that a probe met
use Rattle.std.specs.Prelude.{◌≡◌, ◌==◌, ◌%◌, ◌^◌, ◌⊎◌, ℕ, List, ◌∷◌, ◌++◌, Option, Some, None, Result, Ok, Err, map, option_map, option_to_list, position, get_or, remove, Vec}
use Rattle.std.specs.declared.alloc.Global.{Global}
use Rattle.fabric.specs.Words.{Entry, ErrEntry, Polled, PolledEntry, PolledError, Probed, Received, Sent}
use Rattle.mini_mpi.specs.Errors.{kind_error}
use Rattle.mini_mpi.specs.declared.ended.Completed.{Completed}
use Rattle.mini_mpi.specs.declared.ended.Status.{Status}
use Rattle.mini_mpi.specs.declared.errors.Error.TheVariants.{NoMem}
use Rattle.mini_mpi.specs.declared.errors.Failed.{Failed}
use Rattle.mini_mpi_parts.specs.declared.ended.Ended.{Ended}

abbrev pub End : Type 0
End = Result Completed Failed

-- ---- what a completion tells

abbrev pub tag_in : Option ℕ → Option ℕ
tag_in bits = option_map (λ tag. tag % 2 ^ 32) bits

-- the status of a send
abbrev pub empty : Status
empty = record { source = None; tag = None; len = 0 }

-- a send and a receive end so, and nothing else is a request's
abbrev pub completed_of : Entry → Option (Ended End)
completed_of (Sent ctx tagged buf) = Some (record { id = ctx; end = Ok (record { buf = buf; status = empty }) })
completed_of (Received ctx source tag imm len buf) = Some (record { id = ctx; end = Ok (record { buf = buf; status = record { source = Some source; tag = tag_in tag; len = len } }) })
completed_of _ = None

abbrev pub failed_of : ErrEntry → Option (Ended End)
failed_of error = option_map (λ id. record { id = id; end = Err (record { why = kind_error error.kind; buf = error.buf }) }) error.ctx

abbrev pub ended_of : Polled → Option (Ended End)
ended_of (PolledEntry entry) = completed_of entry
ended_of (PolledError error) = failed_of error
ended_of _ = None

abbrev pub kept_of : Polled → List (Ended End)
kept_of polled = option_to_list (ended_of polled)

-- ---- ends that are kept

abbrev pub at_of : ℕ → List (Ended End) → Option ℕ
at_of id ended = position (λ one. one.id == id) ended

abbrev pub EndsAs : List (Ended End) → ℕ → End → List (Ended End) → Type 0
EndsAs ended at end left = (one : Ended End) × (one ≡ get_or ended at one) × (end ≡ one.end) × (left ≡ remove ended at)

-- memory lacks, and no buffer is at hand
abbrev pub lacks : Failed
lacks = record { why = NoMem; buf = None }

abbrev pub completions : List Completed → List End
completions all = map Ok all

-- the first failure, behind such as are complete
abbrev pub IsFirst : List End → Failed → Type 0
IsFirst ends failed = (before : List Completed) × (behind : List End) × (ends ≡ completions before ++ Err failed ∷ behind)

abbrev pub AllEnd : List End → Result (Vec Completed Global) Failed → Type 0
AllEnd ends (Ok all) = ends ≡ completions all.items
AllEnd ends (Err failed) = IsFirst ends failed ⊎ (failed ≡ lacks)

-- ---- probes

abbrev pub told : Option Probed → Option Status
told (Some met) = Some (record { source = Some met.source; tag = Some (met.tag % 2 ^ 32); len = met.len })
told None = None

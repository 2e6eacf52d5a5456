-- The names that MPI has for why a call fails.
--     error_of wrong                             what is wrong with a rank or a tag
--     fault_error fault                          why the endpoint refuses a call
--     kind_error kind                            why an operation failed
--     RefusesWrong size rank tag buf result      a call with a wrong rank or tag is refused as such, with its buffer
use Rattle.std.specs.Prelude.{◌≡◌, ℕ, List, Option, Some, Result, Err, IfSome}
use Rattle.fabric.specs.Words.{ErrKind, Fault, NoMemory, MsgSize, NoEntry, Truncated}
use Rattle.mini_mpi.specs.declared.errors.Error.{Error}
use Rattle.mini_mpi.specs.declared.errors.Error.TheVariants.{Rank, Tag, Count, NoMem, Other, Truncate}
use Rattle.mini_mpi.specs.declared.errors.Failed.{Failed}
use Rattle.mini_mpi_parts.specs.Tags.{wrong_with}
use Rattle.mini_mpi_parts.specs.declared.tags.Wrong.{Wrong}
use Rattle.mini_mpi_parts.specs.declared.tags.Wrong.TheVariants.{Rank as WrongRank, Tag as WrongTag}

abbrev pub error_of : Wrong → Error
error_of WrongRank = Rank
error_of WrongTag = Tag

abbrev pub fault_error : Fault → Error
fault_error NoMemory = NoMem
fault_error MsgSize = Count
fault_error NoEntry = Rank
fault_error _ = Other

abbrev pub kind_error : ErrKind → Error
kind_error Truncated = Truncate
kind_error _ = Other

abbrev pub RefusesWrong : {T : Type 0} → ℕ → Option ℕ → Option ℕ → List ℕ → Result T Failed → Type 0
RefusesWrong size rank tag buf result = IfSome (wrong_with size rank tag) (λ wrong. result ≡ Err (record { why = error_of wrong; buf = Some buf }))

-- An endpoint whose log nobody reads.
--     cleared e           the endpoint with an empty log: what each call begins with
--     is_log_full why     the refusal that says that the log is full
--     is_again why        a refusal that passes
use Rattle.std.specs.Prelude.{Bool, true, false, []}
use Rattle.fab_base.specs.declared.faults.Fault.{Fault}
use Rattle.fab_base.specs.declared.faults.Fault.TheVariants.{Again}
use Rattle.fab_base.specs.declared.faults.Busy.{Busy}
use Rattle.fab_base.specs.declared.faults.Busy.TheVariants.{LogFull}
use Rattle.fab_face.specs.Held.{Seen}

abbrev pub cleared : {Home : Type 0} → Seen Home → Seen Home
cleared e = record e { log = [] }

abbrev pub is_full_of_log : Busy → Bool
is_full_of_log (LogFull n) = true
is_full_of_log _ = false

-- the refusal passes (FI_EAGAIN)
abbrev pub is_again : Fault → Bool
is_again (Again busy) = true
is_again _ = false

abbrev pub is_log_full : Fault → Bool
is_log_full (Again busy) = is_full_of_log busy
is_log_full _ = false

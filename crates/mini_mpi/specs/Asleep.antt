-- How a rank waits.
--     waiting_among ranks processors     asleep where there are more ranks than processors
--     sleeps waiting, waiting_of sleeper whether a rank sleeps; asleep is who has somebody that sleeps for it
use Rattle.std.specs.Prelude.{ℕ, Bool, true, false, cond, nat_lt, Option, Some, None}
use Rattle.mini_mpi.specs.declared.asleep.Waiting.{Waiting}
use Rattle.mini_mpi.specs.declared.asleep.Waiting.TheVariants.{Sleep, Spin}

abbrev pub waiting_among : ℕ → ℕ → Waiting
waiting_among ranks processors = cond (nat_lt processors ranks) Sleep Spin

abbrev pub sleeps : Waiting → Bool
sleeps Sleep = true
sleeps Spin = false

abbrev pub waiting_of : {T : Type 0} → Option T → Waiting
waiting_of (Some sleeper) = Sleep
waiting_of None = Spin

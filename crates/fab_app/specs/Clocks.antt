-- What a clock told.
--     Told                    how many moments it gave, and the last of them, in nanoseconds
--     read_on told moment     and one moment more
--     later moment nanos      so much later, or the last moment that there is
use Rattle.std.specs.Prelude.{ℕ, ◌+◌, ◌-◌, ◌^◌, min}
use Rattle.fab_base.specs.Counts.{counted}

pub record Told : Type 0 where
  pub given : ℕ
  pub last : ℕ

abbrev pub read_on : Told → ℕ → Told
read_on told moment = record { given = counted told.given; last = moment }

abbrev pub later : ℕ → ℕ → ℕ
later moment nanos = min (moment + nanos) (2 ^ 64 - 1)

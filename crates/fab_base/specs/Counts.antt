-- Counts that are stored in 64 bits and stay at their last value. Who makes what has such a count says
-- that it begins at 0, so that no constant passes for a count that rises.
--     Rose old new      the count rose, or stays at its last value
--     counted n         one further, or at its last value
use Rattle.std.specs.Prelude.{◌≡◌, ℕ, ◌+◌, ◌-◌, ◌^◌, ◌<◌, ◌⊎◌, min}

abbrev pub Rose : ℕ → ℕ → Type 0
Rose old new = (old < new) ⊎ ((old ≡ new) × (new + 1 ≡ 2 ^ 64))

abbrev pub counted : ℕ → ℕ
counted n = min (n + 1) (2 ^ 64 - 1)

-- The words of the commands that run a workload.
--     workload_of words      `pingpong FILE SIZE COUNT`, `bandwidth FILE SIZE COUNT WINDOW` or `gen NUMBER PEERS MESSAGES`
--     payload_file words     the file whose first bytes are sent; `gen` names none
--     IsWithin workload      its numbers are those that the commands take
use Rattle.std.specs.Prelude.{ℕ, Bool, ◌*◌, ◌<◌, ◌≤◌, ◌^◌, ◌&&◌, ◌||◌, nat_le, if◌then◌else◌, List, [], ◌∷◌, bytes_eq, codes, Option, Some, None}
use Rattle.fab_base.specs.declared.limits.TheConstants.{MESSAGE_BYTES_ONE, SCRIPT_BYTES_ONE}
use Rattle.fab_words.specs.Words.{numeral_of, only_if, ◌>>=◌}
use Rattle.fab_workloads.specs.declared.workload.Workload.{Workload}
use Rattle.fab_workloads.specs.declared.workload.Workload.TheVariants.{Pingpong, Bandwidth, Generated}

-- one to twenty decimal digits that say a number from `least` to `most`
abbrev pub number_within : ℕ → ℕ → List ℕ → Option ℕ
number_within least most word = numeral_of 10 20 word >>= λ n. only_if (nat_le least n && nat_le n most) n

-- at most 67,108,864 bytes in all
abbrev pub are_few : ℕ → ℕ → Bool
are_few size count = nat_le (size * count) SCRIPT_BYTES_ONE

abbrev pub pingpong_of : List ℕ → List ℕ → Option Workload
pingpong_of size count =
    number_within 0 MESSAGE_BYTES_ONE size >>= λ s. number_within 1 10_000 count >>= λ c. only_if (are_few s c) (Pingpong s c)

abbrev pub bandwidth_of : List ℕ → List ℕ → List ℕ → Option Workload
bandwidth_of size count window =
    number_within 0 MESSAGE_BYTES_ONE size >>= λ s. number_within 1 10_000 count >>= λ c. number_within 1 256 window >>= λ w.
    only_if (are_few s c) (Bandwidth s c w)

abbrev pub generated_of : List ℕ → List ℕ → List ℕ → Option Workload
generated_of number peers messages =
    numeral_of 10 20 number >>= λ n. number_within 1 32 peers >>= λ p. number_within 0 8_192 messages >>= λ m. Some (Generated n p m)

unfoldable pub workload_of : List (List ℕ) → Option Workload
workload_of (verb ∷ a ∷ b ∷ c ∷ []) =
    if bytes_eq verb (codes "pingpong") then pingpong_of b c else if bytes_eq verb (codes "gen") then generated_of a b c else None
workload_of (verb ∷ file ∷ size ∷ count ∷ window ∷ []) = if bytes_eq verb (codes "bandwidth") then bandwidth_of size count window else None
workload_of _ = None

-- the word after `pingpong` or `bandwidth`
abbrev pub payload_file : List (List ℕ) → Option (List ℕ)
payload_file (verb ∷ file ∷ words) = if bytes_eq verb (codes "pingpong") || bytes_eq verb (codes "bandwidth") then Some file else None
payload_file _ = None

abbrev pub IsWithin : Workload → Type 0
IsWithin (Pingpong size count) = (size ≤ MESSAGE_BYTES_ONE) × (1 ≤ count) × (count ≤ 10_000) × (size * count ≤ SCRIPT_BYTES_ONE)
IsWithin (Bandwidth size count window) = (size ≤ MESSAGE_BYTES_ONE) × (1 ≤ count) × (count ≤ 10_000) × (1 ≤ window) × (window ≤ 256) × (size * count ≤ SCRIPT_BYTES_ONE)
IsWithin (Generated number peers messages) = (number < 2 ^ 64) × (1 ≤ peers) × (peers ≤ 32) × (messages ≤ 8_192)

-- The words of the command.
--     window_of words      what `window NUMBER PEERS WORDS ADDS` asks for
--     IsWithin asked       its numbers are those that the command takes
use Rattle.std.specs.Prelude.{ℕ, ◌<◌, ◌≤◌, ◌^◌, if◌then◌else◌, List, [], ◌∷◌, bytes_eq, codes, Option, Some, None}
use Rattle.fab_words.specs.Words.{numeral_of, ◌>>=◌}
use Rattle.fab_workloads.specs.Commands.{number_within}
use Rattle.fab_command_runs.specs.declared.asked.Asked.{Asked}
use Rattle.fab_command_runs.specs.Texts.{text}

abbrev pub asked : ℕ → ℕ → ℕ → ℕ → Asked
asked n p w a = record { number = n; peers = p; words = w; adds = a }

abbrev pub asked_of : List ℕ → List ℕ → List ℕ → List ℕ → Option Asked
asked_of number peers words adds =
    numeral_of 10 20 number >>= λ n. number_within 1 32 peers >>= λ p. number_within 1 1_024 words >>= λ w. number_within 0 100_000 adds >>= λ a. Some (asked n p w a)

unfoldable pub window_of : List (List ℕ) → Option Asked
window_of (verb ∷ a ∷ b ∷ c ∷ d ∷ []) = if bytes_eq verb (codes "window") then asked_of a b c d else None
window_of _ = None

abbrev pub IsWithin : Asked → Type 0
IsWithin q = (q.number < 2 ^ 64) × (1 ≤ q.peers) × (q.peers ≤ 32) × (1 ≤ q.words) × (q.words ≤ 1_024) × (q.adds ≤ 100_000)

-- the text that these words ask for, a function of them alone
abbrev pub asked_text : Asked → List ℕ
asked_text q = text q.number q.peers q.words q.adds

-- The schedule that a text tells, read strictly: a text of another form tells none.
--     step_told peers word         a word as a step: in the form of a report, with the number of one of these peers
--     lists_told peers lines       the steps of each line that begins with `trace`
--     schedule_told peers text     one list of steps for each peer
-- `traces` of fab_model reads every text, and passes over words that are no steps. Where both read one, they read the same.
use Rattle.std.specs.Prelude.{ℕ, Bool, false, not, ◌&&◌, ◌==◌, nat_lt, nat_le, List, [], ◌∷◌, ◌++◌, length, take, drop, Option, Some, None, codes, bytes_eq, if◌then◌else◌}
use Rattle.std.specs.List.{list_all}
use Rattle.fab_base.specs.declared.peers.Step.{Step}
use Rattle.fab_model.specs.Words.{Word, pieces_at, read_decimal}
use Rattle.fab_model.specs.Report.{bare, numbered}

-- ---- a step

abbrev pub is_digit : ℕ → Bool
is_digit byte = nat_le 48 byte && nat_le byte 57

-- one digit or more, the first of which is no 0 unless it stands alone
abbrev pub is_numeral : List ℕ → Bool
is_numeral [] = false
is_numeral (digit ∷ []) = is_digit digit
is_numeral (first ∷ second ∷ digits) = not (first == 48) && list_all is_digit (first ∷ second ∷ digits)

-- the number of one of so many peers
abbrev pub names_peer : ℕ → List ℕ → Bool
names_peer peers digits = is_numeral digits && nat_lt (read_decimal digits) peers

unfoldable pub step_told : ℕ → Word → Option Step
step_told peers [] = None
step_told peers (letter ∷ []) = bare letter
step_told peers (letter ∷ digit ∷ digits) = if names_peer peers (digit ∷ digits) then numbered letter (digit ∷ digits) else None

-- ---- a line

-- a member and those after it, where all are there
abbrev pub with_rest : {X : Type 0} → Option X → Option (List X) → Option (List X)
with_rest None rest = None
with_rest (Some x) None = None
with_rest (Some x) (Some xs) = Some (x ∷ xs)

abbrev pub steps_told : ℕ → List Word → Option (List Step)
steps_told peers [] = Some []
steps_told peers (word ∷ words) = with_rest (step_told peers word) (steps_told peers words)

-- what follows the word `trace`: nothing, or steps, each after one space
unfoldable pub steps_behind : ℕ → List ℕ → Option (List Step)
steps_behind peers [] = Some []
steps_behind peers (byte ∷ text) = if byte == 32 then steps_told peers (pieces_at 32 text) else None

-- ---- a text

abbrev pub begins_trace : List ℕ → Bool
begins_trace line = bytes_eq (take 5 line) (codes "trace")

abbrev pub lists_told : ℕ → List (List ℕ) → Option (List (List Step))
lists_told peers [] = Some []
lists_told peers (line ∷ lines) = if begins_trace line then with_rest (steps_behind peers (drop 5 line)) (lists_told peers lines) else lists_told peers lines

-- as many lists as there are peers
abbrev pub if_as_many : ℕ → Option (List (List Step)) → Option (List (List Step))
if_as_many peers None = None
if_as_many peers (Some lists) = if length lists == peers then Some lists else None

unfoldable pub schedule_told : ℕ → List ℕ → Option (List (List Step))
schedule_told peers text = if_as_many peers (lists_told peers (pieces_at 10 text))

-- ---- reading piece by piece

-- the pieces after a byte, where there is one
abbrev pub pieces_left : ℕ → Option (List ℕ) → List (List ℕ)
pieces_left byte None = []
pieces_left byte (Some text) = pieces_at byte text

-- members, and those of the rest behind them, where all are there
abbrev pub behind_all : {X : Type 0} → List X → Option (List X) → Option (List X)
behind_all xs None = None
behind_all xs (Some ys) = Some (xs ++ ys)

-- What a peer tells the others after a turn, and what all told.
--     word_of moved finished failed     the word of a peer
--     told_by p                         the word of a peer between two rounds
--     goes x                            by this answer all go on
use Rattle.std.specs.Prelude.{ℕ, ◌+◌, ◌/◌, ◌%◌, ◌==◌, ◌&&◌, Bool, if◌then◌else◌}
use Rattle.fab_model.specs.Peers.{is_finished}
use Rattle.fab_peer.specs.Turns.{actor_of}
use Rattle.fab_rounds.specs.Rounds.{Between}

-- bit 0: the turn moved something; bit 1: lines are left; bit 2: memory ran out
abbrev pub word_of : Bool → Bool → Bool → ℕ
word_of moved finished failed = (if moved then 1 else 0) + (if finished then 0 else 2) + (if failed then 4 else 0)

abbrev pub told_by : {Home : Type 0} → Between Home → ℕ
told_by p = word_of p.moved (is_finished (actor_of p.peer)) p.failed

-- some turn moved something, some lines are left, and memory ran out in no turn
abbrev pub goes : ℕ → Bool
goes x = (x % 2 == 1) && (x / 2 % 2 == 1) && (x / 4 % 2 == 0)

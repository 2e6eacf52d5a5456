-- States at rest, in two parts: what comes to a peer, and what it can do.
--     is_still all p a      nothing comes to the peer any more
use Rattle.std.specs.Prelude.{ℕ, ◌+◌, Bool, true, not, ◌&&◌, ◌==◌, List, [], ◌∷◌, length}
use Rattle.fab_model.specs.Peers.{Actor}
use Rattle.fab_model.specs.Receiving.{draw_due}
use Rattle.fab_model.specs.Replay.{agree_all}

abbrev pub is_still : List Actor → ℕ → Actor → Bool
is_still all p a = agree_all p 0 a all && (a.state.cq.taken_out == length a.state.cq.written) && not (draw_due a.state.rx)

abbrev pub all_still : List Actor → ℕ → List Actor → Bool
all_still all p [] = true
all_still all p (a ∷ rest) = is_still all p a && all_still all (p + 1) rest

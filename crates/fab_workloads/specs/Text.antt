-- The text that the command `coll` writes where all rounds are done.
--     coll_text peers rounds      `coll 1 peers N`; of each rank `peer K`, and of each round its line's number, its verb and
--                                 what it comes to; and `end done`
use Rattle.std.specs.Prelude.{ℕ, List, [], ◌∷◌, ◌++◌, codes, decimal, flat_map, map}
use Rattle.fab_model.specs.Calls.{upto}
use Rattle.fab_model.specs.Words.{Word, hex_or_dash, text_of}
use Rattle.fab_fold.specs.declared.coll.Coll.{Coll}
use Rattle.fab_fold.specs.declared.coll.Coll.TheVariants.{Barrier, Broadcast, Allgather, Allreduce}
use Rattle.fab_workloads.specs.declared.round.Round.{Round}
use Rattle.fab_fold.specs.Shares.{fold}

abbrev pub verb_word : Coll → Word
verb_word Barrier = codes "barrier"
verb_word (Broadcast root) = codes "broadcast"
verb_word Allgather = codes "allgather"
verb_word (Allreduce op num) = codes "allreduce"

abbrev pub round_words : Round → List Word
round_words round = decimal round.line ∷ verb_word round.coll ∷ hex_or_dash (fold round.coll round.shares) ∷ []

abbrev pub rank_lines : List Round → ℕ → List (List Word)
rank_lines rounds r = (codes "peer" ∷ decimal r ∷ []) ∷ map round_words rounds

unfoldable pub coll_text : ℕ → List Round → List ℕ
coll_text peers rounds = text_of (
    (codes "coll" ∷ codes "1" ∷ codes "peers" ∷ decimal peers ∷ []) ∷ flat_map (rank_lines rounds) (upto peers) ++ (codes "end" ∷ codes "done" ∷ []) ∷ []
    )

-- The script that does the rounds by tagged messages (fi_tagged(3), fi_cq(3)).
--     receivers peers coll r, senders peers coll r      the ranks that need rank r's share, and those whose shares it needs
--     round_ops peers i r round      the lines of rank r in round i; rounds are numbered from 1
--     rounds_ops peers i r rounds    its lines in these rounds, of which the first is round i
--     plan_of peers rounds           the script
use Rattle.std.specs.Prelude.{ℕ, ◌+◌, ◌*◌, List, [], ◌∷◌, ◌++◌, length, map, filter, if◌then◌else◌}
use Rattle.fab_base.specs.declared.script.Bound.{Bound}
use Rattle.fab_base.specs.declared.script.BytesWord.TheVariants.{Hex}
use Rattle.fab_base.specs.declared.script.LineOp.{LineOp}
use Rattle.fab_model.specs.Calls.{upto}
use Rattle.fab_workloads.specs.Lines.{receive, send, wait}
use Rattle.fab_workloads.specs.Script.{all_numbered, conf_of}
use Rattle.fab_fold.specs.declared.coll.Coll.{Coll}
use Rattle.fab_workloads.specs.declared.round.Round.{Round}
use Rattle.fab_fold.specs.Shares.{needs}
use Rattle.fab_workloads.specs.Rounds.{share_of}

-- ---- who sends to whom

abbrev pub receivers : ℕ → Coll → ℕ → List ℕ
receivers peers coll r = filter (λ t. needs coll t r) (upto peers)

abbrev pub senders : ℕ → Coll → ℕ → List ℕ
senders peers coll r = filter (λ s. needs coll r s) (upto peers)

-- ---- the lines of a rank

-- the contexts in round i of the send to rank t, and of the receive from rank s
abbrev pub send_ctx : ℕ → ℕ → ℕ
send_ctx i t = 128 * i + t

abbrev pub receive_ctx : ℕ → ℕ → ℕ
receive_ctx i s = 128 * i + 64 + s

abbrev pub send_to : ℕ → List ℕ → ℕ → LineOp
send_to i share t = send (send_ctx i t) t i (Hex share)

abbrev pub receive_of : ℕ → Round → ℕ → LineOp
receive_of i round s = receive (receive_ctx i s) s i (length (share_of round s))

abbrev pub wait_of : ℕ → ℕ → LineOp
wait_of i s = wait (receive_ctx i s)

-- all sends, all receives, and then the waits
abbrev pub round_ops : ℕ → ℕ → ℕ → Round → List LineOp
round_ops peers i r round =
    map (send_to i (share_of round r)) (receivers peers round.coll r) ++ (map (receive_of i round) (senders peers round.coll r) ++ map (wait_of i) (senders peers round.coll r))

abbrev pub rounds_ops : ℕ → ℕ → ℕ → List Round → List LineOp
rounds_ops peers i r [] = []
rounds_ops peers i r (round ∷ rounds) = round_ops peers i r round ++ rounds_ops peers (i + 1) r rounds

-- how many of them have to do with rank s: a send to it, and a receive and a wait for its share
abbrev pub lines_with : Coll → ℕ → ℕ → ℕ
lines_with coll r s = (if needs coll s r then 1 else 0) + (if needs coll r s then 2 else 0)

-- ---- the script

abbrev pub plan_ops : ℕ → List Round → List (List LineOp)
plan_ops peers rounds = map (λ r. rounds_ops peers 1 r rounds) (upto peers)

-- default sizes, no capability asked for, the lines numbered in order of ranks
unfoldable pub plan_of : ℕ → List Round → Bound
plan_of peers rounds = record {
  script = record { version = 1; conf = conf_of peers; payloads = []; peers = all_numbered 1 (plan_ops peers rounds) };
  files = [];
}

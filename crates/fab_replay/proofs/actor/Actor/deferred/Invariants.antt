use Rattle.std.proofs.Common.{◌≡◌, ◌+◌, not, length, take, count_by, sum_by}
use Rattle.fab_model.specs.State.{awaits}
use Rattle.fab_checker_halves.specs.Seen.{tx_of}
use Rattle.fab_replay.proofs.actor.Actor.deferred.Given as goal

-- those whose items wait, and those held for the peers so far
abbrev pub invariant-loop-held : goal.invariant-loop-held
invariant-loop-held l = l.deferred ≡ count_by (λ o. not (awaits (tx_of l.self.state.tx) o)) l.self.state.tx.live.items + sum_by length (take l.held-index l.held-items)

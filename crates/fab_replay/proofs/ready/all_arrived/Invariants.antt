use Rattle.std.proofs.Common.{◌≡◌, true, map, length}
use Rattle.fab_base.specs.declared.script.Bound.{Bound}
use Rattle.fab_model.specs.Peers.{all_below, facts, has_all}
use Rattle.fab_replay.specs.Seen.{actors_of}
use Rattle.fab_replay.proofs.ready.all_arrived.Given as goal

abbrev pub invariant-loop-sender : goal.invariant-loop-sender
invariant-loop-sender l = (bound : Bound) → all_below (λ sender. all_below (has_all (map facts (actors_of bound l.peers)) sender) (length l.peers)) l.sender ≡ true

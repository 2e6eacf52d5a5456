use Rattle.std.proofs.Common.{◌≡◌, ◌<◌, ℕ, false, length}
use Rattle.fab_finish.specs.Freight.{Lowers}
use Rattle.fab_finish.specs.Joined.{IsJoined, GoesOn, IsStillAt}
use Rattle.fab_finish.specs.Wanting.{Grows}
use Rattle.fab_finish.proofs.rounds.round.Given as goal

abbrev pub invariant-loop-number : goal.invariant-loop-number
invariant-loop-number g l = record {
  joined : IsJoined l.peers;
  on : GoesOn l.fn.peers l.peers;
  count : length l.peers ≡ l.number-end;
  lowers : Lowers l.stepped l.moved l.fn.peers l.peers;
  grows : Grows l.fn.peers l.peers;
  still : l.moved ≡ false → (k : ℕ) → k < l.number → IsStillAt l.peers k;
}

use Rattle.std.proofs.Common.{◌≡◌, drop, not}
use Rattle.std.specs.List.{list_all}
use Rattle.fab_model.specs.Replay.{can_do}
use Rattle.fab_replay.specs.Seen.{actors_of}
use Rattle.fab_replay.proofs.rest.none_can.Given as goal

-- nothing changed, and those that are left decide
abbrev pub invariant-loop-number : goal.invariant-loop-number
invariant-loop-number l = record {
  same : actors_of l.bound l.peers ≡ actors_of l.bound l.fn.peers;
  rest : list_all (λ a. not (can_do a)) (drop l.number (actors_of l.bound l.fn.peers)) ≡ list_all (λ a. not (can_do a)) (actors_of l.bound l.fn.peers);
}

use Rattle.std.proofs.Common.{◌≡◌, drop, take}
use Rattle.std.specs.Prelude.{map}
use Rattle.fab_model.specs.Calls.{upto}
use Rattle.fab_merging.specs.Pasts.{begun}
use Rattle.fab_rounds.specs.Phases.{past_at, first_of}
use Rattle.fab_rounds.proofs.opening.open.Given as goal

abbrev pub invariant-loop-peer : goal.invariant-loop-peer
invariant-loop-peer g l = record {
  rest : l.lists.items ≡ drop l._peer l.fn.lists.items;
  machines : l.machines.items ≡ drop l._peer l.fn.machines.items;
  left : l.ports.items ≡ drop l._peer l.fn.ports.items;
  pasts : map (λ r. past_at r.peer) l.runners.items ≡ map (λ p. begun (first_of l.conf (map (λ ls. ls.items) l.fn.lists.items) p)) (upto l._peer);
  placed : map (λ r. r.peer.endpoint.port) l.runners.items ≡ take l._peer l.fn.ports.items;
}

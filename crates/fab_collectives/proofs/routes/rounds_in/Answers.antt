use Rattle.std.proofs.Common.{ap, subst, ◌∙◌}
use Rattle.fab_topology.specs.declared.kinds.Topology.{Topology}
use Rattle.fab_topology.specs.Laws.{Tiles}
use Rattle.fab_topology.specs.Rounds.{distance, rounds_of, width}
use Rattle.fab_collectives.proofs.routes.rounds_in.Goals as goal

pub returns : goal.returns
returns c = let peers = c.args.work.peers in record {
  count = c.rounds.ensures.count ∙ ap (λ (t : Topology). rounds_of t peers) c.topology.ensures;
  tiles = subst (λ (t : Topology). Tiles (rounds_of t peers) (λ k. distance t k) (λ k. width t peers k) peers) c.topology.ensures c.rounds.ensures.tiles;
}

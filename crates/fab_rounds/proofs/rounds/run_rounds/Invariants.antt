use Rattle.std.proofs.Common.{◌-◌, ◌≡◌, ◌≤◌, ◌+◌, ◌<◌, false, length, map, sum_by}
use Rattle.std.specs.Prelude.{not}
use Rattle.std.specs.List.{list_all, list_any}
use Rattle.fab_ep.specs.Value.{seen}
use Rattle.fab_model.specs.Peers.{is_finished}
use Rattle.fab_peer.specs.Turns.{told, actor_of}
use Rattle.fab_rounds.specs.Rounds.{MadeFor, between, size}
use Rattle.fab_rounds.proofs.rounds.run_rounds.Given as goal

abbrev pub invariant-rounds : goal.invariant-rounds
invariant-rounds g l = record {
  count : length l.peers ≡ length l.fn.peers;
  within : l.made ≤ l.limit;
  staying : l.stayed ≤ l.made;
  rounds : MadeFor l.made (map (λ p. between (told (seen g.P.Port) p.peer) p.moved p.failed) l.fn.peers) (map (λ p. between (told (seen g.P.Port) p.peer) p.moved p.failed) l.peers);
  grew : sum_by (λ p. size (told (seen g.P.Port) p.peer)) l.fn.peers + l.made ≤ sum_by (λ p. size (told (seen g.P.Port) p.peer)) l.peers;
  moving : 0 < l.made → list_all (λ p. not p.moved) l.peers ≡ false;
  failing : 0 < l.made → list_any (λ p. p.failed) l.peers ≡ false;
  going : 0 < l.made → list_all (λ p. is_finished (actor_of (told (seen g.P.Port) p.peer))) l.peers ≡ false;
}

abbrev pub decreases-rounds : goal.decreases-rounds
decreases-rounds g l = l.limit - l.made

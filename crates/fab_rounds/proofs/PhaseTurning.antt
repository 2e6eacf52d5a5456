-- Rounds leave each peer its port.
use Rattle.std.proofs.Common.{◌≡◌, ◌<◌, ℕ, List, length, map, Some, sym, ap, ◌∙◌, subst, arith}
use Rattle.std.specs.Prelude.{slice_get, slice_index_or}
use Rattle.std.proofs.lemmas.List.{length-map}
use Rattle.std.proofs.lemmas.Option.{slice_get_within, slice_get-map, get_or_from_slice_get}
use Rattle.std.specs.Option.{option_map}
use Rattle.fab_ep.specs.Value.{Whole}
use Rattle.fab_peer.specs.declared.peer.Peer.{Peer}
use Rattle.fab_peer.specs.Turns.{told}
use Rattle.fab_table.specs.declared.lane_table.LaneTable.{LaneTable}
use Rattle.fab_ring.specs.declared.port.RingPort.{RingPort}
use Rattle.fab_ring.specs.Ports.{number_of, table_of}
use Rattle.fab_ring.specs.Gather.{AreAll}
use Rattle.fab_ring.specs.Made.{AreMade}
use Rattle.fab_rounds.specs.Rounds.{Each, AtOnePort}
use Rattle.fab_finish.proofs.Joining.{member}
use Rattle.fab_finish.proofs.Resting.{mapped}
use Rattle.fab_rounds.specs.Phases.{seen_ring}

pub made_all : (peers room pool : ℕ) (f : LaneTable) (ports : List RingPort) → peers ≡ f.peers → AreMade peers room pool f ports → AreAll f ports
made_all peers room pool f ports is made = record { count = made.count ∙ is; numbers = made.numbers; tables = made.tables }

module _ {X : Type 0} (peer : X → Peer (Whole RingPort)) (old new : List X) (many : length new ≡ length old) (stays : Each (λ a b. AtOnePort (told seen_ring (peer a)) (told seen_ring (peer b))) old new) where
  -- the member that was at the place
  was : (k : ℕ) (x : X) → slice_get new k ≡ Some x → (y : X) × (slice_get old k ≡ Some y) × AtOnePort (told seen_ring (peer y)) (told seen_ring (peer x))
  was k x has =
      let below : k < length old = omega (arith, slice_get_within new k x has, many) in
      let y = member old k below in
      let there = get_or_from_slice_get old k y.0 x y.1 in
      let here = get_or_from_slice_get new k x x has in
      (y.0, y.1, subst (λ z. AtOnePort (told seen_ring (peer z)) (told seen_ring (peer x))) there (subst (λ z. AtOnePort (told seen_ring (peer (slice_index_or old k x))) (told seen_ring (peer z))) here (stays k x below)))

  pub all_stay : (f : LaneTable) → AreAll f (map (λ x. (peer x).endpoint.port) old) → AreAll f (map (λ x. (peer x).endpoint.port) new)
  all_stay f all = record {
    count = length-map new (λ x. (peer x).endpoint.port) ∙ many ∙ sym (length-map old (λ x. (peer x).endpoint.port)) ∙ all.count;
    numbers = λ k p has. (
        let m = mapped (λ x. (peer x).endpoint.port) new k p has in
        let w = was k m.0 m.1 in
        ap number_of (sym m.2) ∙ w.2.0 ∙ all.numbers k ((peer w.0).endpoint.port) (slice_get-map (λ x. (peer x).endpoint.port) old k ∙ ap (option_map (λ x. (peer x).endpoint.port)) w.1));
    tables = λ k p has. (
        let m = mapped (λ x. (peer x).endpoint.port) new k p has in
        let w = was k m.0 m.1 in
        ap table_of (sym m.2) ∙ w.2.1 ∙ all.tables k ((peer w.0).endpoint.port) (slice_get-map (λ x. (peer x).endpoint.port) old k ∙ ap (option_map (λ x. (peer x).endpoint.port)) w.1));
  }

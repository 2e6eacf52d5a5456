-- Peers go from the ports of one table to the plain ports that these are gathered into.
use Rattle.std.proofs.Common.{◌≡◌, ◌≤◌, ◌<◌, ◌^◌, ℕ, true, List, length, map, Some, refl, sym, ap, subst, ◌∙◌, arith}
use Rattle.std.specs.Prelude.{slice_get}
use Rattle.std.specs.Option.{option_map}
use Rattle.std.proofs.lemmas.List.{length-map}
use Rattle.std.proofs.lemmas.Simd.{map-map}
use Rattle.std.proofs.lemmas.Option.{slice_get-map, slice_get_within}
use Rattle.fab_link.specs.Merged.{merges}
use Rattle.fab_link.specs.Plain.{Plain}
use Rattle.fab_face.specs.Held.{Held, IsOpen, AreItems}
use Rattle.fab_ep.specs.Value.{Whole, anew}
use Rattle.fab_ep.specs.Tries.{IsTied}
use Rattle.fab_peer.specs.declared.peer.Peer.{Peer}
use Rattle.fab_peer.specs.declared.peer.seats.Unseated.{Unseated}
use Rattle.fab_table.specs.declared.lane_table.LaneTable.{LaneTable}
use Rattle.fab_ring.specs.declared.port.RingPort.{RingPort}
use Rattle.fab_ring.specs.Ports.{moves_of}
use Rattle.fab_ring.specs.Gather.{AreAll, Gathered}
use Rattle.fab_peer.specs.Turns.{IsCounted}
use Rattle.fab_merging.specs.Pasts.{Past}
use Rattle.fab_merging.specs.Law as law
use Rattle.fab_merging.specs.Law.{AreTogether, told_moves}
use Rattle.fab_rounds.specs.Opened.{AreGathered}
use Rattle.fab_finish.specs.Joined.{Member, seen_plain, actors, schedules, IsJoined}
use Rattle.fab_finish.proofs.Joining.{member}
use Rattle.fab_finish.proofs.Resting.{mapped}
use Rattle.fab_rounds.specs.Phases.{Paired, Tells, Seated, Follows, seen_ring, past_at, past_with, living_with}
use Rattle.fab_rounds.proofs.PhaseLists.{from_one}
use Rattle.fab_rounds.proofs.Gathering.{are_gathered, peers_all}
use Rattle.fab_rounds.proofs.Following.{ties, joined, actors_follow, schedules_follow}

-- ---- all peers

module _ {X W : Type 0} (peer : X → Peer (Whole RingPort)) (held : W → Held) (unseated : W → Unseated) (f : LaneTable) (rs : List X) (ws : List W) (plains : List Plain) (few : length rs < 2 ^ 32)
    (all : AreAll f (map (λ r. (peer r).endpoint.port) rs)) (count : length ws ≡ length rs)
    (each : Paired (λ r w. (past_with (held w) (unseated w) (peer r).endpoint.port ≡ past_at (peer r)) × IsOpen (seen_ring (peer r).endpoint) × IsCounted (living_with (held w) (unseated w))) rs ws) (gathered : Gathered (map (λ r. (peer r).endpoint.port) rs) plains)
    (merge : merges (map moves_of (map (λ r. (peer r).endpoint.port) rs)) ≡ true) (law_holds : AreGathered (map (λ r. past_at (peer r)) rs) → AreTogether (map (λ r. past_at (peer r)) rs)) where
  -- what the peers did, and their ports
  abbrev pub pasts : List Past
  pasts = map (λ r. past_at (peer r)) rs

  abbrev pub ports : List RingPort
  ports = map (λ r. (peer r).endpoint.port) rs

  many : length pasts ≡ length ports
  many = length-map rs (λ r. past_at (peer r)) ∙ sym (length-map rs (λ r. (peer r).endpoint.port))

  told_all : Paired Tells pasts ports
  told_all k x p hx hp =
      let m = from_one (λ r. past_at (peer r)) (λ r. (peer r).endpoint.port) rs k x p hx hp in
      subst (λ (z : Past). Tells z p) m.2 (subst (λ (z : RingPort). Tells (past_at (peer m.0)) z) m.3 (record { moves = refl; outs = λ d. refl; ins = λ s. refl }))

  -- the endpoint was open when its port was parted from it
  open_at : (k : ℕ) (r : X) → slice_get rs k ≡ Some r → IsOpen (seen_ring (peer r).endpoint)
  open_at k r has = let w = member ws k (omega (arith, slice_get_within rs k r has, count)) in (each k r w.0 has w.1).1

  items_all : (k : ℕ) (x : Past) → slice_get pasts k ≡ Some x → AreItems x.living.held
  items_all k x has = let m = mapped (λ r. past_at (peer r)) rs k x has in subst (λ (z : Past). AreItems z.living.held) m.2 (open_at k m.0 m.1).items

  counted_all : (k : ℕ) (x : Past) → slice_get pasts k ≡ Some x → IsCounted x.living
  counted_all k x has =
      let m = mapped (λ r. past_at (peer r)) rs k x has in
      let w = member ws k (omega (arith, slice_get_within rs k m.0 m.1, count)) in
      let e = each k m.0 w.0 m.1 w.1 in
      subst (λ (z : Past). IsCounted z.living) (e.0 ∙ m.2) e.2

  same_moves : map told_moves pasts ≡ map moves_of ports
  same_moves = map-map told_moves (λ r. past_at (peer r)) rs ∙ sym (map-map moves_of (λ r. (peer r).endpoint.port) rs)

  pub gathered_here : AreGathered pasts
  gathered_here = are_gathered f ports plains pasts all many told_all gathered items_all same_moves merge

  together : AreTogether pasts
  together = law_holds gathered_here

  -- what is known of the peer that was parted at this place
  parted_at : (k : ℕ) (w : W) → slice_get ws k ≡ Some w → (r : X) × (slice_get rs k ≡ Some r) × (past_with (held w) (unseated w) (peer r).endpoint.port ≡ past_at (peer r))
  parted_at k w has =
      let r = member rs k (omega (arith, slice_get_within ws k w has, count)) in
      (r.0, r.1, (each k r.0 w r.1 has).0)

  past_there : (k : ℕ) (r : X) → slice_get rs k ≡ Some r → slice_get pasts k ≡ Some (past_at (peer r))
  past_there k r has = slice_get-map (λ r. past_at (peer r)) rs k ∙ ap (option_map (λ r. past_at (peer r))) has

  pub tied_here : (log_size : ℕ) → 4 ≤ log_size → Paired (λ q w. IsTied (seen_plain (anew q (held w) log_size))) plains ws
  tied_here log_size most k q w hq hw =
      let (r, hr, is) = parted_at k w hw in
      let opened = open_at k r hr in
      let port : slice_get ports k ≡ Some ((peer r).endpoint.port) = slice_get-map (λ r. (peer r).endpoint.port) rs k ∙ ap (option_map (λ r. (peer r).endpoint.port)) hr in
      let peers = peers_all f ports plains pasts all many told_all gathered k (peer r).endpoint.port port in
      let same : held w ≡ (peer r).endpoint.held = ap (λ (z : Past). z.living.held) is in
      subst (λ (h : Held). IsTied (seen_plain (anew q h log_size))) (sym same)
      (ties f ports plains pasts all many told_all gathered together k log_size (past_at (peer r)) q (past_there k r hr) hq most (opened.places ∙ peers) opened.out opened.items opened.pledged)

  -- ---- seated

  module _ (ps : List Member) (ports_are : map (λ (p : Member). p.endpoint.port) ps ≡ plains) (seated : Paired (λ w p. Seated (living_with (held w) (unseated w)) (unseated w).schedule.items p) ws ps) where
    long : length ps ≡ length ports
    long = sym (length-map ps (λ (p : Member). p.endpoint.port)) ∙ ap length ports_are ∙ gathered.count

    seated_here : (k : ℕ) (x : Past) (p : Member) → slice_get pasts k ≡ Some x → slice_get ps k ≡ Some p → Seated x.living x.steps p
    seated_here k x p hx hp =
        let m = mapped (λ r. past_at (peer r)) rs k x hx in
        let w = member ws k (omega (arith, slice_get_within rs k m.0 m.1, count)) in
        let is : past_with (held w.0) (unseated w.0) (peer m.0).endpoint.port ≡ x = (each k m.0 w.0 m.1 w.1).0 ∙ m.2 in
        subst (λ (z : Past). Seated z.living z.steps p) is (seated k w.0 p w.1 hp)

    follows : (k : ℕ) (x : Past) (q : Plain) (p : Member) → slice_get pasts k ≡ Some x → slice_get plains k ≡ Some q → slice_get ps k ≡ Some p → Follows x q p
    follows k x q p hx hq hp =
        let there : Some p.endpoint.port ≡ Some q = sym (slice_get-map (λ (z : Member). z.endpoint.port) ps k ∙ ap (option_map (λ (z : Member). z.endpoint.port)) hp) ∙ ap (λ (zs : List Plain). slice_get zs k) ports_are ∙ hq in
        record { seated = seated_here k x p hx hp; port = cc }

    pub joined_here : IsJoined ps
    joined_here =
        joined f ports plains pasts all many told_all gathered together ps (omega (arith, few, length-map rs (λ r. (peer r).endpoint.port))) long follows counted_all

    pub actors_here : actors ps ≡ law.actors pasts
    actors_here = actors_follow pasts ps (long ∙ sym many) seated_here

    pub schedules_here : schedules ps ≡ law.schedules pasts
    schedules_here = schedules_follow pasts ps (long ∙ sym many) seated_here

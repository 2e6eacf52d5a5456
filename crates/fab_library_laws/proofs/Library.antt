-- The premises of the law of doings are what the contracts of the library say.
use Rattle.std.proofs.Common.{◌≡◌, ◌<◌, ◌≤◌, ℕ, Bool, true, List, [], ◌++◌, length, map, replicate, get_or, Some, None, refl, sym, ap, ◌∙◌, subst, arith}
use Rattle.std.specs.Prelude.{slice_get}
use Rattle.std.proofs.lemmas.List.{length-map}
use Rattle.std.proofs.lemmas.List.Elements.{All-get_or}
use Rattle.std.proofs.lemmas.Option.{get_or_from_slice_get, slice_get-map, slice_get_within}
use Rattle.std.proofs.lemmas.Simd.{map-map}
use Rattle.std.specs.Option.{option_map}
use mathlib.Core.List.{IsPrefix}
use Rattle.fab_base.specs.declared.caps.Info.{Info}
use Rattle.fab_base.specs.declared.script.Conf.{Conf}
use Rattle.fab_link.specs.declared.moves.Move.{Move}
use Rattle.fab_link.specs.Merged.{merges}
use Rattle.fab_link.specs.Meaning.{AreFresh}
use Rattle.fab_link.specs.Plain.{lane_at}
use Rattle.fab_model.specs.Calls.{upto}
use Rattle.fab_model.specs.Replay.{fresh}
use Rattle.fab_laws.specs.Programs.{Opening, Peer, Starts, peer}
use Rattle.fab_laws.proofs.Scripts.{starts}
use Rattle.fab_table.specs.declared.lane_table.LaneTable.{LaneTable}
use Rattle.fab_face.specs.Acts.{MovedBy, posted_to, taken_of, ways_of}
use Rattle.fab_face.specs.Held.{AreItems, Held}
use Rattle.fab_ep.specs.Value.{Whole}
use Rattle.fab_ring.specs.declared.port.RingPort.{RingPort}
use Rattle.fab_ring.specs.Ports.{in_of, moves_of, out_of, peers_of}
use Rattle.fab_ring.proofs.Nobody.{nobody_taken}
use Rattle.fab_domain.specs.Domain.{AreOpened, IsOpened, port_of}
use Rattle.fab_domain.specs.Seen.{ring_seen}
use Rattle.fab_merging.specs.Law.{IsFresh, told_moves}
use Rattle.fab_merging.specs.Pasts.{begun}
use Rattle.fab_merging.proofs.Lists.{member}
use Rattle.fab_merging.proofs.Opening.{lanes_of}
use Rattle.fab_finish.proofs.Resting.{mapped}
use Rattle.fab_doings.specs.Doings.{Living, acts_of}
use Rattle.fab_doings.specs.Law.{AreTold, Kept, Past, ProgramObeys}
use Rattle.fab_doings.proofs.Opening.{starting_fresh}
use Rattle.fab_library_laws.specs.Library.{AreUsed, IsLibraryRun, LibraryObeys, Thread, opening_of, past_of, ports_of, untouched}

-- of a list that is mapped
length_same : {X Y Z W : Type 0} (f : X → Y) (g : Z → W) (xs : List X) (zs : List Z) → length zs ≡ length xs → length (map g zs) ≡ length (map f xs)
length_same f g xs zs same = length-map zs g ∙ same ∙ sym (length-map xs f)

-- ---- a thread's record, from the opening on

module _ (info : Info) (selective : Bool) (all : List (Whole RingPort)) (threads : List Thread) (opened : AreOpened info selective all)
    (keeps : (p : ℕ) (e : Whole RingPort) (t : Thread) → slice_get all p ≡ Some e → slice_get threads p ≡ Some t → Kept (past_of (untouched e)) (past_of t)) where
  -- the port that an endpoint was opened over moved nothing
  new_port : (p : ℕ) (e : Whole RingPort) → slice_get all p ≡ Some e → (moves_of e.port ≡ []) × ((d : ℕ) → AreFresh (out_of e.port d) (in_of e.port d))
  new_port p e has = opened.lanes.1.fresh p e.port (slice_get-map port_of all p ∙ ap (option_map port_of) has)

  pub since : (p : ℕ) (e : Whole RingPort) (t : Thread) → slice_get all p ≡ Some e → slice_get threads p ≡ Some t → Kept (begun (opening_of e)) (past_of t)
  unfolding ring_seen
  since p e t he ht =
      let kept = keeps p e t he ht in
      let new = new_port p e he in (
        kept.0,
        record {
          lives = kept.1.lives;
          doings = kept.1.doings;
          moves = subst (λ (ms : List Move). MovedBy (Some ms) (past_of t).moves (ways_of (acts_of kept.0))) new.0 kept.1.moves;
          outs = λ d. kept.1.outs d ∙ ap (λ fs. fs ++ posted_to d (acts_of kept.0)) (new.1 d).frames;
          ins = λ s. kept.1.ins s ∙ ap (λ fs. fs ++ taken_of s (acts_of kept.0)) (new.1 s).taken;
        },
      )

module _ (info : Info) (selective : Bool) (all : List (Whole RingPort)) (threads : List Thread) (used : AreUsed info selective all threads) where
  abbrev conf : Conf
  conf = record { hints = None; info = info; peers = info.peers; selective = selective }

  -- what each endpoint holds at the opening
  abbrev start : Held
  start = record { state = fresh conf; places = replicate info.peers 0; begun = replicate info.peers None; multis = [] }

  opened_at : (p : ℕ) (e : Whole RingPort) → slice_get all p ≡ Some e → e.held ≡ start
  opened_at p e has =
      let each : IsOpened info selective (get_or all p e) = All-get_or (IsOpened info selective) all p e (slice_get_within all p e has) used.opened.opened in
      let is : IsOpened info selective e = subst (IsOpened info selective) (get_or_from_slice_get all p e e has) each in
      ap (λ (x : Whole RingPort). x.held) is

  all_count : length all ≡ info.peers
  all_count = sym (length-map all port_of) ∙ used.opened.lanes.1.count

  -- ---- the start

  abbrev peer_of : Whole RingPort → Peer
  peer_of e = peer e.held.state

  starts_at : (p : ℕ) (a : Peer) → slice_get (map peer_of all) p ≡ Some a → Starts (length (map peer_of all)) a.state
  starts_at p a at =
      let m = mapped peer_of all p a at in
      let n : length (map peer_of all) ≡ info.peers = length-map all peer_of ∙ all_count in
      let below : p < length (map peer_of all) = (let lt = slice_get_within all p m.0 m.1 in omega (arith, lt, length-map all peer_of)) in
      subst (λ (b : Peer). Starts (length (map peer_of all)) b.state) m.2
      (subst (λ (h : Held). Starts (length (map peer_of all)) h.state) (sym (opened_at p m.0 m.1)) (starts conf (length (map peer_of all)) p n below))

  from : Opening
  from = record { peers = map peer_of all; fresh = starts_at }

  -- ---- each endpoint alone

  opening_fresh : (p : ℕ) (o : Living) → slice_get (map opening_of all) p ≡ Some o → IsFresh o.held
  opening_fresh p o at =
      let m = mapped opening_of all p o at in
      subst (λ (x : Living). IsFresh x.held) m.2 (subst IsFresh (sym (opened_at p m.0 m.1)) (starting_fresh conf (map Some (upto info.peers))))

  kept_all : (p : ℕ) (o : Living) (x : Past) → slice_get (map opening_of all) p ≡ Some o → slice_get (map past_of threads) p ≡ Some x → Kept (begun o) x
  kept_all p o x ho hx =
      let m = mapped opening_of all p o ho in
      let n = mapped past_of threads p x hx in
      subst (λ (l : Living). Kept (begun l) x) m.2 (subst (λ (y : Past). Kept (begun (opening_of m.0)) y) n.2 (since info selective all threads used.opened used.kept p m.0 n.0 m.1 n.1))

  items_all : (p : ℕ) (x : Past) → slice_get (map past_of threads) p ≡ Some x → AreItems x.living.held
  unfolding ring_seen
  items_all p x hx =
      let n = mapped past_of threads p x hx in
      subst (λ (y : Past). AreItems y.living.held) n.2 (used.known p n.0 n.1).items

  -- ---- all ports

  abbrev port_in : Thread → RingPort
  port_in t = port_of t.endpoint

  port_at : (k : ℕ) (t : Thread) → slice_get threads k ≡ Some t → slice_get (ports_of threads) k ≡ Some (port_in t)
  port_at k t has = slice_get-map port_in threads k ∙ ap (option_map port_in) has

  ports_count : length (ports_of threads) ≡ length threads
  ports_count = length-map threads port_in

  merged_all : merges (map told_moves (map past_of threads)) ≡ true
  unfolding ring_seen
  merged_all = ap merges (map-map told_moves past_of threads ∙ sym (map-map moves_of port_in threads)) ∙ used.merged

  each_lane : (s d : ℕ) (x y : Past) → slice_get (map past_of threads) s ≡ Some x → slice_get (map past_of threads) d ≡ Some y → IsPrefix (y.ins s) (x.outs d)
  unfolding ring_seen
  each_lane s d x y hs hd =
      let a = mapped past_of threads s x hs in
      let b = mapped past_of threads d y hd in
      let count = used.gathered.count in
      let q = member used.plain d (let lt = slice_get_within threads d b.0 b.1 in omega (arith, lt, count, ports_count)) in
      let whole = used.gathered.inside s d (port_in a.0) (port_in b.0) q.0 (port_at s a.0 a.1) (port_at d b.0 b.1) q.1 in
      subst (λ (z : Past). IsPrefix (y.ins s) (z.outs d)) a.2 (subst (λ (z : Past). IsPrefix (z.ins s) ((past_of a.0).outs d)) b.2 ((lane_at q.0 s).in_list, sym whole))

  nobody_in : (d s : ℕ) (y : Past) → slice_get (map past_of threads) d ≡ Some y → length (map past_of threads) ≤ s → y.ins s ≡ []
  unfolding ring_seen
  nobody_in d s y hd past =
      let b = mapped past_of threads d y hd in
      let at = port_at d b.0 b.1 in
      let many : peers_of (port_in b.0) ≡ length (ports_of threads) = ap (λ (f : LaneTable). f.peers) (used.ports.tables d (port_in b.0) at) ∙ sym used.ports.count in
      subst (λ (z : Past). z.ins s ≡ []) b.2 (nobody_taken (port_in b.0) s (omega (arith, past, many, ports_count, length-map threads past_of)))

  told : AreTold (map opening_of all) (map past_of threads)
  told = record {
    count = length_same opening_of past_of all threads used.count;
    fresh = opening_fresh;
    acted = kept_all;
    items = items_all;
    merge = merged_all;
    lanes = lanes_of (map past_of threads) each_lane nobody_in;
  }

  library_run : ProgramObeys → IsLibraryRun all threads
  unfolding from
  library_run obeys = record {
    from = from;
    starts = refl;
    run = obeys from (map opening_of all) (map past_of threads) (map-map (λ (o : Living). peer o.held.state) opening_of all) told;
  }

pub library_obeys : ProgramObeys → LibraryObeys
library_obeys obeys info selective all threads used = library_run info selective all threads used obeys

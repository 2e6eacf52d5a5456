-- What is known of all peers once their ports are gathered.
use Rattle.std.proofs.Common.{◌≡◌, ◌<◌, ◌≤◌, ℕ, zero, suc, true, List, [], ◌∷◌, ◌++◌, length, map, Option, Some, None, refl, sym, ap, ◌∙◌, arith}
use Rattle.std.specs.Prelude.{slice_get}
use mathlib.Core.List.{IsPrefix}
use Rattle.std.proofs.lemmas.Option.{slice_get_within}
use Rattle.fab_base.specs.declared.frames.Frame.{Frame}
use Rattle.fab_link.specs.Merged.{merges}
use Rattle.fab_link.specs.Plain.{Plain, lane_at}
use Rattle.fab_table.specs.declared.lane_table.LaneTable.{LaneTable}
use Rattle.fab_ring.specs.declared.port.RingPort.{RingPort}
use Rattle.fab_ring.specs.Ports.{peers_of, moves_of, in_of}
use Rattle.fab_ring.specs.Gather.{AreAll, Gathered}
use Rattle.fab_ring.proofs.Nobody.{nobody_taken}
use Rattle.fab_face.specs.Held.{AreItems}
use Rattle.fab_merging.specs.Pasts.{Past}
use Rattle.fab_merging.specs.Law.{told_moves, outs_at, ins_at}
use Rattle.fab_merging.proofs.Lists.{outs_is, ins_is}
use Rattle.fab_rounds.specs.Opened.{AreGathered}
use Rattle.fab_finish.proofs.Joining.{member, none_past}
use Rattle.fab_rounds.specs.Phases.{Paired, Tells}

pub ins_none : (pasts : List Past) (p s : ℕ) → slice_get pasts p ≡ None → ins_at pasts p s ≡ []
ins_none [] p s e = refl
ins_none (x ∷ pasts) zero s e = absurd (cc)
ins_none (x ∷ pasts) (suc p) s e = ins_none pasts p s e

module _ (f : LaneTable) (ports : List RingPort) (plain : List Plain) (pasts : List Past) (all : AreAll f ports) (many : length pasts ≡ length ports) (told : Paired Tells pasts ports) (gathered : Gathered ports plain) where
  -- the port of a peer that is there
  pub port_at : (k : ℕ) (x : Past) → slice_get pasts k ≡ Some x → (p : RingPort) × (slice_get ports k ≡ Some p) × Tells x p
  port_at k x has =
      let below : k < length ports = omega (arith, slice_get_within pasts k x has, many) in
      let p = member ports k below in
      (p.0, p.1, told k x p.0 has p.1)

  pub plain_at : (k : ℕ) (p : RingPort) → slice_get ports k ≡ Some p → (q : Plain) × (slice_get plain k ≡ Some q)
  plain_at k p has = let count = gathered.count in member plain k (omega (arith, slice_get_within ports k p has, count))

  pub peers_all : (k : ℕ) (p : RingPort) → slice_get ports k ≡ Some p → peers_of p ≡ length ports
  peers_all k p has = ap (λ (t : LaneTable). t.peers) (all.tables k p has) ∙ sym all.count

  -- what was taken of a peer, and what is on its way from it, is what it posted
  pub lane_whole : (s r : ℕ) (x y : Past) (q : Plain) → slice_get pasts s ≡ Some x → slice_get pasts r ≡ Some y → slice_get plain r ≡ Some q → x.outs r ≡ y.ins s ++ (lane_at q s).in_list
  lane_whole s r x y q hs hr hq =
      let a = port_at s x hs in
      let b = port_at r y hr in
      a.2.outs r ∙ gathered.inside s r a.0 b.0 q a.1 b.1 hq ∙ ap (λ fs. fs ++ (lane_at q s).in_list) (sym (b.2.ins s))

  pub nobody_in : (s r : ℕ) (y : Past) → slice_get pasts r ≡ Some y → slice_get pasts s ≡ None → y.ins s ≡ []
  nobody_in s r y hr none =
      let b = port_at r y hr in
      b.2.ins s ∙ nobody_taken b.0 s (let n = peers_all r b.0 b.1 in omega (arith, n, none_past pasts s none, many))

  lanes_first : (s d : ℕ) → IsPrefix (ins_at pasts d s) (outs_at pasts s d)
  lanes_first s d = by_reader (slice_get pasts d) refl
    where
      nothing_first : (xs ys : List Frame) → xs ≡ [] → IsPrefix xs ys
      nothing_first xs ys e = (ys, ap (λ zs. zs ++ ys) e)

      by_sender : (y : Past) → slice_get pasts d ≡ Some y → (o : Option Past) → slice_get pasts s ≡ o → IsPrefix (ins_at pasts d s) (outs_at pasts s d)
      by_sender y hr None none = nothing_first _ _ (ins_is pasts d s y hr ∙ nobody_in s d y hr none)
      by_sender y hr (Some x) hs =
          let b = port_at d y hr in
          let q = plain_at d b.0 b.1 in
          ((lane_at q.0 s).in_list, ap (λ fs. fs ++ (lane_at q.0 s).in_list) (ins_is pasts d s y hr) ∙ sym (lane_whole s d x y q.0 hs hr q.1) ∙ sym (outs_is pasts s d x hs))

      by_reader : (o : Option Past) → slice_get pasts d ≡ o → IsPrefix (ins_at pasts d s) (outs_at pasts s d)
      by_reader None none = nothing_first _ _ (ins_none pasts d s none)
      by_reader (Some y) hr = by_sender y hr (slice_get pasts s) refl

  pub are_gathered : ((k : ℕ) (x : Past) → slice_get pasts k ≡ Some x → AreItems x.living.held) → map told_moves pasts ≡ map moves_of ports → merges (map moves_of ports) ≡ true → AreGathered pasts
  are_gathered items same merge = record { items = items; merge = ap merges same ∙ merge; lanes = lanes_first }

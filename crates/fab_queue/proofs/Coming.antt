-- What was inside the lanes is what comes to plain ports, and the moves of all ports merge.
use Rattle.std.proofs.Common.{◌≡◌, ℕ, zero, suc, ◌+◌, ◌<◌, ◌≤◌, true, List, [], ◌∷◌, ◌++◌, map, length, get_or, sym, refl, ap, ◌∙◌, subst, arith}
use mathlib.Core.List.{IsPrefix, map-append}
use native.Mathlib.Decide.{dec_le}
use Rattle.std.specs.Prelude.{Option, Some, slice_get, Vec, vec_capacity}
use Rattle.std.proofs.lemmas.List.{length-map}
use Rattle.std.proofs.lemmas.List.Elements.{All-from_get_or}
use Rattle.std.specs.declared.alloc.Global.{Global}
use Rattle.std.proofs.Math.ListN.{get_or-eq_default}
use Rattle.std.proofs.lemmas.Option.{none-some, same_Some, slice_get_within}
use Rattle.fab_base.specs.declared.frames.FrameHead.{FrameHead}
use Rattle.fab_base.specs.declared.frames.Frame.{Frame}
use Rattle.fab_base.proofs.Lists.{get_some as there_is}
use Rattle.fab_link.specs.declared.moves.Move.{Move}
use Rattle.fab_link.specs.Merged.{IsStamped, posts_to, takes_of, merges}
use Rattle.fab_link.proofs.Merging.{stamped_merge}
use Rattle.fab_link.specs.Meaning.{AreFresh}
use Rattle.fab_link.specs.Plain as plain
use Rattle.fab_link.specs.Plain.{Plain, lane_at, fresh_lane}
use Rattle.fab_queue.specs.Lanes.{frame_of, frames_of}
use Rattle.fab_queue.specs.Ends.{Out, In, new_in}
use Rattle.fab_queue.specs.Ports.{Queued, no_lane, out_at, in_at, number, moves_of, IsSound}
use Rattle.fab_queue.specs.Laid.{row, column, out_in, in_in}
use Rattle.fab_queue.specs.Gather.{AreAll, GoesOn, Gathered, taken_end_of, Succeeds, AreSuccessors, AreAllRooms, AreApart, Drained, ReceivesAll, ReceivedAll}

moves_at : (ports : List Queued) (k : ℕ) (p : Queued) → slice_get ports k ≡ Some p → get_or (map moves_of ports) k [] ≡ moves_of p
moves_at [] k p e = absurd (none-some p e)
moves_at (x ∷ xs) zero p e = ap moves_of (same_Some x p e)
moves_at (x ∷ xs) (suc k) p e = moves_at xs k p e

moves_past : (ports : List Queued) (k : ℕ) → length ports ≤ k → get_or (map moves_of ports) k [] ≡ []
moves_past [] k far = refl
moves_past (x ∷ xs) zero far = absurd (omega arith)
moves_past (x ∷ xs) (suc k) far = moves_past xs k (omega arith)

fresh_with : (a c : Option FrameHead) (fs : List Frame) → AreFresh (plain.outgoing (record (fresh_lane a c) { in_list = fs })) (plain.incoming (record (fresh_lane a c) { in_list = fs }))
fresh_with a c fs = record { frames = refl; lane_full_seen = refl; pool_full_seen = refl; taken = refl; lent = refl; empty_seen = refl }

pub few_ports : (ports : List Queued) (plain : List Plain) → AreAll ports → AreSuccessors ports plain → length ports < 4294967296
few_ports ports plain all succ = let p = there_is ports 0 all.some in let q = there_is plain 0 (subst (λ (n : ℕ). 0 < n) (sym succ.count) all.some) in
    subst (λ (n : ℕ). n < 4294967296) (all.sizes 0 p.0 p.1) (succ.each 0 p.0 q.0 p.1 q.1).1.few

module _ (ports : List Queued) (before after : List Plain) (rooms : List (Vec (Vec Frame Global) Global)) (outs : List (Vec Out Global)) (ins : List (Vec In Global)) (all : AreAll ports) (succ : AreSuccessors ports before) (apart : AreApart ports outs ins 0) where
  low : (k : ℕ) (p : Queued) → slice_get ports k ≡ Some p → k < length ports
  low k p here = slice_get_within ports k p here

  -- the plain port of a port
  plain_at : (k : ℕ) (p : Queued) → slice_get ports k ≡ Some p → (q : Plain) × (slice_get before k ≡ Some q) × Succeeds p q × IsSound p
  plain_at k p here = let there = there_is before k (subst (λ (n : ℕ). k < n) (sym succ.count) (low k p here)) in let both = succ.each k p there.0 here there.1 in (there.0, there.1, both.0, both.1)

  row_is : (k : ℕ) (p : Queued) → slice_get ports k ≡ Some p → row outs k ≡ p.outs
  row_is k p here = (apart.each k p (omega arith) here).0

  column_is : (k : ℕ) (p : Queued) → slice_get ports k ≡ Some p → column ins k ≡ p.ins
  column_is k p here = (apart.each k p (omega arith) here).1

  long_row : (k : ℕ) (p : Queued) → slice_get ports k ≡ Some p → length (row outs k) ≡ length ports
  long_row k p here = ap length (row_is k p here) ∙ all.sizes k p here

  long_column : (k : ℕ) (p : Queued) → slice_get ports k ≡ Some p → length (column ins k) ≡ length ports
  long_column k p here = ap length (column_is k p here) ∙ (plain_at k p here).3.all_ins ∙ all.sizes k p here

  pub receives : AreAllRooms ports rooms → ReceivesAll outs ins rooms before
  receives room = record {
    rooms_count = room.count ∙ sym apart.ins_count;
    ports_count = succ.count ∙ sym apart.ins_count;
    each = λ r w q room_at plain_at_r.
        let near : r < length ports = subst (λ (n : ℕ). r < n) succ.count (slice_get_within before r q plain_at_r) in
        let port = there_is ports r near in
        let p = port.0 in
        let here = port.1 in
        let both = succ.each r p q here plain_at_r in
        let number : q.number ≡ r = both.0.goes_on.number ∙ all.numbers r p here in
        let own = room.each r p w here room_at in
        let count = long_column r p here in
        let source : (s : ℕ) → s < length (column ins r) → (a : Queued) × (slice_get ports s ≡ Some a) = (λ s l. there_is ports s (subst (λ (n : ℕ). s < n) count l)) in record {
          sources = apart.outs_count ∙ sym count;
          rooms_count = own.count ∙ sym count;
          lanes_count = both.0.goes_on.peers ∙ all.sizes r p here ∙ sym count;
          few = subst (λ (n : ℕ). n < 4294967296) (all.sizes r p here ∙ sym count) both.1.few;
          below = λ s l. let a = source s l in subst (λ (z : ℕ × ℕ). z.0 < z.1) (λ i. (sym number i, sym (long_row s a.0 a.1) i)) near;
          joined = λ s l. let a = source s l in
              (λ i. (out_in (row_is s a.0 a.1 i) (number i)).lane) ∙ all.joined s r a.0 p a.1 here ∙ (λ i. (in_in (sym (column_is r p here) i) s).lane);
          room = λ s v at. let a = there_is ports s (subst (λ (n : ℕ). s < n) own.count (slice_get_within w.items s v at)) in let fits = own.each s a.0 v a.1 at in
              (fits.0, subst (λ (z : List Out × ℕ). (out_in z.0 z.1).room + 1 ≤ vec_capacity v) (λ i. (sym (row_is s a.0 a.1) i, sym both.0.goes_on.number i)) fits.1);
          none = λ s l. ap (λ (z : plain.Lane). z.in_list) (both.0.lanes s);
          after = λ s l. both.0.goes_on.in_after s ∙ ap (λ (z : List In). taken_end_of (in_in z s)) (sym (column_is r p here));
        };
  }

  -- nothing is taken of a peer that is none
  no_takes : (s d : ℕ) (b : Queued) → slice_get ports d ≡ Some b → length ports ≤ s → takes_of s (moves_of b) ≡ []
  no_takes s d b at_d far = let sound = (plain_at d b at_d).3 in
      sound.takes s ∙ ap (λ (z : In). map number z.taken) (get_or-eq_default b.ins (new_in no_lane) (subst (λ (n : ℕ). n ≤ s) (sym (sound.all_ins ∙ all.sizes d b at_d)) far))

  module _ (got : ReceivedAll outs ins before after) where
    -- what was inside the lane from s to r
    drained : (s r : ℕ) (a b : Queued) (q : Plain) → slice_get ports s ≡ Some a → slice_get ports r ≡ Some b → slice_get after r ≡ Some q → Drained (out_at a r) (in_at b s) (lane_at q s).in_list
    drained s r a b q at_s at_r at_q = let old = plain_at r b at_r in let one = got.each r old.0 q old.1 at_q in let number : old.0.number ≡ r = old.2.goes_on.number ∙ all.numbers r b at_r in
        subst (λ (z : Out × In). Drained z.0 z.1 (lane_at q s).in_list) (λ i. (out_in (row_is s a at_s i) (number i), in_in (column_is r b at_r i) s)) (one.each s (subst (λ (n : ℕ). s < n) (sym (long_column r b at_r)) (low s a at_s)))

    -- the lanes of the plain port hold what came, and nothing else
    lane_now : (r : ℕ) (b : Queued) (old q : Plain) → slice_get ports r ≡ Some b → slice_get before r ≡ Some old → slice_get after r ≡ Some q → (d : ℕ)
        → lane_at q d ≡ record (fresh_lane (lane_at old d).out.after (lane_at old d).in_after) { in_list = (lane_at q d).in_list }
    lane_now r b old q at_r at_old at_q d = (got.each r old q at_old at_q).same d ∙ ap (λ (z : plain.Lane). record z { in_list = (lane_at q d).in_list }) ((succ.each r b old at_r at_old).0.lanes d)

    goes_on : (r : ℕ) (b : Queued) (q : Plain) → slice_get ports r ≡ Some b → slice_get after r ≡ Some q → GoesOn b q
    goes_on r b q at_r at_q = let old = plain_at r b at_r in let one = got.each r old.0 q old.1 at_q in let now = lane_now r b old.0 q at_r old.1 at_q in let was = old.2.goes_on in record {
      number = one.number ∙ was.number;
      peers = one.count ∙ was.peers;
      fresh = λ d. subst (λ (z : plain.Lane). AreFresh (plain.outgoing z) (plain.incoming z)) (sym (now d)) (fresh_with (lane_at old.0 d).out.after (lane_at old.0 d).in_after (lane_at q d).in_list);
      out_after = λ d. ap (λ (z : plain.Lane). z.out.after) (now d) ∙ was.out_after d;
      in_after = λ s. ap (λ (z : plain.Lane). z.in_after) (now s) ∙ was.in_after s;
    }

    pub gathered : Gathered ports after
    gathered = record {
      count = got.count ∙ succ.count;
      goes_on = goes_on;
      unmoved = λ r q at_q d. let port = there_is ports r (subst (λ (n : ℕ). r < n) (got.count ∙ succ.count) (slice_get_within after r q at_q)) in let old = plain_at r port.0 port.1 in
          ap (λ (z : plain.Lane). z.moved) (lane_now r port.0 old.0 q port.1 old.1 at_q d);
      inside = λ s r a b q at_s at_r at_q. let one = drained s r a b q at_s at_r at_q in
          ap frames_of one.posted ∙ map-append frame_of (in_at b s).taken one.xs ∙ ap (λ (l : List Frame). frames_of (in_at b s).taken ++ l) (sym one.came_is);
    }

    fed : (s d : ℕ) (a b : Queued) → slice_get ports s ≡ Some a → slice_get ports d ≡ Some b → IsPrefix (takes_of s (moves_of b)) (posts_to d (moves_of a))
    fed s d a b at_s at_d =
        let q = there_is after d (subst (λ (n : ℕ). d < n) (sym (got.count ∙ succ.count)) (low d b at_d)) in
        let one = drained s d a b q.0 at_s at_d q.1 in (
          map number one.xs,
          ap (λ (l : List ℕ). l ++ map number one.xs) ((plain_at d b at_d).3.takes s) ∙ sym (map-append number (in_at b s).taken one.xs) ∙ ap (map number) (sym one.posted) ∙ sym ((plain_at s a at_s).3.posts d),
        )

    pub merged : merges (map moves_of ports) ≡ true
    merged = stamped_merge (map moves_of ports)
        (All-from_get_or IsStamped (map moves_of ports) [] (λ k near. let p = there_is ports k (subst (λ (n : ℕ). k < n) (length-map ports moves_of) near) in subst IsStamped (sym (moves_at ports k p.0 p.1)) (plain_at k p.0 p.1).3.stamped))
        (λ s d. elim (dec_le (length ports) d) [
          | Prim.yes far ↦ subst (λ (z : List Move). IsPrefix (takes_of s z) (posts_to d (get_or (map moves_of ports) s []))) (sym (moves_past ports d far)) (posts_to d (get_or (map moves_of ports) s []), refl)
          | Prim.no near ↦ let b = there_is ports d (omega (arith, near)) in elim (dec_le (length ports) s) [
            | Prim.yes far ↦ let none = no_takes s d b.0 b.1 far in
                subst (λ (z : List Move). IsPrefix (takes_of s z) (posts_to d (get_or (map moves_of ports) s []))) (sym (moves_at ports d b.0 b.1)) (subst (λ (z : List ℕ). IsPrefix z (posts_to d (get_or (map moves_of ports) s []))) (sym none) (posts_to d (get_or (map moves_of ports) s []), refl))
            | Prim.no near_s ↦ let a = there_is ports s (omega (arith, near_s)) in
                subst (λ (z : List Move × List Move). IsPrefix (takes_of s z.0) (posts_to d z.1)) (λ i. (sym (moves_at ports d b.0 b.1) i, sym (moves_at ports s a.0 a.1) i)) (fed s d a.0 b.0 a.1 b.1)
          ]
        ])

use Rattle.std.proofs.Common.{ℕ, ◌≡◌, ◌<◌, ◌≤◌, ◌*◌, take, ⊎_elim, inl, inr, List, length, drop, sym, ap, ◌∙◌, subst, arith}
use mathlib.Core.List.{IsPrefix}
use Rattle.std.specs.Prelude.{slice_index}
use Rattle.std.proofs.lemmas.List.{take-append-drop, length-take-le}
use lib.ListN.{get_elem?}
use Rattle.atomic_table.specs.Table.{State}
use Rattle.fab_table.specs.declared.kinds.Layout.{Layout}
use Rattle.fab_table.specs.declared.kinds.Sent.{Sent}
use Rattle.fab_table.specs.declared.kinds.Slot.{Slot}
use Rattle.fab_table.specs.declared.kinds.Part.{Part}
use Rattle.fab_table.specs.declared.kinds.View.{View}
use Rattle.fab_table.specs.Views.{part_at, out_at, in_at, lane_of, pool_word, pool_home}
use Rattle.fab_table.specs.Rule.{Lane, Place, free, claimed, sent, PlaceOk, Ruled}
use Rattle.fab_table.specs.Moments.{Owns, SlotStands}
use Rattle.fab_table.proofs.Rows.{lane_below}
use Rattle.fab_table.proofs.laws.law_lane_rule.Goals as goal

pub returns-clause-counts : goal.returns-clause-counts
returns-clause-counts c k t r l near = let ok = r.each_lane l near in let put_is = ok.put_is in let got_is = ok.got_is in let behind = ok.behind in let within = ok.within in (omega arith, omega arith)

pub returns-clause-inside : goal.returns-clause-inside
returns-clause-inside c k t r l j x near le at = let ok = r.each_lane l near in
    ⊎_elim (λ o. inl (o.0 ∙ sym ok.got_is, o.1)) (λ o. inr o) (ok.filled j x (let got_is = ok.got_is in omega (arith, le, got_is)) at)

pub returns-clause-outside : goal.returns-clause-outside
returns-clause-outside c k t r l j near le lt = let ok = r.each_lane l near in
    ⊎_elim (λ o. inl (o.0 ∙ sym ok.put_is, o.1)) (λ o. inr o) (ok.free j (let put_is = ok.put_is in omega (arith, le, put_is)) (let got_is = ok.got_is in omega (arith, lt, got_is)))

slot_stands : (k : Layout) (t : State Slot View) (r : Ruled k t) (q : ℕ) (place : Place) → PlaceOk k.peers r.lane q (slice_index t.words (pool_word k.peers q)) (get_elem? t.homes (pool_home k.peers k.room q)) place → SlotStands k t r.lane q place
slot_stands k t r q free ok = ok
slot_stands k t r q (claimed s d) ok = ok
slot_stands k t r q (sent s d j) ok = let lane : ℕ = lane_of k.peers s d in let got_is = (r.each_lane lane (lane_below k.peers s d ok.1 ok.2)).got_is in let stands = ok.3.1 in
    (ok.0, ok.1, ok.2, (stands.0, stands.1, stands.2, subst (λ (z : ℕ). z ≤ j) (sym got_is) ok.3.0, ⊎_elim (λ o. inl (o.0 ∙ sym got_is, o.1)) (λ o. inr o.0) stands.3))

pub returns-clause-slots : goal.returns-clause-slots
returns-clause-slots c k t r q near = slot_stands k t r q (r.place q) (r.pools.each_place q near)

pub returns-clause-cut : goal.returns-clause-cut
returns-clause-cut c k t r l near = (r.each_lane l near).cut

-- whatever owns a slot is its place
owner : (k : Layout) (t : State Slot View) (r : Ruled k t) (q : ℕ) (p : Place) → Owns k t r.lane q p → (q < k.peers * k.pool) × (r.place q ≡ p)
owner k t r q free own = absurd own
owner k t r q (claimed s d) (near_s, near_d, is) = r.pools.each_claim s d q near_s near_d is
owner k t r q (sent s d j) (near_s, near_d, (x, slot, late, at, lent)) =
    let got_is = (r.each_lane (lane_of k.peers s d) (lane_below k.peers s d near_s near_d)).got_is in
    r.pools.each_sent s d j x q near_s near_d (subst (λ (z : ℕ). z ≤ j) got_is late, at, λ is. lent (is ∙ sym got_is)) slot

pub returns-clause-owned : goal.returns-clause-owned
returns-clause-owned c k t r q p own = owner k t r q p own

pub returns-clause-one_owner : goal.returns-clause-one_owner
returns-clause-one_owner c k t r q a b one other = sym (owner k t r q a one).1 ∙ (owner k t r q b other).1

pub returns-clause-told : goal.returns-clause-told
returns-clause-told c k t r j i v at e below = let n : ℕ = k.peers in let ok = r.each_part j v at.0 i at.1 in let me : ℕ = (part_at v i).me in
    let out = ok.outs e below in let into = ok.ins e below in let back = r.each_lane (lane_of n e me) (lane_below n e me below ok.below) in
    (out.0, subst (λ (z : ℕ). (in_at (part_at v i) e).taken ≡ take z (r.lane (lane_of n e me)).posted) (sym back.got_is) into.0)

pub returns-clause-numbered : goal.returns-clause-numbered
returns-clause-numbered c k t r j i v at = let ok = r.each_part j v at.0 i at.1 in let kept = ok.kept in record {
  stamped = kept.stamped;
  posts = λ d below. kept.posts d (omega (arith, below, ok.all_outs));
  takes = λ s below. kept.takes s (omega (arith, below, ok.all_ins));
}

pub returns-clause-known : goal.returns-clause-known
returns-clause-known c k t r j i v at e below = let n : ℕ = k.peers in let ok = r.each_part j v at.0 i at.1 in let me : ℕ = (part_at v i).me in
    let out = ok.outs e below in let into = ok.ins e below in let there = r.each_lane (lane_of n me e) (lane_below n me e ok.below below) in let back = r.each_lane (lane_of n e me) (lane_below n e me below ok.below) in
    let from : Lane = r.lane (lane_of n e me) in (
      ap length out.0 ∙ sym there.put_is,
      subst (λ (z : ℕ). (out_at (part_at v i) e).got_seen ≤ z) (sym there.got_is) out.1,
      ap length into.0 ∙ length-take-le from.got from.posted back.behind ∙ sym back.got_is,
      subst (λ (z : ℕ). (in_at (part_at v i) e).put_seen ≤ z) (sym back.put_is) into.1,
    )

pub returns-clause-taken : goal.returns-clause-taken
returns-clause-taken c k t r j i j' i' v v' at at' = let f = r.each_part j v at.0 i at.1 in let g = r.each_part j' v' at'.0 i' at'.1 in
    let p : Part = part_at v i in let q : Part = part_at v' i' in let out = f.outs q.me g.below in let into = g.ins p.me f.below in let lane : Lane = r.lane (lane_of k.peers p.me q.me) in
    subst (λ (z : List Sent × List Sent). IsPrefix z.0 z.1) (λ a. (sym into.0 a, sym out.0 a)) (drop lane.got lane.posted, take-append-drop lane.got lane.posted)

pub returns-clause-repaid : goal.returns-clause-repaid
returns-clause-repaid c k t r j i v at d op = (r.each_part j v at.0 i at.1).kept.repaid d op

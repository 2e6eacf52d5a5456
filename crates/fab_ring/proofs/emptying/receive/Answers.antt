use Rattle.std.proofs.Common.{rules, ◌≡◌, ℕ, ◌<◌, List, [], ◌∷◌, ◌++◌, length, sym, refl, ap, ◌∙◌, subst, arith, append-nil}
use mathlib.Core.Logic.{dite}
use native.Mathlib.Decide.{ℕ_discrete}
use Rattle.std.specs.Prelude.{slice_get}
use Rattle.std.proofs.lemmas.Option.{same_Some, slice_get_within}
use Rattle.fab_base.specs.declared.frames.Frame.{Frame}
use Rattle.fab_link.specs.Plain.{Lane, lane_at}
use Rattle.fab_link.specs.Frames.{IsLane}
use Rattle.fab_ring.specs.declared.rooms.Inside.{Inside}
use Rattle.fab_ring.specs.Gather.{Grew, Awaits, Leads, Emptied}
use Rattle.fab_ring.proofs.Joined.{grew_outs}
use Rattle.fab_ring.proofs.Coming.{prefix_less, awaits_later, leads_later, emptied_later, emptied_from, adopted_here, adopted_else, adopted_count, adopted_lanes}
use Rattle.fab_ring.proofs.emptying.receive.Goals as goal

pub loop-inside-init : goal.loop-inside-init
loop-inside-init c = record {
  same = (refl, refl);
  joined = c.requires.joined;
  left = ([], append-nil c.args.rooms.items);
  outs = λ k. refl;
  rest = λ k ne. refl;
  later = λ e low. refl;
  number = refl;
  count = refl;
  lanes = λ e. refl;
  none = λ e low. c.requires.awaits.none e;
  done = λ e x far there. absurd (let low = slice_get_within c.args.rooms.items e x there in omega arith);
}

pub empty_lane-frames-requires-clause-awaits : goal.empty_lane-frames-requires-clause-awaits
empty_lane-frames-requires-clause-awaits c =
    let i = c.loop-inside.invariant in let s = c.args.seat.now in let t = c.loop-inside.seat in let r : ℕ = c.args.port.now.number in let rest : List Inside = c.pop.new.self.items in let e : ℕ = length rest in let x : Inside = c.in-Some.inside in
    let popped : c.loop-inside.rooms.items ≡ rest ++ x ∷ [] = c.in-Some.ensures.items in let less = prefix_less rest c.loop-inside.rooms.items c.args.rooms.items x popped i.left in
    let n : c.me-reader.result ≡ r = c.me-reader.ensures in let at : c.len-source.result ≡ e = search rules in let later = i.later e (let l = less.2 in omega arith) in
    subst (λ (z : ℕ × ℕ). Awaits t z.0 z.1 x) (λ k. (sym n k, sym at k)) (awaits_later s t r e x (c.requires.awaits.each e x less.0) later (i.outs e))

pub adopt-requires-clause-continues : goal.adopt-requires-clause-continues
adopt-requires-clause-continues c =
    let i = c.loop-inside.invariant in let s = c.args.seat.now in let t = c.loop-inside.seat in let r : ℕ = c.args.port.now.number in let rest : List Inside = c.pop.new.self.items in let e : ℕ = length rest in let x : Inside = c.in-Some.inside in
    let popped : c.loop-inside.rooms.items ≡ rest ++ x ∷ [] = c.in-Some.ensures.items in let less = prefix_less rest c.loop-inside.rooms.items c.args.rooms.items x popped i.left in
    let n : c.me-reader.result ≡ r = c.me-reader.ensures in let at : c.len-source.result ≡ e = search rules in let later = i.later e (let l = less.2 in omega arith) in
    let leads = subst (λ (z : ℕ × ℕ). Leads t z.0 z.1 (lane_at c.args.port.now e).in_after x.frames.items) (λ k. (sym n k, sym at k)) (leads_later s t r e (lane_at c.args.port.now e).in_after x.frames.items (c.requires.awaits.leads e x less.0) later) in
    let after = ap (λ (z : Lane). z.in_after) (i.lanes e) in let lane = c.empty_lane-frames.ensures.cut (lane_at c.args.port.now e).in_after leads in
    subst (λ (z : ℕ). IsLane (lane_at c.loop-inside.port z).in_after c.empty_lane-frames.result.items) (sym at) (subst (λ h. IsLane h c.empty_lane-frames.result.items) (sym after) lane)

pub loop-inside-preserved : goal.loop-inside-preserved
loop-inside-preserved c =
    let i = c.loop-inside.invariant in let s = c.args.seat.now in let t = c.loop-inside.seat in let r : ℕ = c.args.port.now.number in let rest : List Inside = c.pop.new.self.items in let e : ℕ = length rest in let x : Inside = c.in-Some.inside in
    let popped : c.loop-inside.rooms.items ≡ rest ++ x ∷ [] = c.in-Some.ensures.items in let less = prefix_less rest c.loop-inside.rooms.items c.args.rooms.items x popped i.left in
    let n : c.me-reader.result ≡ r = c.me-reader.ensures in let at : c.len-source.result ≡ e = search rules in let later = i.later e (let l = less.2 in omega arith) in
    let u = c.empty_lane-frames.new.seat in let fs : List Frame = c.empty_lane-frames.result.items in let p = c.loop-inside.port in let q = c.adopt.new.self in
    let emptied = subst (λ (z : ℕ × ℕ). Emptied t u z.0 z.1 x fs) (λ k. (n k, at k)) c.empty_lane-frames.ensures.emptied in let grew = c.empty_lane-frames.ensures.grew in let g = subst (λ (z : ℕ × ℕ). Grew t u z.0 z.1 grew.0) (λ k. (n k, at k)) grew.1 in
    let near : e < length p.lanes = (let a = c.requires.awaits.count in let b = i.count in let l = slice_get_within c.args.rooms.items e x less.0 in omega arith) in
    let is : q ≡ Rattle.fab_link.specs.Plain.with_lane p e (record (lane_at p e) { in_list = fs }) = subst (λ (z : ℕ). q ≡ Rattle.fab_link.specs.Plain.with_lane p z (record (lane_at p z) { in_list = fs })) at c.adopt.ensures in
    let outs = grew_outs t u r e grew.0 g in
    record {
      same = (c.empty_lane-frames.ensures.seat.0 ∙ i.same.0, c.empty_lane-frames.ensures.seat.1 ∙ i.same.1);
      joined = c.empty_lane-frames.ensures.joined;
      left = less.1;
      outs = λ k. outs k ∙ i.outs k;
      rest = λ k ne. g.rest k ne ∙ i.rest k ne;
      later = λ d low. g.mine.others d (λ same. omega arith) ∙ i.later d (let l = less.2 in omega arith);
      number = ap (λ z. z.number) is ∙ i.number;
      count = adopted_count c.args.port.now p q e fs near is ∙ i.count;
      lanes = adopted_lanes c.args.port.now p q e fs near is i.lanes;
      none = λ d low. ap (λ (z : Lane). z.in_list) (adopted_else c.args.port.now p q e fs near is d (λ same. omega arith)) ∙ i.none d (let l = less.2 in omega arith);
      done = λ d y far there. dite (ℕ_discrete d e)
          (λ same. let is_x : x ≡ y = same_Some x y (sym less.0 ∙ ap (slice_get c.args.rooms.items) (sym same) ∙ there) in
          subst (λ (z : ℕ). Emptied s u r z y (lane_at q z).in_list) (sym same) (subst (λ (z : Inside). Emptied s u r e z (lane_at q e).in_list) is_x
          (subst (Emptied s u r e x) (sym (ap (λ (z : Lane). z.in_list) (adopted_here c.args.port.now p q e fs near is))) (emptied_from s t u r e x fs emptied later))))
          (λ ne. subst (Emptied s u r d y) (sym (ap (λ (z : Lane). z.in_list) (adopted_else c.args.port.now p q e fs near is d ne))) (emptied_later s t u r d y (lane_at p d).in_list (i.done d y (let l = less.2 in omega arith) there) (g.mine.others d ne) (outs d)));
    }

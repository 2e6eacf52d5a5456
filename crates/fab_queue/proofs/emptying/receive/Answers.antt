use Rattle.std.proofs.Common.{rules, ◌≡◌, ℕ, ◌+◌, ◌<◌, ◌≤◌, List, [], ◌∷◌, length, get_or, refl, sym, ap, ◌∙◌, subst, arith, length-append, length-set}
use Rattle.std.specs.Prelude.{Vec, vec_capacity}
use Rattle.std.specs.declared.alloc.Global.{Global}
use Rattle.fab_base.specs.declared.frames.Frame.{Frame}
use Rattle.fab_link.specs.Frames.{IsLane}
use Rattle.fab_link.specs.Plain.{lane_at, with_lane}
use Rattle.fab_queue.specs.Ends.{Out}
use Rattle.fab_queue.specs.Gather.{Drained}
use Rattle.fab_queue.proofs.Receiving.{receiving_starts, received, few_sources, near_source, near_end, joined, roomy, near_lane, nothing_came, may_come, goes_on, kept_rows, end_at, wide_row}
use Rattle.fab_queue.proofs.emptying.receive.Goals as goal

pub loop-inlet-init : goal.loop-inlet-init
loop-inlet-init g c = (c.me-reader.ensures, receiving_starts _ _ _ _ _ refl c.requires)

pub unreachable-requires : goal.unreachable-requires
unreachable-requires g c =
    let k = c.loop-inlet.invariant.1 in let last = ap length c.in-Some.ensures.items ∙ length-append c.pop.new.self.items (c.in-Some.inlet ∷ []) in
    let none = (c.in_default-pop.ensures {u = tt}).cases in let o = c.loop-inlet.rooms.ok in let even = k.even in absurd (omega arith)

pub bounds-outs-source : goal.bounds-outs-source
bounds-outs-source g c =
    let at : c.len-source.result ≡ length c.pop.new.self.items = search rules in
    subst (λ (n : ℕ). n < length c.loop-inlet.outs) (sym at) (near_source _ _ _ _ _ _ _ _ _ _ _ _ c.requires c.loop-inlet.invariant.1 c.in-Some.ensures.items c.in-Some-pop.ensures.items)

pub index_mut-requires : goal.index_mut-requires
index_mut-requires g c =
    let at : c.len-source.result ≡ length c.pop.new.self.items = search rules in let n : c.me-reader.result ≡ c.args.port.now.number = c.loop-inlet.invariant.0 in
    let near = near_source _ _ _ _ _ _ _ _ _ _ _ _ c.requires c.loop-inlet.invariant.1 c.in-Some.ensures.items c.in-Some-pop.ensures.items in
    let end = near_end _ _ _ _ _ _ _ _ _ _ _ _ c.requires c.loop-inlet.invariant.1 c.in-Some.ensures.items c.in-Some-pop.ensures.items in
    let all : Vec Out Global = get_or c.loop-inlet.outs c.len-source.result c.index-outs-source.result in let ok = all.ok in
    let wide : c.me-reader.result < length all.items = wide_row c.loop-inlet.outs c.index-outs-source.result _ _ c.args.port.now.number c.me-reader.result at n near end in omega (arith, ok, wide)

pub drain-frames-requires-clause-lane : goal.drain-frames-requires-clause-lane
drain-frames-requires-clause-lane g c =
    let at : c.len-source.result ≡ length c.pop.new.self.items = search rules in let n : c.me-reader.result ≡ c.args.port.now.number = c.loop-inlet.invariant.0 in
    let near = near_source _ _ _ _ _ _ _ _ _ _ _ _ c.requires c.loop-inlet.invariant.1 c.in-Some.ensures.items c.in-Some-pop.ensures.items in
    let end = near_end _ _ _ _ _ _ _ _ _ _ _ _ c.requires c.loop-inlet.invariant.1 c.in-Some.ensures.items c.in-Some-pop.ensures.items in
    let is = end_at c.loop-inlet.outs _ _ _ c.args.port.now.number c.me-reader.result at n near end c.index_mut.result.now _ c.index_mut.ensures.value in
    ap (λ (o : Out). o.lane) is ∙ joined _ _ _ _ _ _ _ _ _ _ _ _ c.requires c.loop-inlet.invariant.1 c.in-Some.ensures.items c.in-Some-pop.ensures.items

pub drain-frames-requires-clause-room : goal.drain-frames-requires-clause-room
drain-frames-requires-clause-room g c =
    let at : c.len-source.result ≡ length c.pop.new.self.items = search rules in let n : c.me-reader.result ≡ c.args.port.now.number = c.loop-inlet.invariant.0 in
    let near = near_source _ _ _ _ _ _ _ _ _ _ _ _ c.requires c.loop-inlet.invariant.1 c.in-Some.ensures.items c.in-Some-pop.ensures.items in
    let end = near_end _ _ _ _ _ _ _ _ _ _ _ _ c.requires c.loop-inlet.invariant.1 c.in-Some.ensures.items c.in-Some-pop.ensures.items in
    let is = end_at c.loop-inlet.outs _ _ _ c.args.port.now.number c.me-reader.result at n near end c.index_mut.result.now _ c.index_mut.ensures.value in
    let fits = roomy _ _ _ _ _ _ _ _ _ _ _ _ c.requires c.loop-inlet.invariant.1 c.in-Some.ensures.items c.in-Some-pop.ensures.items in
    (fits.0, subst (λ (o : Out). o.room + 1 ≤ vec_capacity c.in-Some-pop.room) (sym is) fits.1)

pub overflow_cast-source : goal.overflow_cast-source
overflow_cast-source g c =
    let at : c.len-source.result ≡ length c.pop.new.self.items = search rules in
    let few = few_sources _ _ _ _ _ _ _ _ _ _ _ _ c.requires c.loop-inlet.invariant.1 c.in-Some.ensures.items c.in-Some-pop.ensures.items in omega (arith, at, few)

pub adopt-requires-clause-below : goal.adopt-requires-clause-below
adopt-requires-clause-below g c =
    let at : c.len-source.result ≡ length c.pop.new.self.items = search rules in
    subst (λ (n : ℕ). n < length c.loop-inlet.port.lanes) (sym at) (near_lane _ _ _ _ _ _ _ _ _ _ _ _ c.requires c.loop-inlet.invariant.1 c.in-Some.ensures.items c.in-Some-pop.ensures.items)

pub adopt-requires-clause-none : goal.adopt-requires-clause-none
adopt-requires-clause-none g c =
    let at : c.len-source.result ≡ length c.pop.new.self.items = search rules in
    subst (λ (n : ℕ). (lane_at c.loop-inlet.port n).in_list ≡ []) (sym at) (nothing_came _ _ _ _ _ _ _ _ _ _ _ _ c.requires c.loop-inlet.invariant.1 c.in-Some.ensures.items c.in-Some-pop.ensures.items)

pub adopt-requires-clause-continues : goal.adopt-requires-clause-continues
adopt-requires-clause-continues g c =
    let at : c.len-source.result ≡ length c.pop.new.self.items = search rules in
    subst (λ (n : ℕ). IsLane (lane_at c.loop-inlet.port n).in_after c.drain-frames.result.items) (sym at)
    (may_come _ _ _ _ _ _ _ _ _ _ _ _ c.requires c.loop-inlet.invariant.1 c.in-Some.ensures.items c.in-Some-pop.ensures.items c.drain-frames.result.items c.drain-frames.ensures.drained.cut)

pub loop-inlet-preserved : goal.loop-inlet-preserved
loop-inlet-preserved g c =
    let at : c.len-source.result ≡ length c.pop.new.self.items = search rules in let n : c.me-reader.result ≡ c.args.port.now.number = c.loop-inlet.invariant.0 in
    let near = near_source _ _ _ _ _ _ _ _ _ _ _ _ c.requires c.loop-inlet.invariant.1 c.in-Some.ensures.items c.in-Some-pop.ensures.items in
    let end = near_end _ _ _ _ _ _ _ _ _ _ _ _ c.requires c.loop-inlet.invariant.1 c.in-Some.ensures.items c.in-Some-pop.ensures.items in
    let is = end_at c.loop-inlet.outs _ _ _ c.args.port.now.number c.me-reader.result at n near end c.index_mut.result.now _ c.index_mut.ensures.value in
    let fs : List Frame = c.drain-frames.result.items in let p = c.loop-inlet.port in
    let came : c.adopt.new.self ≡ with_lane p (length c.pop.new.self.items) (record (lane_at p (length c.pop.new.self.items)) { in_list = fs }) = subst (λ (z : ℕ). c.adopt.new.self ≡ with_lane p z (record (lane_at p z) { in_list = fs })) at c.adopt.ensures in (
      n,
      goes_on _ _ _ _ _ _ _ _ _ _ _ _ c.requires c.loop-inlet.invariant.1 c.in-Some.ensures.items c.in-Some-pop.ensures.items _ c.adopt.new.self fs
          (length-set c.loop-inlet.outs c.len-source.result _)
          (kept_rows c.loop-inlet.outs _ _ _ c.args.port.now.number c.me-reader.result at n near end c.index_mut.result.now _ c.drain-frames.new.outlet c.index_mut.ensures.value c.drain-frames.ensures.outlet _ refl)
          (subst (λ (o : Out). Drained o c.in-Some.inlet fs) is c.drain-frames.ensures.drained) came,
    )

pub returns-clause-outs : goal.returns-clause-outs
returns-clause-outs g c = (c.loop-inlet.invariant.1.outs_count, c.loop-inlet.invariant.1.rows)

pub returns-clause-received : goal.returns-clause-received
returns-clause-received g c = let none : length c.loop-inlet.ins.items ≡ 0 = (let e = (c.in_default.ensures {u = tt}).cases in let o = c.loop-inlet.ins.ok in omega arith) in received _ _ _ _ _ _ _ _ c.loop-inlet.invariant.1 none

use Rattle.std.proofs.Common.{List, ap, sym, ◌∙◌, subst}
use Rattle.std.specs.Prelude.{option_to_list}
use Rattle.fab_base.specs.declared.frames.Frame.{Frame}
use Rattle.fab_queue.specs.declared.lane.Log.{Log}
use Rattle.fab_queue.specs.Lanes.{frames_of, known}
use Rattle.fab_queue.specs.Ends.{Out, In, MayGet}
use Rattle.fab_queue.specs.Gather.{IsInside}
use Rattle.fab_queue.proofs.Lanes.{merges}
use Rattle.fab_queue.proofs.Draining.{drained}
use Rattle.fab_queue.proofs.emptying.drain.Goals as goal

pub absorb-requires-clause-rule : goal.absorb-requires-clause-rule
absorb-requires-clause-rule g c = merges _ _ _ _ c.outlet.invariant.1.puts c.inlet.invariant.1.gets

pub returns-clause-drained : goal.returns-clause-drained
returns-clause-drained g c =
    let may = subst (λ (z : In). MayGet (known c.inlet.inside.pass) z.taken z.lent c.inlet.inside.end) c.inlet.view_is c.inlet.invariant.1 in
    let first = c.first_of-frames.ensures.frames ∙ ap (λ (z : In). frames_of (option_to_list z.lent)) c.inlet.view_is in
    drained c.args.outlet.now c.args.inlet (known c.outlet.inside.pass) (known c.inlet.inside.pass) _ c.empty_lane.result.items (sym (ap (λ (z : Out). z.posted) c.outlet.view_is)) may
    (subst (λ (z : Log × List Frame). IsInside z.0 z.1 c.empty_lane.result.items) (λ k. (c.absorb.ensures.rule k, first k)) c.empty_lane.ensures.inside)

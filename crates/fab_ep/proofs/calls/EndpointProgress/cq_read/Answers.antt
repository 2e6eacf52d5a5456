use Rattle.std.proofs.Common.{◌≡◌}
use Rattle.fab_base.specs.declared.entries.Taken.TheVariants.{Success}
use Rattle.fab_ep.specs.Value.{seen}
use Rattle.fab_ep.proofs.Kept.{tied_popped}
use Rattle.fab_ep.proofs.Posting.{open_of}
use Rattle.fab_ep.proofs.Reading.{reads_in}
use Rattle.fab_ep.proofs.calls.EndpointProgress.cq_read.Goals as goal

pub returns : goal.returns
returns g c =
    let progressed = rw (← c.self.view_is) at c.move_frames-moved.ensures in
    let sound = open_of _ c.self.invariant.1 c.known.ensures in
    reads_in g.P.Port.FIXED c.args.budget (seen g.P.Port c.args.self.now) _ _ c.move_frames-moved.result c.pop-popped.result c.is_err.result _ c.is_err.ensures.value c.read_as.ensures sound progressed c.pop-popped.ensures.ok c.pop-popped.ensures.err c.pop-popped.ensures.stays

pub invariant_of-self : goal.invariant_of-self
invariant_of-self g c =
    let i = c.self.inside in (
      c.self.invariant.0,
      tied_popped (λ x w. w.entry ≡ Success x) (seen g.P.Port (record { port = i.port; held = g.C.Machine.held i.core; log = i.log.items; log_size = i.log_size; pushed = i.pushed; next = i.next })) _ c.pop-popped.result c.pop-popped.ensures.ok c.pop-popped.ensures.stays c.self.invariant.1,
      c.self.invariant.2,
    )

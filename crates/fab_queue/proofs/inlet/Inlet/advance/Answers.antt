use Rattle.std.proofs.Common.{◌∙◌, sym}
use Rattle.fab_queue.proofs.Ends.{took}
use Rattle.fab_queue.proofs.inlet.Inlet.advance.Goals as goal

pub invariant_of-self : goal.invariant_of-self
invariant_of-self c =
    let all = took _ _ _ _ c.in-Some.sent c.self.invariant.1 (sym c.take.ensures.value ∙ c.in-Some.is) in (c.self.invariant.0, rw (c.note.ensures, c.take.ensures.after) all)

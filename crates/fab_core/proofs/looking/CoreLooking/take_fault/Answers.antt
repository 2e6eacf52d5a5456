use Rattle.std.proofs.Common.{◌∙◌, ℕ, List, length, ap}
use Rattle.fab_core.specs.Parts.{state_of}
use Rattle.fab_core.specs.Looks.{lasting_claimed}
use Rattle.fab_core.proofs.Judging.{if_final_claimed, if_take_none, if_take_some}
use Rattle.fab_core.proofs.looking.CoreLooking.take_fault.Goals as goal

pub returns-clause-some : goal.returns-clause-some
returns-clause-some g c = if_take_some c.args.self.now (rw (← c.self.view_is) c.known-2.ensures.read) (rw (← c.self.view_is) c.known-2.ensures.fits) c.args.ctx c.args.buf.now c.claimed_fault.result (c.claimed_fault.ensures ∙ ap (λ (xs : List ℕ). lasting_claimed (state_of c.args.self.now) (length xs) c.args.ctx) c.as_slice.ensures)

pub returns-clause-lasting : goal.returns-clause-lasting
returns-clause-lasting g c = if_final_claimed (state_of c.args.self.now) _ c.args.ctx c.claimed_fault.result c.claimed_fault.ensures

pub returns-clause-none : goal.returns-clause-none
returns-clause-none g c = if_take_none c.args.self.now (rw (← c.self.view_is) c.known-2.ensures.read) (rw (← c.self.view_is) c.known-2.ensures.fits) c.args.ctx c.args.buf.now c.claimed_fault.result (c.claimed_fault.ensures ∙ ap (λ (xs : List ℕ). lasting_claimed (state_of c.args.self.now) (length xs) c.args.ctx) c.as_slice.ensures)

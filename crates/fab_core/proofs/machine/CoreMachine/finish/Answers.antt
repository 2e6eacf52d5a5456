use Rattle.std.proofs.Common.{◌∙◌, sym, ap}
use Rattle.std.specs.Prelude.{not, ◌||◌}
use Rattle.fab_cq.specs.Queues.{has_room}
use Rattle.fab_core.proofs.Fits.{fits_do_sent}
use Rattle.fab_core.proofs.Sent.{sent_held, sent_next}
use Rattle.fab_core.proofs.machine.CoreMachine.finish.Goals as goal

pub transmitted-requires-clause-room : goal.transmitted-requires-clause-room
transmitted-requires-clause-room g c = λ writes.
    sym (ap (λ b. not b || has_room 1 c.args.self.now.cq) writes) ∙ sym (fits_do_sent c.args.self.now (rw (← c.self.view_is) c.known-2.ensures.read) (rw (← c.self.view_is) c.known-2.ensures.fits) c.args.dest) ∙ c.requires.room

pub returns-clause-held : goal.returns-clause-held
returns-clause-held g c = rw c.transmitted.ensures (sent_held c.args.self.now c.args.dest)

pub returns-clause-next : goal.returns-clause-next
returns-clause-next g c = rw c.transmitted.ensures (sent_next c.args.self.now c.args.dest)

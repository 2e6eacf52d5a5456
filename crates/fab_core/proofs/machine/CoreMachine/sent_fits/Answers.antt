use Rattle.std.proofs.Common.{◌≡◌, ◌∙◌, sym, ap}
use Rattle.std.specs.Prelude.{not, ◌||◌}
use Rattle.fab_model.specs.Sending.{ending}
use Rattle.fab_cq.specs.Queues.{has_room}
use Rattle.fab_tx.specs.Transit.{writes_when_sent}
use Rattle.fab_core.proofs.Fits.{fits_do_sent}
use Rattle.fab_core.proofs.machine.CoreMachine.sent_fits.Goals as goal

pub returns-then-not-writes : goal.returns-then-not-writes
returns-then-not-writes g c =
    let writes : writes_when_sent (ending c.args.dest c.args.self.now.tx.tx) ≡ c.writes.result = rw (← c.self.view_is) (sym c.writes.ensures) in
    ap not c.if-not-writes.true ∙ sym (fits_do_sent c.args.self.now (rw (← c.self.view_is) c.known-2.ensures.read) (rw (← c.self.view_is) c.known-2.ensures.fits) c.args.dest ∙ ap (λ b. not b || has_room 1 c.args.self.now.cq) (writes ∙ c.if-not-writes.true))

pub returns-else-not-writes : goal.returns-else-not-writes
returns-else-not-writes g c =
    let writes : writes_when_sent (ending c.args.dest c.args.self.now.tx.tx) ≡ c.writes.result = rw (← c.self.view_is) (sym c.writes.ensures) in
    let room : c.has_room.result ≡ has_room 1 c.args.self.now.cq = rw (← c.self.view_is) c.has_room.ensures.room in
    room ∙ sym (fits_do_sent c.args.self.now (rw (← c.self.view_is) c.known-2.ensures.read) (rw (← c.self.view_is) c.known-2.ensures.fits) c.args.dest ∙ ap (λ b. not b || has_room 1 c.args.self.now.cq) (writes ∙ c.if-not-writes.false))

use Rattle.std.proofs.Common.{◌∙◌, sym, ap}
use Rattle.fab_cq.specs.Queues.{has_room}
use Rattle.fab_core.proofs.Drawing.{draw_goes, draw_lacks, drew_next}
use Rattle.fab_core.proofs.machine.CoreMachine.draw.Goals as goal

pub returns-then-not-has_room-clause-no : goal.returns-then-not-has_room-clause-no
returns-then-not-has_room-clause-no g c = λ _. draw_lacks c.args.self.now (rw (← c.self.view_is) c.known.ensures) c.requires (rw (← c.self.view_is) c.known-2.ensures.read) (rw (← c.self.view_is) c.known-2.ensures.fits) (rw (← c.self.view_is) (ap (λ n. has_room n c.self.inside.cq) (sym c.draw_entries.ensures) ∙ sym c.has_room.ensures.room ∙ c.if-not-has_room.true))

pub returns-clause-yes : goal.returns-clause-yes
returns-clause-yes g c = λ _. draw_goes c.args.self.now (rw (← c.self.view_is) c.known.ensures) c.requires (rw (← c.self.view_is) c.known-2.ensures.read) (rw (← c.self.view_is) c.known-2.ensures.fits) c.make_draw.new.self c.make_draw.ensures (rw (← c.self.view_is) (ap (λ n. has_room n c.self.inside.cq) (sym c.draw_entries.ensures) ∙ sym c.has_room.ensures.room ∙ c.if-not-has_room.false))

pub returns-clause-next : goal.returns-clause-next
returns-clause-next g c = rw c.make_draw.ensures (drew_next c.args.self.now)

use Rattle.std.proofs.Common.{ap, arith}
use Rattle.fab_core.specs.Parts.{Parts}
use Rattle.fab_core.proofs.Calling.{counts, fits_in_word, sends, stands}
use Rattle.fab_core.proofs.machine.CoreMachine.send.Goals as goal

pub unreachable-requires : goal.unreachable-requires
unreachable-requires g c = stands c.args.self.now c.args.message.now c.args.buf c.requires.granted c.lookup.result c.in_default.field-0 (rw (← c.self.view_is) c.lookup.ensures.no_entry) c.in_default.is

pub accept-requires-clause-counts : goal.accept-requires-clause-counts
accept-requires-clause-counts g c = counts c.args.self.now c.args.message.now c.args.buf c.requires.granted

pub accept-requires-clause-total : goal.accept-requires-clause-total
accept-requires-clause-total g c = fits_in_word c.args.self.now c.args.message.now c.args.buf c.requires.granted (let same = ap (λ (p : Parts). p.most_message) c.self.view_is in omega (arith, same, c.self.ranges))

pub returns : goal.returns
returns g c = sends c.args.self.now c.in-Ok.dest c.args.message.now c.args.buf c.accept.new.self (rw (← c.self.view_is) c.in-Ok.ensures.found) c.requires.granted c.requires.room c.accept.ensures

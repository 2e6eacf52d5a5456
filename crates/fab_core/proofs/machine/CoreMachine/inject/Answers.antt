use Rattle.fab_core.proofs.Calling.{counts, few_copied, sends, stands}
use Rattle.fab_core.proofs.machine.CoreMachine.inject.Goals as goal

pub unreachable-requires : goal.unreachable-requires
unreachable-requires g c = stands c.args.self.now c.args.message.now c.args.bytes.now c.requires.granted c.lookup.result c.in_default.field-0 (rw (← c.self.view_is) c.lookup.ensures.no_entry) c.in_default.is

pub accept_copy-requires-clause-counts : goal.accept_copy-requires-clause-counts
accept_copy-requires-clause-counts g c = counts c.args.self.now c.args.message.now c.args.bytes.now c.requires.granted

pub accept_copy-requires-clause-few : goal.accept_copy-requires-clause-few
accept_copy-requires-clause-few g c = few_copied c.args.self.now c.args.message.now c.args.bytes.now c.requires.granted c.requires.injected

pub returns : goal.returns
returns g c = sends c.args.self.now c.in-Ok.dest c.args.message.now c.args.bytes.now c.accept_copy.new.self (rw (← c.self.view_is) c.in-Ok.ensures.found) c.requires.granted c.requires.room c.accept_copy.ensures

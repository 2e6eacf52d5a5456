use Rattle.std.proofs.Common.{ap, arith}
use Rattle.fab_core.specs.Parts.{Parts}
use Rattle.fab_face.specs.Requesting.{order_asked}
use Rattle.fab_core.proofs.Asking.{asks, count_word, counts, few_copied, sound, stands}
use Rattle.fab_core.proofs.requests.CoreRequesting.request_copied.Goals as goal

pub unreachable-requires : goal.unreachable-requires
unreachable-requires g c = stands c.args.self.now (order_asked c.args.request.now c.args.bytes.now c.args.compared.now c.args.buf) c.requires.granted c.lookup.result c.in_default.field-0 (rw (← c.self.view_is) c.lookup.ensures.no_entry) c.in_default.is

pub ask_copied-requires-clause-counts : goal.ask_copied-requires-clause-counts
ask_copied-requires-clause-counts g c = counts c.args.self.now (order_asked c.args.request.now c.args.bytes.now c.args.compared.now c.args.buf) c.requires.granted

pub ask_copied-requires-clause-count : goal.ask_copied-requires-clause-count
ask_copied-requires-clause-count g c = count_word c.args.self.now (order_asked c.args.request.now c.args.bytes.now c.args.compared.now c.args.buf) c.requires.granted (let same = ap (λ (p : Parts). p.most_message) c.self.view_is in omega (arith, same, c.self.ranges))

pub ask_copied-requires-clause-few : goal.ask_copied-requires-clause-few
ask_copied-requires-clause-few g c = few_copied c.args.self.now (order_asked c.args.request.now c.args.bytes.now c.args.compared.now c.args.buf) c.requires.granted c.requires.few

pub ask_copied-requires-clause-sound : goal.ask_copied-requires-clause-sound
ask_copied-requires-clause-sound g c = sound c.args.self.now c.args.request.now c.args.bytes.now c.args.compared.now c.args.buf c.requires.granted

pub returns : goal.returns
returns g c = asks c.args.self.now c.in-Ok.dest (order_asked c.args.request.now c.args.bytes.now c.args.compared.now c.args.buf) c.ask_copied.new.self (rw (← c.self.view_is) c.in-Ok.ensures.found) c.requires.granted c.requires.room c.ask_copied.ensures

use Rattle.std.proofs.Common.{sym, ◌∙◌}
use Rattle.fab_script.proofs.Payloads.{payload_at, payload_none}
use Rattle.fab_script.proofs.binding.payload.Goals as goal

pub returns-in-Some : goal.returns-in-Some
returns-in-Some c = c.file_at.ensures ∙ sym (payload_at c.args.id c.args.payloads.now c.args.files.now c.in-Some.at (sym c.place_of.ensures ∙ c.in-Some.is))

pub returns-in-None : goal.returns-in-None
returns-in-None c = sym (payload_none c.args.id c.args.payloads.now c.args.files.now (sym c.place_of.ensures ∙ c.in-None.is))

use Rattle.std.proofs.Common.{refl}
use Rattle.fab_script.proofs.reader.Reader.new.Goals as goal

pub returns : goal.returns
returns c = record { header = refl; settings = c.new.ensures; payloads = c.new-2.ensures.items; parts = c.new-3.ensures }

use Rattle.std.proofs.Common.{refl, sym}
use Rattle.fab_script.proofs.reader.Reader.take_header.Goals as goal

pub returns : goal.returns
returns c = λ before h none.
    rw (none, sym c.in-Some.ensures, c.in_ok-in_time.ensures) (record { header = refl; settings = h.settings; payloads = h.payloads; parts = h.parts })

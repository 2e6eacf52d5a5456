use Rattle.fab_library_laws.proofs.Hearing.{library_hears}
use Rattle.fab_library_laws.proofs.law_library_heard.Goals as goal

pub returns : goal.returns
returns c = record { heard = library_hears c.law_said.ensures.said }

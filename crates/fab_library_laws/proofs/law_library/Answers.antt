use Rattle.fab_library_laws.proofs.Library.{library_obeys}
use Rattle.fab_library_laws.proofs.law_library.Goals as goal

pub returns : goal.returns
returns c = record { obeyed = library_obeys c.law_doings.ensures.obeyed }

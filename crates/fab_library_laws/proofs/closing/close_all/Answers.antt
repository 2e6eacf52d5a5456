use Rattle.fab_library_laws.proofs.Leaving.{all_left, lawful}
use Rattle.fab_library_laws.proofs.closing.close_all.Goals as goal

pub gather-requires : goal.gather-requires
gather-requires c = all_left c.requires.0 c.requires.1 c.requires.2 c.requires.3 c.requires.4 c.args.endpoints.items c.requires.5 c.in-Ok.ports.items c.in-Ok.ensures.ports

pub returns-in-Ok-gather-clause-lawful : goal.returns-in-Ok-gather-clause-lawful
returns-in-Ok-gather-clause-lawful c = λ info selective all threads left are.
    lawful info selective all threads left c.args.endpoints.items are c.in-Ok.ports.items c.in-Ok.ensures.ports c.in-Ok-gather.plain.items c.in-Ok.ensures.known c.in-Ok-gather.ensures.gathered c.in-Ok-gather.ensures.merged c.law_library.ensures.obeyed

use Rattle.fab_face.specs.Ports.{lanes_in}
use Rattle.fab_rounds.proofs.Tied.{start_tied}
use Rattle.fab_rounds.proofs.starting.start.Goals as goal

pub over-requires-clause-tied : goal.over-requires-clause-tied
over-requires-clause-tied g c = start_tied (g.C.Machine.held c.args.machine) (lanes_in g.P.Port c.args.port) c.args.log_size c.requires.log c.requires.peers c.requires.fresh c.requires.none_due c.requires.pledged c.requires.out c.requires.taken

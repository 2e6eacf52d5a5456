use Rattle.std.proofs.Common.{rules, sym, subst}
use Rattle.fab_core.specs.Parts.{Parts, held_of}
use Rattle.fab_ep.specs.Tries.{IsTied}
use Rattle.fab_ep.specs.Value.{anew, seen}
use Rattle.fab_open.proofs.Tied.{log_granted, opened_tied}
use Rattle.fab_open.proofs.opening.open.Goals as goal

pub over-requires-clause-log : goal.over-requires-clause-log
over-requires-clause-log g c = log_granted c.args.info.now c.peers.result (search rules)

pub over-requires-clause-tied : goal.over-requires-clause-tied
over-requires-clause-tied g c =
    subst (λ (p : Parts). IsTied (seen g.P.Port (anew c.args.port (held_of p) c.args.info.now.log))) (sym c.in-Ok.ensures.ok)
    (opened_tied g.P.Port c.args.port c.args.av c.args.info.now c.args.selective c.requires.peers c.requires.fresh (log_granted c.args.info.now c.peers.result (search rules)))

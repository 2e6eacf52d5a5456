use Rattle.std.proofs.Common.{refl, ap, subst}
use Rattle.fab_link.specs.Frames.{lent_frame}
use Rattle.fab_link.specs.Meaning.{Incoming, Fronted}
use Rattle.fab_port_suite.proofs.answering.next_head.Goals as goal

pub returns-in-Some-clause-lent : goal.returns-in-Some-clause-lent
returns-in-Some-clause-lent g c = let old : Incoming = g.P.Port.ins c.args.port.now c.args.src in let new : Incoming = g.P.Port.ins c.front.follows.lender-at-none c.args.src in
    let fronted = subst (Fronted old new) c.in-Some.is c.front.follows.holds-at-none.0 in
    (lent_frame c.in-Some.frame, ap (λ (i : Incoming). i.lent) fronted, refl)

use Rattle.std.proofs.Common.{sym, subst}
use Rattle.fab_match.proofs.Writes.{Chain, Chain-longer}
use Rattle.fab_match.proofs.chains.Chains.reserve.Goals as goal

pub returns-in_err-push-clause-kept : goal.returns-in_err-push-clause-kept
returns-in_err-push-clause-kept c = λ h xs chain.
    rw c.in_err-push.ensures.items
    (subst (λ n. Chain n c.loop.self.links.items h xs) (sym c.loop.invariant.0)
    (Chain-longer c.args.self.now.heads c.args.self.now.links.items c.loop.self.links.items c.loop.counter c.loop.invariant.1 h xs chain))

pub returns-clause-kept : goal.returns-clause-kept
returns-clause-kept c = λ h xs chain.
    subst (λ n. Chain n c.loop.self.links.items h xs) (sym c.loop.invariant.0)
    (Chain-longer c.args.self.now.heads c.args.self.now.links.items c.loop.self.links.items c.loop.counter c.loop.invariant.1 h xs chain)

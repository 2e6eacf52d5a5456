use Rattle.std.proofs.Common.{rules, arith, ◌≤◌, length, get_or, sym, ap, subst, ◌∙◌}
use Rattle.fab_ep.specs.Value.{seen}
use Rattle.fab_peer.specs.Turns.{told}
use denote.Param.Send.{sendable}
use Rattle.fab_rounds.specs.Rounds.{between}
use Rattle.fab_rounds.specs.Staying.{account_in, IsSeated, IsLife}
use Rattle.fab_rounds.proofs.staying.live_all.Goals as goal

pub for_each_mut-requires-clause-accepts : goal.for_each_mut-requires-clause-accepts
for_each_mut-requires-clause-accepts g c = λ l o i p near is. let r = c.requires.ready i p.now near in
    (omega arith, (subst (λ z. IsSeated c.args.meeting.now z.seat) (sym is) r.0, (ap (λ z. (account_in z.seat).said) is ∙ r.1, search (rules, sendable))))

pub returns-clause-seated : goal.returns-clause-seated
returns-clause-seated g c = λ k d near. let h = (c.for_each_mut.ensures k d (omega arith)).1 in subst (λ z. IsSeated c.args.meeting.now z.seat) h.left h.call.0

pub returns-clause-place : goal.returns-clause-place
returns-clause-place g c = λ k d near. let h = (c.for_each_mut.ensures k d near).1 in ap (λ z. (account_in z.seat).place) (sym h.left) ∙ h.call.1.0 ∙ ap (λ z. (account_in z.seat).place) h.argument_is

pub returns-clause-life : goal.returns-clause-life
returns-clause-life g c = λ k d near. let h = (c.for_each_mut.ensures k d near).1 in
    subst (λ z. IsLife (between (told (seen g.P.Port) z.peer) z.moved z.failed)
    (between (told (seen g.P.Port) (get_or c.for_each_mut.new.s k d).peer) (get_or c.for_each_mut.new.s k d).moved (get_or c.for_each_mut.new.s k d).failed) (account_in (get_or c.for_each_mut.new.s k d).seat)) h.argument_is
    (subst (λ z. IsLife (between (told (seen g.P.Port) h.argument.now.peer) h.argument.now.moved h.argument.now.failed) (between (told (seen g.P.Port) z.peer) z.moved z.failed) (account_in z.seat)) h.left h.call.1.1.0)

pub returns-clause-within : goal.returns-clause-within
returns-clause-within g c = λ k d near. let h = (c.for_each_mut.ensures k d (omega arith)).1 in subst (λ z. length (account_in z.seat).said ≤ c.args.limit) h.left h.call.1.1.1

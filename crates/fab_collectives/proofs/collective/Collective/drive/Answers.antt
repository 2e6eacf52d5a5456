use Rattle.std.proofs.Common.{inl, inr, refl, arith, rules}
use Rattle.fab_collectives.proofs.Driving.{asked_in_vain, driven, driven_failed, driven_on, handed_on, of_shares, told_in_vain}
use Rattle.fab_collectives.proofs.collective.Collective.drive.Goals as goal
use Rattle.fab_collectives.proofs.collective.Collective.drive.Goals.{then-not-has_all-via-then-not-has_all, then-not-has_all-via-else-not-has_all+then-self-rounds, then-not-has_all-via-else-not-has_all+else-self-rounds+then-self-rounds-2}

pub returns-in_err-ask_all-clause-drives : goal.returns-in_err-ask_all-clause-drives
returns-in_err-ask_all-clause-drives g c = let why = c.in_err-ask_all.field-0.0 in
    asked_in_vain g.E.Sees.fixed c.args.self.now _ c.as_slice-own.result.now c.as_slice-own.ensures c.as_slice-received.result.now c.as_slice-received.ensures.value c.due-due.result c.due-due.ensures _ _ (g.E.Sees.seen c.ask_all.new.endpoint) why (handed_on c.from_residual.result why c.from_residual.ensures.1) refl c.in_err-ask_all.ensures

pub returns-in_err-send_all-clause-drives : goal.returns-in_err-send_all-clause-drives
returns-in_err-send_all-clause-drives g c = let why = c.in_err-send_all.field-0.0 in
    told_in_vain g.E.Sees.fixed c.args.self.now _ c.as_slice-own.result.now c.as_slice-own.ensures c.as_slice-received.result.now c.as_slice-received.ensures.value c.due-due.result c.due-due.ensures _ _ (g.E.Sees.seen c.ask_all.new.endpoint) _ c.in_ok-ask_all.ensures why
    (handed_on c.from_residual-in_err-send_all.result why c.from_residual-in_err-send_all.ensures.1) c.in_err-send_all.ensures

pub returns-then-self-clause-drives : goal.returns-then-self-clause-drives
returns-then-self-clause-drives g c = driven_failed g.E.Sees.fixed c.args.self.now _ c.as_slice-own.result.now c.as_slice-own.ensures c.as_slice-received.result.now c.as_slice-received.ensures.value c.due-due.result c.due-due.ensures _ _ (g.E.Sees.seen c.ask_all.new.endpoint) _ c.in_ok-ask_all.ensures c.if-self.true refl c.in_ok-send_all.ensures

pub returns-then-not-has_all-clause-drives : goal.returns-then-not-has_all-clause-drives
returns-then-not-has_all-clause-drives g c = driven_on g.E.Sees.fixed c.args.self.now _ c.as_slice-own.result.now c.as_slice-own.ensures c.as_slice-received.result.now c.as_slice-received.ensures.value c.due-due.result c.due-due.ensures _ _ (g.E.Sees.seen c.ask_all.new.endpoint) _ c.in_ok-ask_all.ensures refl c.in_ok-send_all.ensures

pub returns-then-not-has_all-clause-none : goal.returns-then-not-has_all-clause-none
returns-then-not-has_all-clause-none g c = λ is. elim c.then-not-has_all.branch [
  | then-not-has_all-via-then-not-has_all w ↦ inl (c.has_all.ensures.no w.if-not-has_all.true)
  | then-not-has_all-via-else-not-has_all+then-self-rounds w ↦ inr (inl (let less = w.if-self-rounds.true in let count = c.rounds-rounds.ensures in omega arith))
  | then-not-has_all-via-else-not-has_all+else-self-rounds+then-self-rounds-2 w ↦ inr (inr (let less = w.if-self-rounds-2.true in let count = c.rounds-rounds.ensures in omega arith))
]

pub returns-clause-drives : goal.returns-clause-drives
returns-clause-drives g c = driven g.E.Sees.fixed c.args.self.now _ c.as_slice-own.result.now c.as_slice-own.ensures c.as_slice-received.result.now c.as_slice-received.ensures.value c.due-due.result c.due-due.ensures _ _ (g.E.Sees.seen c.ask_all.new.endpoint) _ c.in_ok-ask_all.ensures c.in_ok-send_all.ensures
    (of_shares c.args.self.now (c.has_all.ensures.yes (search rules)) c.outcome.result c.outcome.ensures.why)

use Rattle.std.proofs.Common.{refl, sym, ◌∙◌, arith}
use Rattle.fab_app.specs.Within.{Misses}
use Rattle.fab_app.proofs.Chains.{none}
use Rattle.fab_app.proofs.Counting.{missed_by, one_more}
use Rattle.fab_app.proofs.Polling.{polls_on}
use Rattle.fab_app.proofs.endpoint.Endpoint.spin.Goals as goal

pub spins-preserved : goal.spins-preserved
spins-preserved g c = record {
  before = polls_on _ _ _ _ _ _ c.spins.invariant.before c.poll-polled.ensures (sym c.if-is_settled.ensures);
  missed = one_more (Misses g.E.Sees.fixed 64) c.spins._spin _ _ _ c.spins.invariant.missed (missed_by _ _ _ _ c.poll-polled.result c.poll-polled.ensures (sym c.if-is_settled.ensures));
}

pub spins-init : goal.spins-init
spins-init g c = record { before = none _; missed = refl }

pub returns-then-is_settled-clause-tries : goal.returns-then-is_settled-clause-tries
returns-then-is_settled-clause-tries g c = let below = c.spins-test.true in record {
  made = c.spins._spin;
  few = omega (arith, below);
  mid = g.E.Sees.seen c.spins.self;
  missed = c.spins.invariant.missed;
  polls = c.poll-polled.ensures;
  all = λ wrong. absurd (cc (sym wrong ∙ sym c.if-is_settled.ensures));
}

pub returns-clause-tries : goal.returns-clause-tries
returns-clause-tries g c = let past = c.spins-test.false in let end = c.spins.auto._spin-end in record {
  made = c.spins._spin;
  few = end;
  mid = g.E.Sees.seen c.spins.self;
  missed = c.spins.invariant.missed;
  polls = c.poll.ensures;
  all = λ wrong. omega (arith, past, end);
}

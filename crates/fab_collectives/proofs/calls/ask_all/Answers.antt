use Rattle.std.proofs.Common.{true, false, refl, sym, ap, ◌∙◌, arith}
use Rattle.fab_collectives.specs.Routes.{hears_in, rounds_in}
use Rattle.fab_collectives.specs.Driving.{Asks, AsksNot}
use Rattle.fab_collectives.proofs.Driving.{all_had, answered, begins, for_now, handed_on, in_vain, passes, skips}
use Rattle.fab_collectives.proofs.calls.ask_all.Goals as goal
use Rattle.fab_collectives.proofs.calls.ask_all.Goals.{else-hears_in-via-then-hears_in+in_ok-ask+else-not-branch, else-hears_in-via-else-hears_in}

pub loop-k-init : goal.loop-k-init
loop-k-init g c = record {
  at = refl;
  upto = begins _ (λ k. hears_in c.args.work c.args.len k) c.args.asked.now (rounds_in c.args.work c.args.len) (g.E.Sees.seen c.args.endpoint.now);
}

pub returns-in_err-ask : goal.returns-in_err-ask
returns-in_err-ask g c = in_vain _ (λ k. hears_in c.args.work c.args.len k) c.args.asked.now (rounds_in c.args.work c.args.len) _ c.loop-k.k c.loop-k.asked c.loop-k.invariant.at _ _ c.loop-k.invariant.upto _ _ c.in_err-ask.field-0.0
    (handed_on c.from_residual.result c.in_err-ask.field-0.0 c.from_residual.ensures.1) (let last = c.rounds_in-k-end.ensures.count in let below = c.loop-k-test.true in omega arith) c.in_err-ask.ensures

pub returns-then-not-branch : goal.returns-then-not-branch
returns-then-not-branch g c = for_now _ (λ k. hears_in c.args.work c.args.len k) c.args.asked.now (rounds_in c.args.work c.args.len) _ c.loop-k.k c.loop-k.asked c.loop-k.invariant.at _ _ c.loop-k.invariant.upto _ (let last = c.rounds_in-k-end.ensures.count in let below = c.loop-k-test.true in omega arith)
    (answered (Asks c.args.work c.args.len c.loop-k.k) (AsksNot c.args.work c.args.len c.loop-k.k) (g.E.Sees.seen c.loop-k.endpoint) (g.E.Sees.seen c.ask.new.endpoint) c.ask.result c.in_ok-ask.field-0 false c.in_ok-ask.was c.if-not-branch.true c.ask.ensures)

pub loop-k-preserved : goal.loop-k-preserved
loop-k-preserved g c = record {
  at = refl;
  upto = elim c.else-hears_in.branch [
    | else-hears_in-via-then-hears_in+in_ok-ask+else-not-branch w ↦
        passes _ (λ k. hears_in c.args.work c.args.len k) c.args.asked.now (rounds_in c.args.work c.args.len) c.loop-k.k (let last = c.rounds_in-k-end.ensures.count in let below = c.loop-k-test.true in omega arith) _ _ c.loop-k.invariant.upto
        (g.E.Sees.seen w.ask.new.endpoint) _ (ap g.E.Sees.seen w.endpoint-is) (sym c.hears_in.ensures ∙ w.if-hears_in.true)
        (answered (Asks c.args.work c.args.len c.loop-k.k) (AsksNot c.args.work c.args.len c.loop-k.k) (g.E.Sees.seen c.loop-k.endpoint) (g.E.Sees.seen w.ask.new.endpoint) w.ask.result w.in_ok-ask.field-0 true w.in_ok-ask.was w.if-not-branch.false w.ask.ensures)
    | else-hears_in-via-else-hears_in w ↦
        skips _ (λ k. hears_in c.args.work c.args.len k) c.args.asked.now (rounds_in c.args.work c.args.len) c.loop-k.k (let last = c.rounds_in-k-end.ensures.count in let below = c.loop-k-test.true in omega arith) _ _ c.loop-k.invariant.upto
        _ (ap g.E.Sees.seen w.endpoint-is) (sym c.hears_in.ensures ∙ w.if-hears_in.false)
  ];
}

pub returns : goal.returns
returns g c = all_had _ (λ k. hears_in c.args.work c.args.len k) c.args.asked.now (rounds_in c.args.work c.args.len) _ c.loop-k.k c.loop-k.asked c.loop-k.invariant.at _ _ c.loop-k.invariant.upto (let last = c.rounds_in-k-end.ensures.count in let over = c.loop-k-test.false in omega arith)

use Rattle.std.proofs.Common.{true, false, refl, sym, ap, ◌∙◌, arith, length}
use Rattle.fab_collectives.specs.Routes.{tells_in}
use Rattle.fab_collectives.specs.Driving.{Tells, TellsNot}
use Rattle.fab_collectives.proofs.Driving.{all_had, answered, begins, for_now, handed_on, in_vain, passes, skips}
use Rattle.fab_collectives.proofs.calls.send_all.Goals as goal
use Rattle.fab_collectives.proofs.calls.send_all.Goals.{else-tells_in-via-then-tells_in+in_ok-send+else-not-branch, else-tells_in-via-else-tells_in}

pub loop-k-init : goal.loop-k-init
loop-k-init g c = record {
  at = refl;
  upto = begins _ (λ k. tells_in c.args.work (length c.args.own.now) k) c.args.sent.now c.args.due (g.E.Sees.seen c.args.endpoint.now);
}

pub returns-in_err-send : goal.returns-in_err-send
returns-in_err-send g c = in_vain _ (λ k. tells_in c.args.work (length c.args.own.now) k) c.args.sent.now c.args.due _ c.loop-k.k c.loop-k.sent c.loop-k.invariant.at _ _ c.loop-k.invariant.upto _ _ c.in_err-send.field-0.0
    (handed_on c.from_residual.result c.in_err-send.field-0.0 c.from_residual.ensures.1) (let below = c.loop-k-test.true in omega arith) c.in_err-send.ensures

pub returns-then-not-branch : goal.returns-then-not-branch
returns-then-not-branch g c = for_now _ (λ k. tells_in c.args.work (length c.args.own.now) k) c.args.sent.now c.args.due _ c.loop-k.k c.loop-k.sent c.loop-k.invariant.at _ _ c.loop-k.invariant.upto _ (let below = c.loop-k-test.true in omega arith)
    (answered (Tells g.E.Sees.fixed c.args.work c.args.own.now c.args.received.now c.loop-k.k) (TellsNot g.E.Sees.fixed c.args.work c.args.own.now c.args.received.now c.loop-k.k) (g.E.Sees.seen c.loop-k.endpoint) (g.E.Sees.seen c.send.new.endpoint) c.send.result c.in_ok-send.field-0 false c.in_ok-send.was c.if-not-branch.true c.send.ensures)

pub loop-k-preserved : goal.loop-k-preserved
loop-k-preserved g c = record {
  at = refl;
  upto = elim c.else-tells_in.branch [
    | else-tells_in-via-then-tells_in+in_ok-send+else-not-branch w ↦
        passes _ (λ k. tells_in c.args.work (length c.args.own.now) k) c.args.sent.now c.args.due c.loop-k.k (let below = c.loop-k-test.true in omega arith) _ _ c.loop-k.invariant.upto
        (g.E.Sees.seen w.send.new.endpoint) _ (ap g.E.Sees.seen w.endpoint-is) (sym c.tells_in.ensures ∙ w.if-tells_in.true)
        (answered (Tells g.E.Sees.fixed c.args.work c.args.own.now c.args.received.now c.loop-k.k) (TellsNot g.E.Sees.fixed c.args.work c.args.own.now c.args.received.now c.loop-k.k) (g.E.Sees.seen c.loop-k.endpoint) (g.E.Sees.seen w.send.new.endpoint) w.send.result w.in_ok-send.field-0 true w.in_ok-send.was w.if-not-branch.false w.send.ensures)
    | else-tells_in-via-else-tells_in w ↦
        skips _ (λ k. tells_in c.args.work (length c.args.own.now) k) c.args.sent.now c.args.due c.loop-k.k (let below = c.loop-k-test.true in omega arith) _ _ c.loop-k.invariant.upto
        _ (ap g.E.Sees.seen w.endpoint-is) (sym c.tells_in.ensures ∙ w.if-tells_in.false)
  ];
}

pub returns : goal.returns
returns g c = all_had _ (λ k. tells_in c.args.work (length c.args.own.now) k) c.args.sent.now c.args.due _ c.loop-k.k c.loop-k.sent c.loop-k.invariant.at _ _ c.loop-k.invariant.upto (let over = c.loop-k-test.false in omega arith)

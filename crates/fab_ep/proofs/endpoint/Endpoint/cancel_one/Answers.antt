use Rattle.std.proofs.Common.{rules, ◌≡◌, inl, refl, false}
use Rattle.fab_base.specs.declared.faults.Fault.TheVariants.{NoEntry}
use Rattle.fab_base.specs.declared.peers.LineResult.TheVariants.{Refused}
use Rattle.fab_model.specs.Calls.{do_call}
use Rattle.fab_face.specs.Answers.{is_final}
use Rattle.fab_face.specs.Machine.{cancelling}
use Rattle.fab_ep.specs.Value.{seen}
use Rattle.fab_ep.proofs.Answering.{tied_received, cancels_ours, crowded_there, if_err, received, refused_after, refused_by}
use Rattle.fab_ep.proofs.endpoint.Endpoint.cancel_one.Goals as goal

pub returns-then-not-may_cancel-clause-err : goal.returns-then-not-may_cancel-clause-err
returns-then-not-may_cancel-clause-err g c =
    let b = c.draw_before-ready.new.self in
    let is : do_call b.held.state (cancelling c.args.ctx) ≡ (Refused NoEntry, b.held.state) = rw (← c.self.view_is) (c.may_cancel.ensures.no c.if-not-may_cancel.true) in
    refused_after (cancelling c.args.ctx) (seen g.P.Port c.args.self.now) (seen g.P.Port b) NoEntry (cancels_ours c.args.ctx) c.draw_before-ready.ensures.draws refl is (inl refl)

pub returns-in_err-ready-clause-err : goal.returns-in_err-ready-clause-err
returns-in_err-ready-clause-err g c =
    let b = c.draw_before-ready.new.self in
    let granted : is_final (do_call b.held.state (cancelling c.args.ctx)).0 ≡ false = rw (← c.self.view_is) (c.may_cancel.ensures.yes c.if-not-may_cancel.false) in
    if_err _ c.from_residual.result c.in_err-ready.field-0.0 (search rules)
    (crowded_there (cancelling c.args.ctx) (seen g.P.Port c.args.self.now) (seen g.P.Port b) _ c.draw_before-ready.ensures.draws granted c.in_err-ready.ensures.err.0 c.in_err-ready.ensures.err.1)

pub returns-in_err-cancel-clause-err : goal.returns-in_err-cancel-clause-err
returns-in_err-cancel-clause-err g c =
    if_err _ c.from_residual-in_err-cancel.result c.in_err-cancel.field-0.0 (search rules)
    (refused_by (cancelling c.args.ctx) (seen g.P.Port c.args.self.now) _ _ _ c.in_err-cancel.ensures.stays (cancels_ours c.args.ctx) (rw (← c.self.view_is) at c.draw_before-ready.ensures.draws) (rw (← c.self.view_is) at c.in_ok-ready.ensures.ok.1) (c.may_cancel.ensures.yes c.if-not-may_cancel.false) c.in_err-cancel.ensures.err)

pub returns-clause-ok : goal.returns-clause-ok
returns-clause-ok g c =
    received _ (seen g.P.Port c.args.self.now) _ _ _ (rw (← c.self.view_is) at c.draw_before-ready.ensures.draws) c.in_ok-ready.ensures.ok.0 c.in_ok-cancel.ensures.ok c.log_received.ensures

pub invariant_of-self-2 : goal.invariant_of-self-2
invariant_of-self-2 g c =
    let i = c.self.inside in (
      c.self.invariant.0,
      tied_received (seen g.P.Port (record { port = i.port; held = g.C.Machine.held i.core; log = i.log.items; log_size = i.log_size; pushed = i.pushed; next = i.next })) _ _ c.self.invariant.1 c.in_ok-cancel.ensures.ok c.in_ok-cancel.ensures.next refl refl refl c.known.ensures,
      c.self.invariant.2,
    )

use Rattle.std.proofs.Common.{rules, ◌≡◌, refl, ap, false}
use Rattle.fab_base.specs.declared.peers.LineResult.TheVariants.{Refused}
use Rattle.fab_model.specs.Calls.{TakeClaimed, do_call}
use Rattle.fab_face.specs.Answers.{is_final}
use Rattle.fab_ep.specs.Value.{seen}
use Rattle.fab_ep.proofs.Answering.{crowded_out, if_err, received, refused_by, refused_last, still_granted, tied_received}
use Rattle.fab_ep.proofs.Lasting.{takes_last, takes_persist}
use Rattle.fab_ep.proofs.Looks.{takes_ours}
use Rattle.fab_ep.proofs.looking.EndpointLooks.take.Goals as goal

pub returns-in-Some-clause-err : goal.returns-in-Some-clause-err
returns-in-Some-clause-err g c =
    let is : do_call c.args.self.now.held.state (TakeClaimed c.args.buf c.args.ctx) ≡ (Refused c.in-Some.why, c.args.self.now.held.state) = rw (← c.self.view_is) c.in-Some.ensures.some in (
      refl,
      refused_last (TakeClaimed c.args.buf c.args.ctx) (seen g.P.Port c.args.self.now) (seen g.P.Port c.draw_unless_early.new.self) c.in-Some.why (takes_ours _ c.args.ctx) (takes_persist _ c.args.ctx)
          (λ early. ap (seen g.P.Port) (c.draw_unless_early.ensures.early early)) c.draw_unless_early.ensures.draws is c.in-Some.ensures.lasting,
    )

pub returns-in-Err-clause-err : goal.returns-in-Err-clause-err
returns-in-Err-clause-err g c =
    let call = TakeClaimed c.args.buf c.args.ctx in
    let granted : is_final (do_call c.args.self.now.held.state call).0 ≡ false = rw (← c.self.view_is) c.in_default.ensures.none in
    (refl, crowded_out call (seen g.P.Port c.args.self.now) _ _ (takes_last _ c.args.ctx) c.draw_before.ensures.draws granted c.in-Err.ensures.err.0 c.in-Err.ensures.err.1)

pub take_claimed-requires : goal.take_claimed-requires
take_claimed-requires g c =
    let call = TakeClaimed c.args.buf c.args.ctx in
    let granted : is_final (do_call c.args.self.now.held.state call).0 ≡ false = rw (← c.self.view_is) c.in_default.ensures.none in
    let then = still_granted call (seen g.P.Port c.args.self.now) (seen g.P.Port c.draw_before.new.self) (takes_last _ c.args.ctx) c.draw_before.ensures.draws granted in
    record { granted = rw (← c.self-2.view_is) at then }

pub returns-in_err-take_claimed-clause-err : goal.returns-in_err-take_claimed-clause-err
returns-in_err-take_claimed-clause-err g c =
    let call = TakeClaimed c.args.buf c.args.ctx in
    let granted : is_final (do_call c.args.self.now.held.state call).0 ≡ false = rw (← c.self.view_is) c.in_default.ensures.none in
    let then = still_granted call (seen g.P.Port c.args.self.now) (seen g.P.Port c.draw_before.new.self) (takes_last _ c.args.ctx) c.draw_before.ensures.draws granted in
    if_err _ c.from_residual.result c.in_err-take_claimed.field-0.0 (search rules) (
      c.in_err-take_claimed.ensures.err.0,
      refused_by call (seen g.P.Port c.args.self.now) _ _ _ c.in_err-take_claimed.ensures.stays (takes_ours _ c.args.ctx) (rw (← c.self-2.view_is) at c.draw_before.ensures.draws) (rw (← c.self-2.view_is) at c.in_default-draw_before.ensures.ok.1) (rw (← c.self-2.view_is) at then) c.in_err-take_claimed.ensures.err.1,
    )

pub invariant_of-self-2 : goal.invariant_of-self-2
invariant_of-self-2 g c =
    let i = c.self-2.inside in (
      c.self-2.invariant.0,
      tied_received (seen g.P.Port (record { port = i.port; held = g.C.Machine.held i.core; log = i.log.items; log_size = i.log_size; pushed = i.pushed; next = i.next })) _ _ c.self-2.invariant.1 c.in_ok-take_claimed.ensures.ok c.in_ok-take_claimed.ensures.next refl refl refl c.known.ensures,
      c.self-2.invariant.2,
    )

pub returns-clause-ok : goal.returns-clause-ok
returns-clause-ok g c =
    received _ (seen g.P.Port c.args.self.now) _ _ _ (rw (← c.self-2.view_is) at c.draw_before.ensures.draws) c.in_default-draw_before.ensures.ok.0 c.in_ok-take_claimed.ensures.ok c.log_received.ensures

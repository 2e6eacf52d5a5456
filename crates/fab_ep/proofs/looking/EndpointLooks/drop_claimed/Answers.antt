use Rattle.std.proofs.Common.{rules, ◌≡◌, refl, ap, false}
use Rattle.fab_base.specs.declared.peers.LineResult.TheVariants.{Refused}
use Rattle.fab_model.specs.Calls.{DropClaimed, do_call}
use Rattle.fab_face.specs.Answers.{is_final}
use Rattle.fab_ep.specs.Value.{seen}
use Rattle.fab_ep.proofs.Answering.{crowded_out, if_err, received, refused_by, refused_last, still_granted, tied_received}
use Rattle.fab_ep.proofs.Lasting.{drops_last, drops_persist}
use Rattle.fab_ep.proofs.Looks.{drops_ours}
use Rattle.fab_ep.proofs.looking.EndpointLooks.drop_claimed.Goals as goal

pub returns-in-Some-clause-err : goal.returns-in-Some-clause-err
returns-in-Some-clause-err g c =
    let is : do_call c.args.self.now.held.state (DropClaimed c.args.ctx) ≡ (Refused c.in-Some.why, c.args.self.now.held.state) = rw (← c.self.view_is) c.in-Some.ensures.some in
    refused_last (DropClaimed c.args.ctx) (seen g.P.Port c.args.self.now) (seen g.P.Port c.draw_unless_early.new.self) c.in-Some.why (drops_ours c.args.ctx) (drops_persist c.args.ctx)
    (λ early. ap (seen g.P.Port) (c.draw_unless_early.ensures.early early)) c.draw_unless_early.ensures.draws is c.in-Some.ensures.lasting

pub returns-in_err-draw_before-clause-err : goal.returns-in_err-draw_before-clause-err
returns-in_err-draw_before-clause-err g c =
    let call = DropClaimed c.args.ctx in
    let granted : is_final (do_call c.args.self.now.held.state call).0 ≡ false = rw (← c.self.view_is) c.in_default.ensures.none in
    if_err _ c.from_residual.result c.in_err-draw_before.field-0.0 (search rules) (crowded_out call (seen g.P.Port c.args.self.now) _ _ (drops_last c.args.ctx) c.draw_before.ensures.draws granted c.in_err-draw_before.ensures.err.0 c.in_err-draw_before.ensures.err.1)

pub drop_claimed-requires : goal.drop_claimed-requires
drop_claimed-requires g c =
    let call = DropClaimed c.args.ctx in
    let granted : is_final (do_call c.args.self.now.held.state call).0 ≡ false = rw (← c.self.view_is) c.in_default.ensures.none in
    let then = still_granted call (seen g.P.Port c.args.self.now) (seen g.P.Port c.draw_before.new.self) (drops_last c.args.ctx) c.draw_before.ensures.draws granted in
    record { granted = rw (← c.self-2.view_is) at then }

pub returns-in_err-drop_claimed-clause-err : goal.returns-in_err-drop_claimed-clause-err
returns-in_err-drop_claimed-clause-err g c =
    let call = DropClaimed c.args.ctx in
    let granted : is_final (do_call c.args.self.now.held.state call).0 ≡ false = rw (← c.self.view_is) c.in_default.ensures.none in
    let then = still_granted call (seen g.P.Port c.args.self.now) (seen g.P.Port c.draw_before.new.self) (drops_last c.args.ctx) c.draw_before.ensures.draws granted in
    if_err _ c.from_residual-in_err-drop_claimed.result c.in_err-drop_claimed.field-0.0 (search rules)
    (refused_by call (seen g.P.Port c.args.self.now) _ _ _ c.in_err-drop_claimed.ensures.stays (drops_ours c.args.ctx) (rw (← c.self-2.view_is) at c.draw_before.ensures.draws) (rw (← c.self-2.view_is) at c.in_ok-draw_before.ensures.ok.1) (rw (← c.self-2.view_is) at then) c.in_err-drop_claimed.ensures.err)

pub invariant_of-self-2 : goal.invariant_of-self-2
invariant_of-self-2 g c =
    let i = c.self-2.inside in (
      c.self-2.invariant.0,
      tied_received (seen g.P.Port (record { port = i.port; held = g.C.Machine.held i.core; log = i.log.items; log_size = i.log_size; pushed = i.pushed; next = i.next })) _ _ c.self-2.invariant.1 c.in_ok-drop_claimed.ensures.ok c.in_ok-drop_claimed.ensures.next refl refl refl c.known.ensures,
      c.self-2.invariant.2,
    )

pub returns-clause-ok : goal.returns-clause-ok
returns-clause-ok g c =
    received _ (seen g.P.Port c.args.self.now) _ _ _ (rw (← c.self-2.view_is) at c.draw_before.ensures.draws) c.in_ok-draw_before.ensures.ok.0 c.in_ok-drop_claimed.ensures.ok c.log_received.ensures

use Rattle.std.proofs.Common.{rules, ◌≡◌, refl, false}
use Rattle.fab_model.specs.Calls.{do_call}
use Rattle.fab_face.specs.Answers.{is_final}
use Rattle.fab_face.specs.Looking.{looking}
use Rattle.fab_ep.specs.Value.{seen}
use Rattle.fab_ep.proofs.Answering.{crowded_out, if_err, received, refused_by, refused_early, still_granted, tied_received}
use Rattle.fab_ep.proofs.Lasting.{looks_early, looks_last}
use Rattle.fab_ep.proofs.Looks.{looks_ours}
use Rattle.fab_ep.proofs.endpoint.Endpoint.look_for.Goals as goal

pub returns-in-Some-clause-err : goal.returns-in-Some-clause-err
returns-in-Some-clause-err g c =
    rw (← c.self.view_is) (refused_early _ _ c.in-Some.why (looks_ours _) (looks_early _ _ _ c.in-Some.ensures.some c.in-Some.ensures.lasting) c.in-Some.ensures.some)

pub returns-in_err-draw_before-clause-err : goal.returns-in_err-draw_before-clause-err
returns-in_err-draw_before-clause-err g c =
    let call = looking c.args.look.now in
    let granted : is_final (do_call c.args.self.now.held.state call).0 ≡ false = rw (← c.self.view_is) c.in_default.ensures.none in
    if_err _ c.from_residual.result c.in_err-draw_before.field-0.0 (search rules) (crowded_out call (seen g.P.Port c.args.self.now) _ _ (looks_last _) c.draw_before.ensures.draws granted c.in_err-draw_before.ensures.err.0 c.in_err-draw_before.ensures.err.1)

pub look-requires : goal.look-requires
look-requires g c =
    let call = looking c.args.look.now in
    let granted : is_final (do_call c.args.self.now.held.state call).0 ≡ false = rw (← c.self.view_is) c.in_default.ensures.none in
    let then = still_granted call (seen g.P.Port c.args.self.now) (seen g.P.Port c.draw_before.new.self) (looks_last _) c.draw_before.ensures.draws granted in
    record { granted = rw (← c.self-2.view_is) at then }

pub returns-in_err-look-clause-err : goal.returns-in_err-look-clause-err
returns-in_err-look-clause-err g c =
    let call = looking c.args.look.now in
    let granted : is_final (do_call c.args.self.now.held.state call).0 ≡ false = rw (← c.self.view_is) c.in_default.ensures.none in
    let then = still_granted call (seen g.P.Port c.args.self.now) (seen g.P.Port c.draw_before.new.self) (looks_last _) c.draw_before.ensures.draws granted in
    if_err _ c.from_residual-in_err-look.result c.in_err-look.field-0.0 (search rules)
    (refused_by call (seen g.P.Port c.args.self.now) _ _ _ c.in_err-look.ensures.stays (looks_ours _) (rw (← c.self-2.view_is) at c.draw_before.ensures.draws) (rw (← c.self-2.view_is) at c.in_ok-draw_before.ensures.ok.1) (rw (← c.self-2.view_is) at then) c.in_err-look.ensures.err)

pub invariant_of-self-2 : goal.invariant_of-self-2
invariant_of-self-2 g c =
    let i = c.self-2.inside in (
      c.self-2.invariant.0,
      tied_received (seen g.P.Port (record { port = i.port; held = g.C.Machine.held i.core; log = i.log.items; log_size = i.log_size; pushed = i.pushed; next = i.next })) _ _ c.self-2.invariant.1 c.in_ok-look.ensures.ok c.in_ok-look.ensures.next refl refl refl c.known.ensures,
      c.self-2.invariant.2,
    )

pub returns-clause-ok : goal.returns-clause-ok
returns-clause-ok g c =
    received _ (seen g.P.Port c.args.self.now) _ _ _ (rw (← c.self-2.view_is) at c.draw_before.ensures.draws) c.in_ok-draw_before.ensures.ok.0 c.in_ok-look.ensures.ok c.log_received.ensures

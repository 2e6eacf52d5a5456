use Rattle.std.proofs.Common.{rules, ◌≡◌, refl, false, Some}
use Rattle.fab_model.specs.Calls.{do_call}
use Rattle.fab_face.specs.Answers.{is_final, receive_call}
use Rattle.fab_ep.specs.Value.{seen}
use Rattle.fab_ep.proofs.Answering.{crowded_out, if_err, posts_ours, received, refused_by, refused_early, still_granted, tied_received}
use Rattle.fab_ep.proofs.Lasting.{posts_early, posts_last}
use Rattle.fab_ep.proofs.multis.EndpointMultis.recv_multi.Goals as goal

pub returns-in-Some-clause-err : goal.returns-in-Some-clause-err
returns-in-Some-clause-err g c =
    (refl, rw (← c.self.view_is) (refused_early _ _ c.in-Some.why (posts_ours _) (posts_early _ _ _ c.in-Some.ensures.some c.in-Some.ensures.lasting) c.in-Some.ensures.some))

pub returns-in-Err-clause-err : goal.returns-in-Err-clause-err
returns-in-Err-clause-err g c =
    let call = receive_call false c.args.source 0 0 c.args.buf (Some c.args.least) c.args.ctx in
    let granted : is_final (do_call c.args.self.now.held.state call).0 ≡ false = rw (← c.self.view_is) c.in_default.ensures.none in
    (refl, crowded_out call (seen g.P.Port c.args.self.now) _ _ (posts_last _) c.draw_before.ensures.draws granted c.in-Err.ensures.err.0 c.in-Err.ensures.err.1)

pub post_multi-requires : goal.post_multi-requires
post_multi-requires g c =
    let call = receive_call false c.args.source 0 0 c.args.buf (Some c.args.least) c.args.ctx in
    let granted : is_final (do_call c.args.self.now.held.state call).0 ≡ false = rw (← c.self.view_is) c.in_default.ensures.none in
    let then = still_granted call (seen g.P.Port c.args.self.now) (seen g.P.Port c.draw_before.new.self) (posts_last _) c.draw_before.ensures.draws granted in
    record { granted = rw (← c.self-2.view_is) at then }

pub returns-in_err-post_multi-clause-err : goal.returns-in_err-post_multi-clause-err
returns-in_err-post_multi-clause-err g c =
    let call = receive_call false c.args.source 0 0 c.args.buf (Some c.args.least) c.args.ctx in
    let granted : is_final (do_call c.args.self.now.held.state call).0 ≡ false = rw (← c.self.view_is) c.in_default.ensures.none in
    let then = still_granted call (seen g.P.Port c.args.self.now) (seen g.P.Port c.draw_before.new.self) (posts_last _) c.draw_before.ensures.draws granted in
    if_err _ c.from_residual.result c.in_err-post_multi.field-0.0 (search rules) (
      c.in_err-post_multi.ensures.err.0,
      refused_by call (seen g.P.Port c.args.self.now) _ _ _ c.in_err-post_multi.ensures.stays (posts_ours _) (rw (← c.self-2.view_is) at c.draw_before.ensures.draws) (rw (← c.self-2.view_is) at c.in_default-draw_before.ensures.ok.1) (rw (← c.self-2.view_is) at then) c.in_err-post_multi.ensures.err.1,
    )

pub invariant_of-self-2 : goal.invariant_of-self-2
invariant_of-self-2 g c =
    let i = c.self-2.inside in (
      c.self-2.invariant.0,
      tied_received (seen g.P.Port (record { port = i.port; held = g.C.Machine.held i.core; log = i.log.items; log_size = i.log_size; pushed = i.pushed; next = i.next })) _ _ c.self-2.invariant.1 c.in_ok-post_multi.ensures.ok c.in_ok-post_multi.ensures.next refl refl refl c.known.ensures,
      c.self-2.invariant.2,
    )

pub returns-clause-ok : goal.returns-clause-ok
returns-clause-ok g c =
    received _ (seen g.P.Port c.args.self.now) _ _ _ (rw (← c.self-2.view_is) at c.draw_before.ensures.draws) c.in_default-draw_before.ensures.ok.0 c.in_ok-post_multi.ensures.ok c.log_received.ensures

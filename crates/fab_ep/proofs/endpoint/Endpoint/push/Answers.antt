use Rattle.std.proofs.Common.{rules, refl, arith, ◌∙◌, sym}
use Rattle.fab_ep.specs.Value.{seen}
use Rattle.fab_ep.proofs.Staying.{pushing_none, pushing_on, pushing_err, pushing_all, pushing_peers}
use Rattle.fab_ep.proofs.endpoint.Endpoint.push.Goals as goal

pub loop-dest-init : goal.loop-dest-init
loop-dest-init g c = record {
  pushing = pushing_none (seen g.P.Port c.args.self.now);
  ins = refl;
  next = refl;
  places = c.requires.places;
  peers = search rules;
}

pub loop-dest-preserved : goal.loop-dest-preserved
loop-dest-preserved g c =
    let was = c.loop-dest.invariant in
    let a = seen g.P.Port c.args.self.now in
    let e = seen g.P.Port c.loop-dest.self in
    let e1 = seen g.P.Port c.push_to.new.self in
    let on = pushing_on a e e1 c.loop-dest.dest was.pushing c.in_ok-push_to.ensures.pushes c.in_ok-push_to.ensures.others c.in_ok-push_to.ensures.stays in
    record {
      pushing = on;
      ins = c.in_ok-push_to.ensures.ins ∙ was.ins;
      next = c.in_ok-push_to.ensures.next ∙ was.next;
      places = c.in_ok-push_to.ensures.places;
      peers = was.peers ∙ pushing_peers a e _ was.pushing ∙ sym (pushing_peers a e1 _ on);
    }

pub returns-in_err-push_to-clause-pushes : goal.returns-in_err-push_to-clause-pushes
returns-in_err-push_to-clause-pushes g c =
    pushing_err (seen g.P.Port c.args.self.now) (seen g.P.Port c.loop-dest.self) (seen g.P.Port c.push_to.new.self) c.loop-dest.dest c.from_residual.result c.in_err-push_to.field-0.0 (search rules)
    c.loop-dest.invariant.pushing c.in_err-push_to.ensures.pushes

pub returns-clause-pushes : goal.returns-clause-pushes
returns-clause-pushes g c =
    let was = c.loop-dest.invariant in
    pushing_all (seen g.P.Port c.args.self.now) (seen g.P.Port c.loop-dest.self) c.loop-dest.dest was.pushing (omega (arith, c.loop-dest-test.false, c.loop-dest.auto.dest-end, was.peers))

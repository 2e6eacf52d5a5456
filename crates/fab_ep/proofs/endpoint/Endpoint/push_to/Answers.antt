use Rattle.std.proofs.Common.{rules, refl, ◌∙◌}
use Rattle.fab_ep.specs.Value.{seen}
use Rattle.fab_ep.proofs.Staying.{stays_then, stays_none}
use Rattle.fab_ep.proofs.Pushing.{posting_none, posting_on, pushed_end, pushed_err}
use Rattle.fab_ep.proofs.endpoint.Endpoint.push_to.Goals as goal

pub loop-init : goal.loop-init
loop-init g c = record {
  pushed = posting_none (seen g.P.Port c.args.self.now) c.args.dest;
  places = c.requires.places;
  others = λ k other. refl;
  ins = refl;
  next = refl;
  stays = stays_none (seen g.P.Port c.args.self.now) c.args.dest;
  dest = refl;
}

pub loop-preserved : goal.loop-preserved
loop-preserved g c =
    let was = c.loop.invariant in
    record {
      pushed = posting_on (seen g.P.Port c.args.self.now) (seen g.P.Port c.loop.self) (seen g.P.Port c.push_on.new.self) c.args.dest c.args.dest was.pushed (search rules);
      places = c.in_ok-push_on.ensures.places;
      others = λ k other. c.in_ok-push_on.ensures.others k other ∙ was.others k other;
      ins = c.in_ok-push_on.ensures.ins ∙ was.ins;
      next = c.in_ok-push_on.ensures.next ∙ was.next;
      stays = stays_then (seen g.P.Port c.args.self.now) (seen g.P.Port c.loop.self) (seen g.P.Port c.push_on.new.self) c.args.dest was.stays c.in_ok-push_on.ensures.stays;
      dest = refl;
    }

pub returns-in_err-push_on-clause-pushes : goal.returns-in_err-push_on-clause-pushes
returns-in_err-push_on-clause-pushes g c =
    pushed_err (seen g.P.Port c.args.self.now) (seen g.P.Port c.loop.self) (seen g.P.Port c.push_on.new.self) c.args.dest c.args.dest c.from_residual.result _ c.in_err-push_on.field-0.0 _ (search rules) refl c.loop.invariant.pushed c.in_err-push_on.ensures.tries

pub returns-in_err-push_on-clause-stays : goal.returns-in_err-push_on-clause-stays
returns-in_err-push_on-clause-stays g c = stays_then (seen g.P.Port c.args.self.now) (seen g.P.Port c.loop.self) (seen g.P.Port c.push_on.new.self) c.args.dest c.loop.invariant.stays c.in_err-push_on.ensures.stays

pub returns-clause-stays : goal.returns-clause-stays
returns-clause-stays g c = stays_then (seen g.P.Port c.args.self.now) (seen g.P.Port c.loop.self) (seen g.P.Port c.push_on.new.self) c.args.dest c.loop.invariant.stays c.in_ok-push_on.ensures.stays

pub returns-clause-pushes : goal.returns-clause-pushes
returns-clause-pushes g c = pushed_end (seen g.P.Port c.args.self.now) (seen g.P.Port c.loop.self) (seen g.P.Port c.push_on.new.self) c.args.dest c.args.dest c.loop.invariant.pushed (search rules)

use Rattle.std.proofs.Common.{rules, refl, ◌∙◌}
use Rattle.fab_ep.specs.Value.{seen}
use Rattle.fab_ep.proofs.Letting.{letting_none, letting_on, letting_end}
use Rattle.fab_ep.proofs.endpoint.Endpoint.let_out.Goals as goal

pub loop-init : goal.loop-init
loop-init g c = record { letting = letting_none (seen g.P.Port c.args.self.now) c.args.dest c.requires.only c.requires.place; ins = refl; next = refl; dest = refl }

pub loop-preserved : goal.loop-preserved
loop-preserved g c = record {
  letting = letting_on (seen g.P.Port c.args.self.now) (seen g.P.Port c.loop.self) (seen g.P.Port c.let_out_one.new.self) c.args.dest g.P.Port.FIXED c.loop.invariant.letting (search rules);
  ins = c.let_out_one.ensures.ins ∙ c.loop.invariant.ins;
  next = c.let_out_one.ensures.next ∙ c.loop.invariant.next;
  dest = refl;
}

pub returns-clause-out : goal.returns-clause-out
returns-clause-out g c =
    letting_end g.P.Port.FIXED (seen g.P.Port c.args.self.now) (seen g.P.Port c.loop.self) (seen g.P.Port c.let_out_one.new.self) c.args.dest c.loop.invariant.letting (search rules)

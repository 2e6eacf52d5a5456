use Rattle.std.proofs.Common.{inl, inr, rules, refl, arith, ◌≡◌, ◌+◌, ◌∙◌}
use Rattle.fab_ep.specs.Value.{seen}
use Rattle.fab_ep.specs.Tries.{taken_on, posted_on}
use Rattle.fab_ep.proofs.Turning.{turning_none, counted, counted_short, lane_next, turned_to, turning_err, one_at_most, err_of}
use Rattle.fab_ep.proofs.endpoint.Endpoint.round.Goals as goal

pub loop-step-init : goal.loop-step-init
loop-step-init g c = record {
  turning = turning_none g.P.Port.FIXED (seen g.P.Port c.args.self.now) c.args.self.now.next (rw (← c.self.view_is) c.self.invariant.2);
  long = refl;
  most = omega arith;
  some = c.requires.some;
  lanes = (let n : c.peers.result ≡ g.P.Port.peer_count c.args.self.now.port = rw (← c.self.view_is) c.peers.ensures in omega (arith, n));
  pushed = refl;
  left = refl;
}

pub try_next-requires : goal.try_next-requires
try_next-requires g c =
    let was = c.loop-step.invariant in
    lane_next g.P.Port.FIXED (seen g.P.Port c.args.self.now) (seen g.P.Port c.loop-step.self) c.loop-step.turn.taken c.loop-step.turn.posted c.loop-step._step c.loop-step.turn.held c.args.self.now.next c.loop-step.self.next was.turning
    (omega (arith, was.lanes, c.loop-step-test.true))

pub returns-then-left-turn-clause-rounds : goal.returns-then-left-turn-clause-rounds
returns-then-left-turn-clause-rounds g c =
    let was = c.loop-step.invariant in
    turned_to g.P.Port.FIXED c.args.left c.loop-step._step (seen g.P.Port c.args.self.now) (seen g.P.Port c.loop-step.self) c.args.self.now.next c.loop-step.self.next c.loop-step.turn was.turning was.most was.long
    (inr (omega (arith, was.most, c.if-left-turn.true), was.some))

pub returns-in_err-tried-clause-rounds : goal.returns-in_err-tried-clause-rounds
returns-in_err-tried-clause-rounds g c =
    let was = c.loop-step.invariant in
    let w = c.loop-step.turn in
    let a = seen g.P.Port c.args.self.now in
    let e1 = seen g.P.Port c.try_next.new.self in
    err_of g.P.Port.FIXED c.args.left a e1 c.args.self.now.next c.try_next.new.self.next c.from_residual.result c.in_err-tried.field-0.0 (search rules)
    (turning_err g.P.Port.FIXED c.args.left a (seen g.P.Port c.loop-step.self) e1 w.taken w.posted c.loop-step._step w.held c.args.self.now.next c.loop-step.self.next c.try_next.new.self.next c.in_err-tried.field-0.0
    (omega (arith, was.lanes, c.loop-step-test.true)) was.turning c.in_err-tried.ensures.next c.in_err-tried.ensures.tries (omega (arith, c.if-left-turn.false)) c.in_err-tried.ensures.memory)

pub returns-then-turn-clause-rounds : goal.returns-then-turn-clause-rounds
returns-then-turn-clause-rounds g c =
    let was = c.loop-step.invariant in
    let w = c.loop-step.turn in
    let m = c.count.new.self in
    let counted_ = c.count.ensures in
    let taken : m.taken ≡ w.taken + taken_on c.loop-step.self.next c.in_ok-tried.tried = rw (← c.self-in-loop-step.view_is) counted_.taken in
    let posted : m.posted ≡ w.posted + posted_on c.loop-step.self.next c.in_ok-tried.tried = rw (← c.self-in-loop-step.view_is) counted_.posted in
    counted_short g.P.Port.FIXED c.args.left (seen g.P.Port c.args.self.now) (seen g.P.Port c.loop-step.self) (seen g.P.Port c.try_next.new.self) w m c.loop-step._step c.args.self.now.next c.loop-step.self.next c.try_next.new.self.next c.in_ok-tried.tried
    was.turning c.in_ok-tried.ensures.next c.in_ok-tried.ensures.tries was.long counted_.short c.if-turn.true posted taken was.most

pub loop-step-preserved : goal.loop-step-preserved
loop-step-preserved g c =
    let was = c.loop-step.invariant in
    let w = c.loop-step.turn in
    let m = c.count.new.self in
    let counted_ = c.count.ensures in
    let taken : m.taken ≡ w.taken + taken_on c.loop-step.self.next c.in_ok-tried.tried = rw (← c.self-in-loop-step.view_is) counted_.taken in
    let posted : m.posted ≡ w.posted + posted_on c.loop-step.self.next c.in_ok-tried.tried = rw (← c.self-in-loop-step.view_is) counted_.posted in
    let one = one_at_most c.loop-step.self.next c.in_ok-tried.tried in
    record {
      turning = counted g.P.Port.FIXED (seen g.P.Port c.args.self.now) (seen g.P.Port c.loop-step.self) (seen g.P.Port c.try_next.new.self) w m c.loop-step._step c.args.self.now.next c.loop-step.self.next c.try_next.new.self.next c.in_ok-tried.tried
          (omega (arith, was.lanes, c.loop-step-test.true)) was.turning c.in_ok-tried.ensures.next c.in_ok-tried.ensures.tries was.long counted_.short c.if-turn.false posted taken counted_.held;
      long = c.if-turn.false;
      most = omega (arith, one, taken, posted, c.if-left-turn.false);
      some = was.some;
      lanes = was.lanes;
      pushed = c.in_ok-tried.ensures.pushed ∙ was.pushed;
      left = refl;
    }

pub returns-clause-rounds : goal.returns-clause-rounds
returns-clause-rounds g c =
    let was = c.loop-step.invariant in
    turned_to g.P.Port.FIXED c.args.left c.loop-step._step (seen g.P.Port c.args.self.now) (seen g.P.Port c.loop-step.self) c.args.self.now.next c.loop-step.self.next c.loop-step.turn was.turning was.most was.long
    (inl (omega (arith, was.lanes, c.loop-step-test.false, c.loop-step.auto._step-end)))

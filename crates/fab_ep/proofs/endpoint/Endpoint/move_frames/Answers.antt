use Rattle.std.proofs.Common.{rules, true, false, ◌≡◌, ◌≢◌, ◌<◌, ◌+◌, ◌-◌, ◌∙◌, inl, inr, Ok, Err, refl, arith}
use Rattle.fab_face.specs.declared.events.Stop.TheVariants.{Idle, CqFull, LogFull}
use Rattle.fab_ep.specs.Value.{seen}
use Rattle.fab_ep.specs.Tries.{TurnedOn}
use Rattle.fab_ep.proofs.Turning.{ended_at, ended_drawn, ended_in, going_none, going_on, progress_err_of, progress_ok, progress_spent, stops_at, room_left, turned_whole, turns_from}
use Rattle.fab_ep.proofs.endpoint.Endpoint.move_frames.Goals as goal

pub loop-turn-init : goal.loop-turn-init
loop-turn-init g c = record {
  going = (false, going_none (seen g.P.Port c.args.self.now));
  most = omega arith;
  turns = omega arith;
  left = inr refl;
  pushed = refl;
  next = refl;
  budget = refl;
}

pub turn-requires : goal.turn-requires
turn-requires g c =
    let below : c.loop-turn.taken + c.loop-turn.posted < c.args.budget = room_left _ _ _ c.loop-turn.invariant.left c.loop-turn-test.true in
    omega (arith, below)

pub returns-in_err-turn : goal.returns-in_err-turn
returns-in_err-turn g c =
    let was = c.loop-turn.invariant in
    let going = was.going in
    let turns = turns_from g.P.Port.FIXED (c.args.budget - c.loop-turn.taken - c.loop-turn.posted) (seen g.P.Port c.loop-turn.self) (seen g.P.Port c.turn.new.self) c.args.self.now.next c.loop-turn.self.next c.turn.new.self.next (Err c.in_err-turn.field-0.0) was.next c.in_err-turn.ensures.turns in
    progress_err_of g.P.Port.FIXED going.0 (seen g.P.Port c.args.self.now) (seen g.P.Port c.loop-turn.self) (seen g.P.Port c.turn.new.self) c.args.budget c.loop-turn.taken c.loop-turn.posted _ c.from_residual.result c.in_err-turn.field-0.0
    (search rules) going.1 (let m = was.most in omega (arith, m)) turns (c.in_err-turn.ensures.pushed ∙ was.pushed)

pub overflow_add-taken-in-loop-turn : goal.overflow_add-taken-in-loop-turn
overflow_add-taken-in-loop-turn g c =
    let m = c.loop-turn.invariant.most in
    let t = c.in_ok-turn.ensures.turns in
    let n = t.most in
    omega (arith, m, n, c.ranges.budget.fits)

pub returns-then-taken-posted : goal.returns-then-taken-posted
returns-then-taken-posted g c =
    let was = c.loop-turn.invariant in
    let going = was.going in
    let turn : TurnedOn g.P.Port.FIXED (c.args.budget - c.loop-turn.taken - c.loop-turn.posted) (seen g.P.Port c.loop-turn.self) (seen g.P.Port c.turn.new.self) c.args.self.now.next c.turn.new.self.next c.in_ok-turn.turn =
    turns_from g.P.Port.FIXED (c.args.budget - c.loop-turn.taken - c.loop-turn.posted) (seen g.P.Port c.loop-turn.self) (seen g.P.Port c.turn.new.self) c.args.self.now.next c.loop-turn.self.next c.turn.new.self.next (Ok c.in_ok-turn.turn) was.next c.in_ok-turn.ensures.turns in
    let ended = ended_in g.P.Port.FIXED going.0 (seen g.P.Port c.args.self.now) (seen g.P.Port c.loop-turn.self) (seen g.P.Port c.turn.new.self) c.loop-turn.taken c.loop-turn.posted _ c.in_ok-turn.turn going.1 turn in
    let drawn = ended_drawn g.P.Port.FIXED (seen g.P.Port c.args.self.now) (seen g.P.Port c.turn.new.self) (seen g.P.Port c.spend.new.self) _ _ ended c.spend.ensures.draws in
    progress_spent g.P.Port.FIXED (seen g.P.Port c.args.self.now) (seen g.P.Port c.turn.new.self) (seen g.P.Port c.spend.new.self) c.args.budget _ _ c.spend.result c.spend.ensures.moved drawn
    (omega (arith, c.if-taken-posted.true)) c.spend.ensures.draws (c.in_ok-turn.ensures.pushed ∙ was.pushed)

pub returns-then-turn : goal.returns-then-turn
returns-then-turn g c =
    let was = c.loop-turn.invariant in
    let m = was.most in
    let going = was.going in
    let turn : TurnedOn g.P.Port.FIXED (c.args.budget - c.loop-turn.taken - c.loop-turn.posted) (seen g.P.Port c.loop-turn.self) (seen g.P.Port c.turn.new.self) c.args.self.now.next c.turn.new.self.next c.in_ok-turn.turn =
    turns_from g.P.Port.FIXED (c.args.budget - c.loop-turn.taken - c.loop-turn.posted) (seen g.P.Port c.loop-turn.self) (seen g.P.Port c.turn.new.self) c.args.self.now.next c.loop-turn.self.next c.turn.new.self.next (Ok c.in_ok-turn.turn) was.next c.in_ok-turn.ensures.turns in
    let n = turn.most in
    let ended = ended_in g.P.Port.FIXED going.0 (seen g.P.Port c.args.self.now) (seen g.P.Port c.loop-turn.self) (seen g.P.Port c.turn.new.self) c.loop-turn.taken c.loop-turn.posted _ c.in_ok-turn.turn going.1 turn in
    progress_ok g.P.Port.FIXED (seen g.P.Port c.args.self.now) (seen g.P.Port c.turn.new.self) c.args.budget _ _ LogFull ended (omega (arith, m, n)) (c.in_ok-turn.ensures.pushed ∙ was.pushed)
    ((λ is. absurd (cc)), (λ is. absurd (omega (arith, is, c.if-taken-posted.false)))) (turn.short c.if-turn.true)

pub returns-then-turn-2 : goal.returns-then-turn-2
returns-then-turn-2 g c =
    let was = c.loop-turn.invariant in
    let m = was.most in
    let going = was.going in
    let turn : TurnedOn g.P.Port.FIXED (c.args.budget - c.loop-turn.taken - c.loop-turn.posted) (seen g.P.Port c.loop-turn.self) (seen g.P.Port c.turn.new.self) c.args.self.now.next c.turn.new.self.next c.in_ok-turn.turn =
    turns_from g.P.Port.FIXED (c.args.budget - c.loop-turn.taken - c.loop-turn.posted) (seen g.P.Port c.loop-turn.self) (seen g.P.Port c.turn.new.self) c.args.self.now.next c.loop-turn.self.next c.turn.new.self.next (Ok c.in_ok-turn.turn) was.next c.in_ok-turn.ensures.turns in
    let n = turn.most in
    let ended = ended_in g.P.Port.FIXED going.0 (seen g.P.Port c.args.self.now) (seen g.P.Port c.loop-turn.self) (seen g.P.Port c.turn.new.self) c.loop-turn.taken c.loop-turn.posted _ c.in_ok-turn.turn going.1 turn in
    progress_ok g.P.Port.FIXED (seen g.P.Port c.args.self.now) (seen g.P.Port c.turn.new.self) c.args.budget _ _ CqFull ended (omega (arith, m, n)) (c.in_ok-turn.ensures.pushed ∙ was.pushed)
    ((λ is. absurd (cc)), (λ is. absurd (omega (arith, is, c.if-taken-posted.false))))
    (stops_at g.P.Port.FIXED going.0 (seen g.P.Port c.args.self.now) (seen g.P.Port c.loop-turn.self) (seen g.P.Port c.turn.new.self) _ _ _ _ _ c.in_ok-turn.turn CqFull going.1 turn c.if-turn.false (search rules) (inl (search rules, refl)))

pub returns-else-turn-2 : goal.returns-else-turn-2
returns-else-turn-2 g c =
    let was = c.loop-turn.invariant in
    let m = was.most in
    let going = was.going in
    let turn : TurnedOn g.P.Port.FIXED (c.args.budget - c.loop-turn.taken - c.loop-turn.posted) (seen g.P.Port c.loop-turn.self) (seen g.P.Port c.turn.new.self) c.args.self.now.next c.turn.new.self.next c.in_ok-turn.turn =
    turns_from g.P.Port.FIXED (c.args.budget - c.loop-turn.taken - c.loop-turn.posted) (seen g.P.Port c.loop-turn.self) (seen g.P.Port c.turn.new.self) c.args.self.now.next c.loop-turn.self.next c.turn.new.self.next (Ok c.in_ok-turn.turn) was.next c.in_ok-turn.ensures.turns in
    let n = turn.most in
    let ended = ended_in g.P.Port.FIXED going.0 (seen g.P.Port c.args.self.now) (seen g.P.Port c.loop-turn.self) (seen g.P.Port c.turn.new.self) c.loop-turn.taken c.loop-turn.posted _ c.in_ok-turn.turn going.1 turn in
    progress_ok g.P.Port.FIXED (seen g.P.Port c.args.self.now) (seen g.P.Port c.turn.new.self) c.args.budget _ _ Idle ended (omega (arith, m, n)) (c.in_ok-turn.ensures.pushed ∙ was.pushed)
    ((λ is. absurd (cc)), (λ is. absurd (omega (arith, is, c.if-taken-posted.false))))
    (stops_at g.P.Port.FIXED going.0 (seen g.P.Port c.args.self.now) (seen g.P.Port c.loop-turn.self) (seen g.P.Port c.turn.new.self) _ _ _ _ _ c.in_ok-turn.turn Idle going.1 turn c.if-turn.false (search rules) (inr (search rules, refl)))

pub loop-turn-preserved : goal.loop-turn-preserved
loop-turn-preserved g c =
    let was = c.loop-turn.invariant in
    let before = was.going in
    let m = was.most in
    let s = was.turns in
    let t : TurnedOn g.P.Port.FIXED (c.args.budget - c.loop-turn.taken - c.loop-turn.posted) (seen g.P.Port c.loop-turn.self) (seen g.P.Port c.turn.new.self) c.args.self.now.next c.turn.new.self.next c.in_ok-turn.turn =
    turns_from g.P.Port.FIXED (c.args.budget - c.loop-turn.taken - c.loop-turn.posted) (seen g.P.Port c.loop-turn.self) (seen g.P.Port c.turn.new.self) c.args.self.now.next c.loop-turn.self.next c.turn.new.self.next (Ok c.in_ok-turn.turn) was.next c.in_ok-turn.ensures.turns in
    let n = t.most in
    let more : c.loop-turn.taken + c.in_ok-turn.turn.taken + (c.loop-turn.posted + c.in_ok-turn.turn.posted) ≢ c.args.budget = λ is. omega (arith, is, c.if-taken-posted.false) in
    let whole = turned_whole g.P.Port.FIXED before.0 (seen g.P.Port c.args.self.now) (seen g.P.Port c.loop-turn.self) (seen g.P.Port c.turn.new.self) c.loop-turn.taken c.loop-turn.posted c.args.budget c.args.self.now.next c.turn.new.self.next c.in_ok-turn.turn before.1 t m c.if-turn.false more in
    record {
      going = (true, going_on g.P.Port.FIXED before.0 _ _ _ _ _ _ _ _ c.in_ok-turn.turn before.1 t whole.0);
      most = omega (arith, m, n);
      turns = omega (arith, s, c.if-turn-eq0.false);
      left = inl (omega (arith, m, n, c.if-taken-posted.false));
      pushed = c.in_ok-turn.ensures.pushed ∙ was.pushed;
      next = whole.1;
      budget = refl;
    }

pub returns : goal.returns
returns g c =
    let was = c.loop-turn.invariant in
    let before = was.going in
    let m = was.most in
    let s = was.turns in
    let all : c.loop-turn.taken + c.loop-turn.posted ≡ c.args.budget = omega (arith, m, s, c.loop-turn-test.false, c.loop-turn.auto._turn-end) in
    let ended = ended_at g.P.Port.FIXED before.0 (seen g.P.Port c.args.self.now) (seen g.P.Port c.loop-turn.self) (seen g.P.Port c.spend-2.new.self) _ _ was.next before.1 c.spend-2.ensures.draws in
    progress_spent g.P.Port.FIXED (seen g.P.Port c.args.self.now) (seen g.P.Port c.loop-turn.self) (seen g.P.Port c.spend-2.new.self) c.args.budget c.loop-turn.taken c.loop-turn.posted c.spend-2.result c.spend-2.ensures.moved ended all c.spend-2.ensures.draws was.pushed

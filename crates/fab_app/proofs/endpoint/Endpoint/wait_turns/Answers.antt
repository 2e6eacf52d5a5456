use Rattle.std.proofs.Common.{◌≡◌, ◌+◌, ◌*◌, ℕ, sym, ◌∙◌, subst, arith}
use Rattle.std.proofs.Math.Nat.{add-mul, mul-le-mul_right}
use Rattle.fab_app.specs.Within.{Misses, Times}
use Rattle.fab_app.proofs.Chains.{none}
use Rattle.fab_app.proofs.Counting.{all_missed, no_steps, then_steps, within_after, within_last}
use Rattle.fab_app.proofs.Polling.{waits_after, waits_on}
use Rattle.fab_app.proofs.endpoint.Endpoint.wait_turns.Goals as goal

pub returns-then-is_settled-clause-waits : goal.returns-then-is_settled-clause-waits
returns-then-is_settled-clause-waits g c = waits_after _ _ _ _ _ _ c.turns.invariant.before c.spin-polled.ensures.waits

pub returns-then-is_settled-clause-tries : goal.returns-then-is_settled-clause-tries
returns-then-is_settled-clause-tries g c =
    let below = c.turns-test.true in
    let n = c.args.spins + 1 in
    let up = mul-le-mul_right {m = c.turns._turn + 1} {n = c.args.turns} n (omega (arith, below)) in
    let one = add-mul c.turns._turn 1 n in
    within_after _ _ (c.turns._turn * n) c.args.spins (c.args.turns * n) _ _ _ c.spin-polled.result c.turns.invariant.missed c.spin-polled.ensures.tries (omega (arith, up, one)) (λ wrong. absurd (cc (sym wrong ∙ sym c.if-is_settled.ensures)))

pub turns-preserved : goal.turns-preserved
turns-preserved g c =
    let n = c.args.spins + 1 in
    let e : (c.turns._turn * n) + n ≡ (c.turns._turn + 1) * n = (let one = add-mul c.turns._turn 1 n in omega (arith, one)) in
    record {
      before = waits_on _ _ _ _ _ _ c.turns.invariant.before c.spin-polled.ensures.waits (sym c.if-is_settled.ensures);
      missed = subst (λ (k : ℕ). Times (Misses g.E.Sees.fixed 64) k (g.E.Sees.seen c.args.self.now) (g.E.Sees.seen c.spin-polled.new.self)) e
          (then_steps (Misses g.E.Sees.fixed 64) (c.turns._turn * n) n _ _ _ c.turns.invariant.missed (all_missed _ _ c.args.spins _ _ c.spin-polled.result c.spin-polled.ensures.tries (sym c.if-is_settled.ensures)));
    }

pub turns-init : goal.turns-init
turns-init g c = record { before = none _; missed = no_steps _ _ _ (omega arith) }

pub returns-clause-tries : goal.returns-clause-tries
returns-clause-tries g c =
    let past = c.turns-test.false in let end = c.turns.auto._turn-end in
    let same : c.turns._turn ≡ c.args.turns = omega (arith, past, end) in
    within_last _ _ (c.args.turns * (c.args.spins + 1)) _ _ _ c.poll.result
    (subst (λ (k : ℕ). Times (Misses g.E.Sees.fixed 64) (k * (c.args.spins + 1)) (g.E.Sees.seen c.args.self.now) (g.E.Sees.seen c.turns.self)) same c.turns.invariant.missed) c.poll.ensures

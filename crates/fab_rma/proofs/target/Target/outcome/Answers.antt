use Rattle.std.proofs.Common.{◌≡◌, ◌∙◌, sym, ap, true, false, length, arith}
use Rattle.std.specs.Prelude.{nat_lt, ◌+◌}
use Rattle.std.proofs.lemmas.Bool.Decides.{nat_tests}
use Rattle.fab_mr.specs.Regions.{region_at}
use Rattle.fab_model.specs.Target.{may_access, reach_of}
use Rattle.fab_rma.proofs.Performing.{found, judged_access, judged_none, judged_range, not_found}
use Rattle.fab_rma.proofs.target.Target.outcome.Goals as goal
use Rattle.fab_rma.proofs.target.Target.outcome.Goals.{then-reach-bytes-via-then-reach-bytes, then-reach-bytes-via-else-reach-bytes+then-head-bytes}

pub returns-in_default : goal.returns-in_default
returns-in_default c = rw (← c.self.view_is) (sym (judged_none (region_at c.self.inside.regions c.args.head.now.key) c.args.head.now (not_found (λ r. r.access) _ c.in_default.ensures.access)))

pub returns-then-not-may_access : goal.returns-then-not-may_access
returns-then-not-may_access c =
    let f = found (region_at c.self.inside.regions c.args.head.now.key) c.in-Some.access c.in-Some.bytes.now c.in-Some.ensures.access c.in-Some.ensures.bytes in
    rw (← c.self.view_is) (sym (judged_access (region_at c.self.inside.regions c.args.head.now.key) c.args.head.now f.0 f.1 (ap (λ a. may_access a c.args.head.now) f.2 ∙ sym c.if-not-may_access.ensures)))

pub returns-then-reach-bytes : goal.returns-then-reach-bytes
returns-then-reach-bytes c =
    let f = found (region_at c.self.inside.regions c.args.head.now.key) c.in-Some.access c.in-Some.bytes.now c.in-Some.ensures.access c.in-Some.ensures.bytes in
    let len = ap length f.3 in
    let reach = c.reach_of-reach.ensures in
    let past : nat_lt (length f.0.bytes) (c.args.head.now.at + reach_of c.args.head.now) ≡ true = elim c.then-reach-bytes.branch [
      | then-reach-bytes-via-then-reach-bytes w ↦ (let t = w.if-reach-bytes.true in grind (arith, nat_tests))
      | then-reach-bytes-via-else-reach-bytes+then-head-bytes w ↦ (let t = w.if-reach-bytes.false in let u = w.if-head-bytes.true in grind (arith, nat_tests))
    ] in
    rw (← c.self.view_is) (sym (judged_range (region_at c.self.inside.regions c.args.head.now.key) c.args.head.now f.0 f.1 (ap (λ a. may_access a c.args.head.now) f.2 ∙ sym c.if-not-may_access.ensures) true past))

pub returns : goal.returns
returns c =
    let f = found (region_at c.self.inside.regions c.args.head.now.key) c.in-Some.access c.in-Some.bytes.now c.in-Some.ensures.access c.in-Some.ensures.bytes in
    let len = ap length f.3 in
    let reach = c.reach_of-reach.ensures in
    let t = c.if-reach-bytes.false in
    let u = c.if-head-bytes.false in
    let within : nat_lt (length f.0.bytes) (c.args.head.now.at + reach_of c.args.head.now) ≡ false = grind (arith, nat_tests) in
    rw (← c.self.view_is) (sym (judged_range (region_at c.self.inside.regions c.args.head.now.key) c.args.head.now f.0 f.1 (ap (λ a. may_access a c.args.head.now) f.2 ∙ sym c.if-not-may_access.ensures) false within))

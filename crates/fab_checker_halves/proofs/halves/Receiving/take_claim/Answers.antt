use Rattle.std.proofs.Common.{rules, ℕ, List, Some, None, ◌≡◌, sym, ap, ◌∙◌, refl, Bool}
use Rattle.std.specs.Prelude.{position, ◌==◌}
use Rattle.fab_base.specs.declared.operations.Arrival.{Arrival}
use Rattle.fab_model.specs.State.{Receiving}
use Rattle.fab_model.proofs.Firsts.{first_at, first_none}
use Rattle.fab_checker_halves.specs.Seen.{rx_of}
use Rattle.fab_checker_halves.proofs.halves.Receiving.take_claim.Goals as goal

abbrev is_under : ℕ → ℕ × Arrival → Bool
is_under ctx c = c.0 == ctx

abbrev with_claimed : List (ℕ × Arrival) → Receiving → Receiving
with_claimed claimed rx = record rx { claimed = claimed }

pub returns-in_default-clause-found : goal.returns-in_default-clause-found
returns-in_default-clause-found c =
    let none : position (is_under c.args.ctx) c.args.self.now.claimed.items ≡ None = search rules in
    rw ((first_none (is_under c.args.ctx) c.args.self.now.claimed.items none).0) refl

pub returns-in_default-clause-rest : goal.returns-in_default-clause-rest
returns-in_default-clause-rest c =
    let none : position (is_under c.args.ctx) c.args.self.now.claimed.items ≡ None = search rules in
    let same = (first_none (is_under c.args.ctx) c.args.self.now.claimed.items none).1 in
    ap (λ claimed. with_claimed claimed (rx_of c.args.self.now)) (sym same)

pub returns-clause-found : goal.returns-clause-found
returns-clause-found c =
    let at : position (is_under c.args.ctx) c.args.self.now.claimed.items ≡ Some c.in-Some.at = search rules in
    let first = first_at (is_under c.args.ctx) c.remove-arrival.result c.args.self.now.claimed.items c.in-Some.at at in
    rw (first.found) (ap (λ (x : ℕ × Arrival). Some x.1) c.remove-arrival.ensures.value)

pub returns-clause-rest : goal.returns-clause-rest
returns-clause-rest c =
    let at : position (is_under c.args.ctx) c.args.self.now.claimed.items ≡ Some c.in-Some.at = search rules in
    let first = first_at (is_under c.args.ctx) c.remove-arrival.result c.args.self.now.claimed.items c.in-Some.at at in
    ap (λ claimed. with_claimed claimed (rx_of c.args.self.now)) (c.remove-arrival.ensures.items ∙ sym (first.rest))

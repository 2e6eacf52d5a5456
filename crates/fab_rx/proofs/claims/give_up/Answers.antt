use Rattle.std.proofs.Common.{◌≡◌, ◌∙◌, ◌==◌, ℕ, None, Some, sym, ap, rules}
use Rattle.std.specs.Prelude.{position}
use Rattle.std.specs.Option.{option_map}
use Rattle.fab_model.proofs.Firsts.{first_at, first_none, remove_first_at}
use Rattle.fab_rx.proofs.claims.give_up.Goals as goal

pub returns-in_default-clause-id : goal.returns-in_default-clause-id
returns-in_default-clause-id c =
    let none : position (λ claim. claim.1 == c.args.ctx) c.args.claims.now.items ≡ None = search rules in
    sym (ap (option_map (λ (p : ℕ × ℕ). p.0)) (first_none (λ claim. claim.1 == c.args.ctx) c.args.claims.now.items none).0)

pub returns-in_default-clause-rest : goal.returns-in_default-clause-rest
returns-in_default-clause-rest c =
    let none : position (λ claim. claim.1 == c.args.ctx) c.args.claims.now.items ≡ None = search rules in
    sym (first_none (λ claim. claim.1 == c.args.ctx) c.args.claims.now.items none).1

pub returns-clause-id : goal.returns-clause-id
returns-clause-id c =
    let at : position (λ claim. claim.1 == c.args.ctx) c.args.claims.now.items ≡ Some c.in-Some.place = search rules in
    ap (λ (p : ℕ × ℕ). Some p.0) c.remove-id.ensures.value ∙ sym (ap (option_map (λ (p : ℕ × ℕ). p.0)) (first_at (λ claim. claim.1 == c.args.ctx) c.remove-id.result c.args.claims.now.items c.in-Some.place at).found)

pub returns-clause-rest : goal.returns-clause-rest
returns-clause-rest c =
    let at : position (λ claim. claim.1 == c.args.ctx) c.args.claims.now.items ≡ Some c.in-Some.place = search rules in
    c.remove-id.ensures.items ∙ sym (remove_first_at (λ claim. claim.1 == c.args.ctx) c.args.claims.now.items c.in-Some.place at)

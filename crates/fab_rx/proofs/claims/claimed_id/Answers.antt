use Rattle.std.proofs.Common.{◌≡◌, ◌==◌, ℕ, None, Some, sym, ap, rules}
use Rattle.std.specs.Prelude.{position}
use Rattle.std.specs.Option.{option_map}
use Rattle.fab_model.proofs.Firsts.{first_at, first_none}
use Rattle.fab_rx.proofs.claims.claimed_id.Goals as goal

pub returns-in_default : goal.returns-in_default
returns-in_default c =
    let none : position (λ claim. claim.1 == c.args.ctx) c.args.claims.now ≡ None = search rules in
    sym (ap (option_map (λ (p : ℕ × ℕ). p.0)) (first_none (λ claim. claim.1 == c.args.ctx) c.args.claims.now none).0)

pub returns : goal.returns
returns c =
    let at : position (λ claim. claim.1 == c.args.ctx) c.args.claims.now ≡ Some c.in-Some.place = search rules in
    sym (ap (option_map (λ (p : ℕ × ℕ). p.0)) (first_at (λ claim. claim.1 == c.args.ctx) (0, 0) c.args.claims.now c.in-Some.place at).found)

use Rattle.std.proofs.Common.{rules, ◌≡◌, ◌==◌, ◌≢◌, ◌∙◌, sym, Some, None}
use Rattle.std.specs.Prelude.{position}
use Rattle.std.proofs.lemmas.List.Folds.{list_any_at}
use Rattle.std.proofs.lemmas.List.Quantifiers.{all_pairs_remove, position-Some}
use Rattle.fab_model.proofs.Firsts.{remove_first_at, remove_first-none, list_any-none}
use Rattle.fab_match.proofs.Pairs.{has_id-without}
use Rattle.fab_match.proofs.list_matcher.remove_pair.Goals as goal

pub returns-in_default-clause-there : goal.returns-in_default-clause-there
returns-in_default-clause-there g c =
    let none : position (λ p. p.0 == c.args.id) c.args.pairs.now.items ≡ None = search rules in
    sym (list_any-none (λ p. p.0 == c.args.id) c.args.pairs.now.items none)

pub returns-in_default-clause-rest : goal.returns-in_default-clause-rest
returns-in_default-clause-rest g c =
    let none : position (λ p. p.0 == c.args.id) c.args.pairs.now.items ≡ None = search rules in
    sym (remove_first-none (λ p. p.0 == c.args.id) c.args.pairs.now.items (list_any-none (λ p. p.0 == c.args.id) c.args.pairs.now.items none))

pub returns-in_default-clause-gone : goal.returns-in_default-clause-gone
returns-in_default-clause-gone g c =
    let none : position (λ p. p.0 == c.args.id) c.args.pairs.now.items ≡ None = search rules in
    list_any-none (λ p. p.0 == c.args.id) c.args.pairs.now.items none

pub returns-clause-there : goal.returns-clause-there
returns-clause-there g c =
    let at : position (λ p. p.0 == c.args.id) c.args.pairs.now.items ≡ Some c.in-Some.at = search rules in
    let place = position-Some (λ p. p.0 == c.args.id) c.args.pairs.now.items c.in-Some.at c.remove.result at in
    sym (list_any_at (λ p. p.0 == c.args.id) c.args.pairs.now.items c.in-Some.at c.remove.result place.0 place.1)

pub returns-clause-rest : goal.returns-clause-rest
returns-clause-rest g c =
    let at : position (λ p. p.0 == c.args.id) c.args.pairs.now.items ≡ Some c.in-Some.at = search rules in
    c.remove.ensures.items ∙ sym (remove_first_at (λ p. p.0 == c.args.id) c.args.pairs.now.items c.in-Some.at at)

pub returns-clause-distinct : goal.returns-clause-distinct
returns-clause-distinct g c =
    let at : position (λ p. p.0 == c.args.id) c.args.pairs.now.items ≡ Some c.in-Some.at = search rules in
    let place = position-Some (λ p. p.0 == c.args.id) c.args.pairs.now.items c.in-Some.at c.remove.result at in
    rw c.remove.ensures.items (all_pairs_remove (λ p q. p.0 ≢ q.0) c.args.pairs.now.items c.in-Some.at place.0 c.requires)

pub returns-clause-gone : goal.returns-clause-gone
returns-clause-gone g c =
    let at : position (λ p. p.0 == c.args.id) c.args.pairs.now.items ≡ Some c.in-Some.at = search rules in
    let rest = c.remove.ensures.items ∙ sym (remove_first_at (λ p. p.0 == c.args.id) c.args.pairs.now.items c.in-Some.at at) in
    rw rest (has_id-without c.args.id c.args.pairs.now.items c.requires)

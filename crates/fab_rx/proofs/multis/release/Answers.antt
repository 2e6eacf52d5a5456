use Rattle.std.proofs.Common.{◌≡◌, ◌∙◌, ◌==◌, ℕ, true, false, not, List, None, Some, Option, refl, sym, ap, rules}
use Rattle.std.specs.Prelude.{position, IsSome}
use Rattle.std.specs.List.{list_any}
use Rattle.std.proofs.lemmas.List.Quantifiers.{position-Some}
use Rattle.std.proofs.lemmas.List.Folds.{list_any_at}
use Rattle.fab_base.proofs.Bools.{and_false}
use Rattle.fab_model.proofs.Firsts.{remove_first_at, list_any-none}
use Rattle.fab_match.specs.Matcher.{has_id}
use Rattle.fab_rx.specs.declared.stored.Waiting.{Waiting}
use Rattle.fab_rx.specs.declared.stored.Multi.{Multi}
use Rattle.fab_rx.specs.declared.stored.Begun.{Begun}
use Rattle.fab_rx.specs.Table.{at}
use Rattle.fab_rx.specs.Homes.{is_fed_by}
use Rattle.fab_rx.specs.Sharing.{is_over, multi_in}
use Rattle.fab_rx.proofs.multis.release.Goals as goal

-- where none of this id is closing, none is over
not_there : (c : goal.In_default) → is_over c.args.coming.now c.args.closing.now.items c.args.id ≡ false
not_there c =
    let none : position (λ closed. closed.0 == c.args.id) c.args.closing.now.items ≡ None = search rules in
    let lacks : has_id c.args.id c.args.closing.now.items ≡ false = list_any-none (λ closed. closed.0 == c.args.id) c.args.closing.now.items none in
    rw lacks (and_false (not (list_any (is_fed_by c.args.id) c.args.coming.now)))

pub returns-in_default-clause-buffer : goal.returns-in_default-clause-buffer
returns-in_default-clause-buffer c = rw (not_there c) refl

pub returns-in_default-clause-cells : goal.returns-in_default-clause-cells
returns-in_default-clause-cells c = rw (not_there c) refl

pub returns-in_default-clause-spare : goal.returns-in_default-clause-spare
returns-in_default-clause-spare c = rw (not_there c) refl

pub returns-in_default-clause-rest : goal.returns-in_default-clause-rest
returns-in_default-clause-rest c = rw (not_there c) refl

-- it is there, and no item is under way to it
is_there : (closing : List (ℕ × ℕ)) (id place : ℕ) → position (λ (closed : ℕ × ℕ). closed.0 == id) closing ≡ Some place → has_id id closing ≡ true
is_there closing id place e =
    let there = position-Some (λ (closed : ℕ × ℕ). closed.0 == id) closing place (0, 0) e in
    list_any_at (λ (closed : ℕ × ℕ). closed.0 == id) closing place (0, 0) there.0 there.1

over : (coming : List (Option Begun)) (closing : List (ℕ × ℕ)) (id place : ℕ) → list_any (is_fed_by id) coming ≡ false → position (λ (closed : ℕ × ℕ). closed.0 == id) closing ≡ Some place → is_over coming closing id ≡ true
over coming closing id place unfed e = rw (unfed, is_there closing id place e) refl

multi_there : (o : Option Waiting) → IsSome (multi_in o) → o ≡ None → ⊥
multi_there None some e = absurd (cc)
multi_there (Some w) some e = absurd (cc)

no_multi : (o : Option Multi) → IsSome o → o ≡ None → ⊥
no_multi None some e = absurd (cc)
no_multi (Some m) some e = absurd (cc)

pub unreachable-requires : goal.unreachable-requires
unreachable-requires c =
    let there = c.requires.there (is_there c.args.closing.now.items c.args.id c.in-Some.place (search rules)) in
    multi_there (at c.args.seats.now c.args.id) there (search rules)

pub unreachable-requires-in_default-multi : goal.unreachable-requires-in_default-multi
unreachable-requires-in_default-multi c =
    let there = c.requires.there (is_there c.args.closing.now.items c.args.id c.in-Some.place (search rules)) in
    let is : multi_in (at c.args.seats.now c.args.id) ≡ None = ap multi_in (sym c.in-Some-take.ensures.value) ∙ c.in_default-multi.is in
    no_multi (multi_in (at c.args.seats.now c.args.id)) there is

pub returns-clause-buffer : goal.returns-clause-buffer
returns-clause-buffer c =
    let yes = over c.args.coming.now c.args.closing.now.items c.args.id c.in-Some.place (sym c.if-is_fed.ensures) (search rules) in
    rw (yes, ← c.in-Some-take.ensures.value, c.in-Some-multi.is) refl

pub returns-clause-cells : goal.returns-clause-cells
returns-clause-cells c =
    let yes = over c.args.coming.now c.args.closing.now.items c.args.id c.in-Some.place (sym c.if-is_fed.ensures) (search rules) in
    rw yes c.take.ensures.cells

pub returns-clause-spare : goal.returns-clause-spare
returns-clause-spare c =
    let yes = over c.args.coming.now c.args.closing.now.items c.args.id c.in-Some.place (sym c.if-is_fed.ensures) (search rules) in
    rw yes c.in-Some-take.ensures.spare

pub returns-clause-rest : goal.returns-clause-rest
returns-clause-rest c =
    let yes = over c.args.coming.now c.args.closing.now.items c.args.id c.in-Some.place (sym c.if-is_fed.ensures) (search rules) in
    let at : position (λ closed. closed.0 == c.args.id) c.args.closing.now.items ≡ Some c.in-Some.place = search rules in
    rw yes (c.remove.ensures.items ∙ sym (remove_first_at (λ closed. closed.0 == c.args.id) c.args.closing.now.items c.in-Some.place at))

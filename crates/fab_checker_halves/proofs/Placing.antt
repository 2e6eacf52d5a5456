-- The arrival of a message: where it goes.
use Rattle.std.proofs.Common.{◌≡◌, ℕ, Bool, true, false, List, Some, None, refl, sym, ap, ◌∙◌}
use Rattle.std.specs.Prelude.{find, get_or, position, slice_set}
use Rattle.fab_base.specs.declared.items.ItemHead.{ItemHead}
use Rattle.fab_base.specs.declared.operations.Receive.{Receive}
use Rattle.fab_base.specs.declared.operations.Coming.TheVariants.{Into}
use Rattle.fab_model.specs.State.{Receiving}
use Rattle.fab_model.specs.Arrivals.{is_wanted, stays, used_up, seated, heading_message}
use Rattle.fab_model.specs.Receiving.{goes}
use Rattle.fab_model.proofs.Firsts.{first_at, first_none, remove_first_at}
use Rattle.fab_checker_values.proofs.Changing.{change_first_at}
use Rattle.fab_checker_halves.specs.Places.{placed, kept_newcomer, seated_at, seated_in}

seated_step : (test : Receive → Bool) (total : ℕ) (r : Receive) (posted : List Receive) (k : ℕ) (b : Bool) → stays total r ≡ b → position test posted ≡ Some k → r ≡ get_or posted k r
    → seated test total r posted ≡ seated_at k total r posted
seated_step test total r posted k true st at is = rw (st, seated, seated_at) (change_first_at test (used_up total) r posted k at ∙ ap (λ x. slice_set posted k (used_up total x)) (sym is))
seated_step test total r posted k false st at is = rw (st, seated, seated_at) (remove_first_at test posted k at)

pub seated_is : (test : Receive → Bool) (total : ℕ) (r : Receive) (posted : List Receive) (k : ℕ) → position test posted ≡ Some k → r ≡ get_or posted k r → seated test total r posted ≡ seated_at k total r posted
seated_is test total r posted k at is = seated_step test total r posted k (stays total r) refl at is

pub found_at : {X : Type 0} (test : X → Bool) (r : X) (xs : List X) (k : ℕ) → position test xs ≡ Some k → r ≡ get_or xs k r → find test xs ≡ Some r
found_at test r xs k at is = let first = first_at test r xs k at in first.found ∙ ap Some (sym is)

pub placed_none : (source : ℕ) (head : ItemHead) (rx : Receiving) → position (is_wanted source head) rx.posted ≡ None → kept_newcomer source head rx ≡ placed source head rx
unfolding heading_message
placed_none source head rx e = let none = (first_none (is_wanted source head) rx.posted e).0 in rw (none, placed, heading_message) refl

abbrev with_seated : List Receive → ℕ → Receive → ℕ → ℕ → Receiving → Receiving
with_seated posted source r total k rx = goes source (Into r r.used) (record (seated_in k total r rx) { posted = posted })

pub placed_some : (source : ℕ) (head : ItemHead) (rx : Receiving) (k : ℕ) (r : Receive) → position (is_wanted source head) rx.posted ≡ Some k → r ≡ get_or rx.posted k r
    → goes source (Into r r.used) (seated_in k head.total r rx) ≡ placed source head rx
unfolding heading_message
placed_some source head rx k r at is =
    let some = found_at (is_wanted source head) r rx.posted k at is in
    rw (some, placed, heading_message) (ap (λ posted. with_seated posted source r head.total k rx) (sym (seated_is (is_wanted source head) head.total r rx.posted k at is)))

-- What a request does, by the region that its key names.
use Rattle.std.proofs.Common.{◌≡◌, ℕ, true, false, List, Some, None, refl, sym}
use Rattle.std.specs.Prelude.{find}
use Rattle.fab_base.specs.declared.items.ItemHead.{ItemHead}
use Rattle.fab_base.specs.declared.items.Outcome.{Outcome}
use Rattle.fab_base.specs.declared.items.Outcome.TheVariants.{Done, BadKey, BadAccess, BadRange}
use Rattle.fab_model.specs.State.{Region}
use Rattle.fab_model.specs.Target.{is_keyed, outcome_of, refused_by, performed_in, perform}
use Rattle.fab_checker_values.specs.NewElements.{is_done}

pub perform_none : (regions : List Region) (head : ItemHead) (bytes : List ℕ) → find (is_keyed head.key) regions ≡ None → refused_by BadKey regions ≡ perform regions head bytes
unfolding perform outcome_of
perform_none regions head bytes e = rw (e, perform, outcome_of) refl

refused_step : (regions : List Region) (head : ItemHead) (bytes : List ℕ) (r : Region) (o : Outcome) → find (is_keyed head.key) regions ≡ Some r → outcome_of (Some r) head ≡ o → is_done o ≡ false
    → refused_by o regions ≡ perform regions head bytes
unfolding perform
refused_step regions head bytes r Done e f bad = absurd (cc)
refused_step regions head bytes r BadKey e f bad = rw (e, f, perform) refl
refused_step regions head bytes r BadAccess e f bad = rw (e, f, perform) refl
refused_step regions head bytes r BadRange e f bad = rw (e, f, perform) refl

pub perform_refused : (regions : List Region) (head : ItemHead) (bytes : List ℕ) (r : Region) (o : Outcome) → find (is_keyed head.key) regions ≡ Some r → o ≡ outcome_of (Some r) head → is_done o ≡ false
    → refused_by o regions ≡ perform regions head bytes
perform_refused regions head bytes r o e f bad = refused_step regions head bytes r o e (sym f) bad

pub done_is : (o : Outcome) → is_done o ≡ true → o ≡ Done
done_is Done e = refl
done_is BadKey e = absurd (cc)
done_is BadAccess e = absurd (cc)
done_is BadRange e = absurd (cc)

pub perform_done : (regions : List Region) (head : ItemHead) (bytes : List ℕ) (r : Region) → find (is_keyed head.key) regions ≡ Some r → outcome_of (Some r) head ≡ Done → performed_in r regions head bytes ≡ perform regions head bytes
unfolding perform
perform_done regions head bytes r e f = rw (e, f, perform, e) refl

use Rattle.std.proofs.Common.{◌≡◌, ℕ, Option, length}
use Rattle.fab_kept.specs.Places.{places_of, somes}
use Rattle.fab_kept.proofs.list.trim.Given as goal

abbrev pub invariant-ends : goal.invariant-ends
invariant-ends l = record {
  kept : somes l.places.items ≡ somes l.fn.places.items;
  places : (ctx : Option ℕ) → places_of ctx l.places.items ≡ places_of ctx l.fn.places.items;
}

abbrev pub decreases-ends : goal.decreases-ends
decreases-ends l = length l.places.items

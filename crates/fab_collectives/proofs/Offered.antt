-- A message that is awaited, and of which no completion that was offered is, is awaited still.
use Rattle.std.proofs.Common.{◌≡◌, ℕ, zero, suc, ◌<◌, Bool, true, false, ◌==◌, if◌then◌else◌, List, [], ◌∷◌, get_or, Option, None, Some, inl, inr, ◌⊎◌, refl, sym, ap, ◌∙◌, arith, All}
use Rattle.std.specs.Prelude.{Any, slice_set}
use Rattle.std.proofs.lemmas.Bool.{eqb-true, eqb-false}
use Rattle.std.proofs.lemmas.List.{get_or-set_other}
use Rattle.std.proofs.lemmas.List.FromFn.{get_or-map-range_with_len}
use Rattle.fab_app.specs.declared.completions.Polled.{Polled}
use Rattle.fab_topology.proofs.Finding.{each_is_from}
use Rattle.fab_collectives.specs.declared.offers.Message.{Message}
use Rattle.fab_collectives.specs.declared.collective.Work.{Work}
use Rattle.fab_collectives.specs.Beginning.{hearings}
use Rattle.fab_collectives.specs.Offered.{Brings, EachIsOffered, awaited_behind}
use Rattle.fab_collectives.specs.Offering.{awaited_after, brought, is_of, round_of, without_round}
use Rattle.fab_collectives.specs.Routes.{hears_in, rounds_in, source_in, topology_of}

-- where nothing is awaited, no message is
pub none : (awaited : List Bool) (k : ℕ) → All (λ a. a ≡ false) awaited → get_or awaited k false ≡ false
none [] k all = refl
none (a ∷ awaited) zero all = all zero false (omega arith)
none (a ∷ awaited) (suc k) all = none awaited k (λ j d below. all (suc j) d (omega (arith, below)))

module _ (work : Work) (len k : ℕ) where
  -- a message of this round is from the rank that is heard in it
  from : (message : Option Message) → round_of work len message ≡ Some k → (one : Message) × (message ≡ Some one) × (one.source ≡ source_in work len k)
  from None is = absurd (cc (is))
  from (Some one) is = let found = each_is_from (topology_of work len) work.peers work.rank one.source (rounds_in work len) k is in (one, refl, sym found.2)

  still : (awaited : List Bool) (polled : Polled) → get_or awaited k false ≡ true
      → Brings work len k polled ⊎ (get_or (awaited_after work len awaited polled) k false ≡ true)
  still awaited polled was = by (is_of work.tag polled) (round_of work len (brought polled)) refl refl
    where
      brings : is_of work.tag polled ≡ true → round_of work len (brought polled) ≡ Some k → Brings work len k polled
      brings own is = let it = from (brought polled) is in (own, it.0, it.1, it.2)

      here : (j : ℕ) (b : Bool) → (j == k) ≡ b → is_of work.tag polled ≡ true → round_of work len (brought polled) ≡ Some j
          → Brings work len k polled ⊎ (get_or (slice_set awaited j false) k false ≡ true)
      here j true same own is = inl (brings own (is ∙ ap Some (eqb-true j k same)))
      here j false other own is = inr (get_or-set_other awaited j k false false (λ e. eqb-false j k other (sym e)) ∙ was)

      by : (own : Bool) (round : Option ℕ) → is_of work.tag polled ≡ own → round_of work len (brought polled) ≡ round
          → Brings work len k polled ⊎ (get_or (if own then without_round awaited round else awaited) k false ≡ true)
      by false round own is = inr was
      by true None own is = inr was
      by true (Some j) own is = here j (j == k) refl own is

  offered : (awaited : List Bool) (polleds : List Polled) → get_or awaited k false ≡ true
      → All (λ a. a ≡ false) (awaited_behind work len awaited polleds) → Any (Brings work len k) polleds
  offered awaited [] was all = absurd (let now = none awaited k all in cc (was, now))
  offered awaited (polled ∷ polleds) was all = by (still awaited polled was) (λ waits. offered (awaited_after work len awaited polled) polleds waits all)
    where
      behind : Any (Brings work len k) polleds → Any (Brings work len k) (polled ∷ polleds)
      behind (at, one, below, is, brings) = (suc at, one, omega (arith, below), is, brings)

      by : Brings work len k polled ⊎ (get_or (awaited_after work len awaited polled) k false ≡ true)
          → (get_or (awaited_after work len awaited polled) k false ≡ true → Any (Brings work len k) polleds) → Any (Brings work len k) (polled ∷ polleds)
      by (inl brings) rest = (zero, polled, omega arith, refl, brings)
      by (inr waits) rest = behind (rest waits)

  -- in whose round the rank hears, that message is awaited first
  heard : k < rounds_in work len → hears_in work len k ≡ true → get_or (hearings work len) k false ≡ true
  heard below hears = get_or-map-range_with_len (λ j. hears_in work len j) 0 (rounds_in work len) k k false below (omega arith) ∙ hears

pub each_is_offered : EachIsOffered
each_is_offered work len polleds all k below hears = offered work len k (hearings work len) polleds (heard work len k below hears) all

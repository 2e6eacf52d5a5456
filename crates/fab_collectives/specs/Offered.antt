-- Whose messages were offered before a collective is done.
--     awaited_behind work len awaited polleds   of which rounds a message is awaited once these completions were offered, in order
--     Brings work len k polled                  a completion of the collective that brings the message of round k, from the rank that it hears in it
--     EachIsOffered                             where none is awaited any more, the message of each round in which the rank hears was offered
use Rattle.std.specs.Prelude.{◌≡◌, ℕ, ◌<◌, Bool, true, false, List, [], ◌∷◌, All, Any, Some}
use Rattle.fab_app.specs.declared.completions.Polled.{Polled}
use Rattle.fab_collectives.specs.Beginning.{hearings}
use Rattle.fab_collectives.specs.Offering.{awaited_after, brought, is_of}
use Rattle.fab_collectives.specs.Routes.{hears_in, rounds_in, source_in}
use Rattle.fab_collectives.specs.declared.offers.Message.{Message}
use Rattle.fab_collectives.specs.declared.collective.Work.{Work}

-- the clause `awaited` of `offer`, for one after another
abbrev pub awaited_behind : Work → ℕ → List Bool → List Polled → List Bool
awaited_behind work len awaited [] = awaited
awaited_behind work len awaited (polled ∷ polleds) = awaited_behind work len (awaited_after work len awaited polled) polleds

abbrev pub Brings : Work → ℕ → ℕ → Polled → Type 0
Brings work len k polled = (is_of work.tag polled ≡ true) × (message : Message) × (brought polled ≡ Some message) × (message.source ≡ source_in work len k)

-- straight that is each rank whose share is needed, and of a barrier each other rank
abbrev pub EachIsOffered : Type 0
EachIsOffered = (work : Work) (len : ℕ) (polleds : List Polled) → All (λ awaited. awaited ≡ false) (awaited_behind work len (hearings work len) polleds)
    → (k : ℕ) → k < rounds_in work len → hears_in work len k ≡ true → Any (Brings work len k) polleds

-- Completions at their places, some of which are empty, and what the index has of them.
--     somes xs                     what stands there, in order
--     passes test x                something stands there, and it passes
--     ends_empty xs                the last place is empty
--     places_from test n xs        the places of what passes, where the first of all is n
--     places_of ctx xs             the places of the context
--     IsIndexed xs index           the index gives these, of each context
--     Agrees m n, Puts m n ctx ps, Pops m n ctx place      what becomes of an index
--     queue_of map ctx             the places that a map has for the context
use Rattle.std.specs.Prelude.{◌≡◌, ℕ, ◌+◌, ◌-◌, Bool, true, false, cond, nat_eq, List, [], ◌∷◌, length, slice_get, filter_map, Option, Some, None}
use Rattle.std.specs.Option.{option_eq, unwrap_or}
use Rattle.std.specs.HashMap.{HashMap, get}
use Rattle.fab_base.specs.declared.entries.Kept.{Kept}
use Rattle.fab_model.specs.Peers.{is_of_ctx, same_ctx}

-- ---- places

abbrev pub somes : {X : Type 0} → List (Option X) → List X
somes xs = filter_map (λ x. x) xs

abbrev pub passes : {X : Type 0} → (X → Bool) → Option X → Bool
passes test None = false
passes test (Some x) = test x

abbrev pub is_blank : {X : Type 0} → Option (Option X) → Bool
is_blank None = false
is_blank (Some None) = true
is_blank (Some (Some x)) = false

abbrev pub ends_empty : {X : Type 0} → List (Option X) → Bool
ends_empty xs = is_blank (slice_get xs (length xs - 1))

abbrev pub places_from : {X : Type 0} → (X → Bool) → ℕ → List (Option X) → List ℕ
places_from test n [] = []
places_from test n (x ∷ xs) = cond (passes test x) (n ∷ places_from test (n + 1) xs) (places_from test (n + 1) xs)

abbrev pub places_of : Option ℕ → List (Option Kept) → List ℕ
places_of ctx xs = places_from (is_of_ctx ctx) 0 xs

-- ---- the index, which gives the places of each context

abbrev pub IsIndexed : List (Option Kept) → (Option ℕ → List ℕ) → Type 0
IsIndexed xs index = (ctx : Option ℕ) → index ctx ≡ places_of ctx xs

-- each context has the places that it had
abbrev pub Agrees : (Option ℕ → List ℕ) → (Option ℕ → List ℕ) → Type 0
Agrees m n = (c : Option ℕ) → n c ≡ m c

-- the context has these places, and all others have what they had
abbrev pub Puts : (Option ℕ → List ℕ) → (Option ℕ → List ℕ) → Option ℕ → List ℕ → Type 0
Puts m n ctx ps = (c : Option ℕ) → n c ≡ cond (same_ctx c ctx) ps (m c)

-- the context had no place, or this one is the first and leaves
abbrev pub Pops : (Option ℕ → List ℕ) → (Option ℕ → List ℕ) → Option ℕ → Option ℕ → Type 0
Pops m n ctx None = (m ctx ≡ []) × Agrees m n
Pops m n ctx (Some place) = (rest : List ℕ) × (m ctx ≡ place ∷ rest) × Puts m n ctx rest

-- ---- a map of queues

abbrev pub Queues : Type 0 → Type 0
Queues S = HashMap (Option ℕ) (List ℕ) S

-- the places that a map has for a context
abbrev pub queue_of : {S : Type 0} → Queues S → Option ℕ → List ℕ
queue_of map ctx = unwrap_or (get (option_eq nat_eq) map ctx) []

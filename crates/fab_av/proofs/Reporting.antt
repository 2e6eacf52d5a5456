-- What an insertion tells of its names, one name more.
use Rattle.std.proofs.Common.{◌≡◌, ℕ, ◌<◌, ◌≤◌, Bool, true, false, List, [], ◌∷◌, ◌++◌, length, get_or, map, suc, is_some, Option, Some, None, IsSome, position, All, refl, sym, ap, ◌∙◌, inl, inr, arith, length-append, nat_lt}
use Rattle.std.specs.List.{position_or_len}
use Rattle.std.specs.Option.{option_and_then}
use Rattle.std.proofs.lemmas.Bool.{cases_Bool, cases_lt, lt-ltb}
use Rattle.std.proofs.lemmas.List.{get_or_append_left, map-append, append-nil}
use Rattle.std.proofs.lemmas.List.Elements.{All-push}
use Rattle.std.proofs.lemmas.List.Quantifiers.{position-Some}
use Rattle.std.proofs.lemmas.List.Sums.{position_or_len_is}
use Rattle.fab_model.specs.Calls.{peer_named, is_peer}
use Rattle.fab_av.specs.Addresses.{Addresses, Extends, IsNamed, index_named}

-- the first place stays where a list gets longer
position-append : (test : Option ℕ → Bool) (xs ys : List (Option ℕ)) (i : ℕ) → position test xs ≡ Some i → position test (xs ++ ys) ≡ Some i
position-append test xs ys i e =
    let found = position-Some test xs i None e in
    let here : position_or_len test (xs ++ ys) ≡ i = position_or_len_is test (xs ++ ys) i None (omega (arith, length-append xs ys, found.0))
    (λ k h. rw (get_or_append_left xs ys None k (omega (arith, found.0))) (found.2 k h))
    (λ _. rw (get_or_append_left xs ys None i found.0) found.1) in
    let within : nat_lt i (length (xs ++ ys)) ≡ true = lt-ltb i (length (xs ++ ys)) (omega (arith, length-append xs ys, found.0)) in
    rw (here, within) refl

nothing_more : (xs more : List (Option ℕ)) → length (xs ++ more) ≤ length xs → xs ++ more ≡ xs
nothing_more xs [] h = append-nil xs
nothing_more xs (y ∷ more) h = absurd (omega (arith, length-append xs (y ∷ more)))

place-stays : (xs more : List (Option ℕ)) (o : Option ℕ) → IsSome (option_and_then (λ peer. position (is_peer peer) xs) o)
    → option_and_then (λ peer. position (is_peer peer) (xs ++ more)) o ≡ option_and_then (λ peer. position (is_peer peer) xs) o
place-stays xs more None h = refl
place-stays xs more (Some k) h = elim (position (is_peer k) xs) as (λ o. position (is_peer k) xs ≡ o → position (is_peer k) (xs ++ more) ≡ position (is_peer k) xs) [
  | Some i ↦ λ e. position-append (is_peer k) xs more i e ∙ sym e
  | None ↦ λ e. let not_there : false ≡ true = rw e at h in cc
] refl

unnamed-stays : (xs more : List (Option ℕ)) (o : Option ℕ) → is_some o ≡ false
    → option_and_then (λ peer. position (is_peer peer) (xs ++ more)) o ≡ option_and_then (λ peer. position (is_peer peer) xs) o
unnamed-stays xs more None h = refl
unnamed-stays xs more (Some k) h = cc

-- what is told of an earlier name stays true
pub index_named-stays : (old new : Addresses) (name : List ℕ) → new.peers ≡ old.peers → Extends new old → length new.indices ≤ 4_096
    → (length old.indices < 4_096 → IsNamed old.peers name → IsSome (index_named old name)) → index_named new name ≡ index_named old name
index_named-stays old new name peers extends limit all = rw (peers, extends.1) (elim (cases_lt (length old.indices) 4_096) [
  | inl room ↦ elim (cases_Bool (is_some (peer_named old.peers name))) [
    | inl named ↦ place-stays old.indices extends.0 (peer_named old.peers name) (all room named)
    | inr unnamed ↦ unnamed-stays old.indices extends.0 (peer_named old.peers name) unnamed
  ]
  | inr full ↦
      let same : old.indices ++ extends.0 ≡ old.indices = nothing_more old.indices extends.0 (omega (arith, ap length extends.1)) in
      rw same refl
])

map_same : (f g : List ℕ → Option ℕ) (xs : List (List ℕ)) → All (λ x. f x ≡ g x) xs → map f xs ≡ map g xs
map_same f g [] h = refl
map_same f g (x ∷ xs) h =
    let first : f x ≡ g x = h 0 x (omega arith) in
    let others = map_same f g xs (λ k d within. h (suc k) d (omega arith)) in
    cc

pub told-more : (old new : Addresses) (names : List (List ℕ)) (indices : List (Option ℕ)) (name : List ℕ) (index : Option ℕ)
    → new.peers ≡ old.peers → Extends new old → length new.indices ≤ 4_096
    → (length old.indices < 4_096 → All (λ n. IsNamed old.peers n → IsSome (index_named old n)) names)
    → indices ≡ map (index_named old) names → index ≡ index_named new name
    → indices ++ index ∷ [] ≡ map (index_named new) (names ++ name ∷ [])
told-more old new names indices name index peers extends limit all told here =
    let same = map_same (index_named new) (index_named old) names (λ k d within. index_named-stays old new (get_or names k d) peers extends limit (λ room. all room k d within)) in
    rw (map-append (index_named new) names (name ∷ []), same, here, told) refl

pub all-more : (old new : Addresses) (names : List (List ℕ)) (name : List ℕ)
    → new.peers ≡ old.peers → Extends new old → length new.indices ≤ 4_096
    → (length old.indices < 4_096 → All (λ n. IsNamed old.peers n → IsSome (index_named old n)) names)
    → (length new.indices < 4_096 → IsNamed old.peers name → IsSome (index_named new name))
    → length new.indices < 4_096 → All (λ n. IsNamed old.peers n → IsSome (index_named new n)) (names ++ name ∷ [])
all-more old new names name peers extends limit all last room =
    let before : length old.indices < 4_096 = omega (arith, ap length extends.1, length-append old.indices extends.0) in
    All-push (λ n. IsNamed old.peers n → IsSome (index_named new n)) names name
    (λ k d within named. rw (index_named-stays old new (get_or names k d) peers extends limit (λ _ _. all before k d within named)) (all before k d within named))
    (last room)

-- What the machine's calls on an address vector come to, case by case.
use Rattle.std.proofs.Common.{◌≡◌, ℕ, ◌+◌, ◌<◌, ◌≤◌, Bool, true, false, List, [], ◌∷◌, ◌++◌, length, Option, Some, None, position, refl, ap, ◌∙◌, nat_lt, slice_set, is_some, take, get_or}
use Rattle.std.proofs.lemmas.Bool.{lt-ltb, le-ltb}
use Rattle.std.proofs.lemmas.List.Sums.{fold_more}
use Rattle.fab_base.specs.declared.faults.Fault.TheVariants.{NoEntry}
use Rattle.fab_base.specs.declared.peers.LineResult.{LineResult}
use Rattle.fab_base.specs.declared.peers.LineResult.TheVariants.{Done, Refused, Index}
use Rattle.fab_base.proofs.Options.{not_some as none_from}
use Rattle.fab_model.specs.State.{State, lookup}
use Rattle.fab_model.specs.Calls.{insert, insert_new, remove, is_peer, peer_named}
use Rattle.fab_av.specs.Addresses.{Addresses, HasAddresses, with_addresses, inserting, insert_next}

-- the state with the address vector that it has
pub same_addresses : (s : State) (av : Addresses) → HasAddresses s av → with_addresses av s ≡ s
same_addresses s av has = rw (← has.indices) refl

-- an insertion, by what the name and then the list say
at_place : State → ℕ → Option ℕ → LineResult × State
at_place s k (Some index) = (Index (Some index), s)
at_place s k None = insert_new s k

at_name : State → Option ℕ → LineResult × State
at_name s None = (Index None, s)
at_name s (Some k) = at_place s k (position (is_peer k) s.av)

at_limit : State → ℕ → Bool → LineResult × State
at_limit s k true = (Index (Some (length s.av)), record s { av = s.av ++ Some k ∷ [] })
at_limit s k false = (Index None, s)

by_name : (s : State) (name : List ℕ) (o : Option ℕ) → peer_named (length s.tx.sent) name ≡ o → insert s name ≡ at_name s o
unfolding insert at_name at_place
by_name s name o e = ap (at_name s) e

by_place : (s : State) (k : ℕ) (o : Option ℕ) → position (is_peer k) s.av ≡ o → at_name s (Some k) ≡ at_place s k o
unfolding at_name
by_place s k o e = ap (at_place s k) e

by_limit : (s : State) (k : ℕ) (below : Bool) → nat_lt (length s.av) 4_096 ≡ below → at_place s k None ≡ at_limit s k below
unfolding at_place at_limit
by_limit s k below e = ap (at_limit s k) e

pub insert-no_peer : (s : State) (name : List ℕ) → peer_named (length s.tx.sent) name ≡ None → insert s name ≡ (Index None, s)
unfolding at_name
insert-no_peer s name e = by_name s name None e

pub insert-there : (s : State) (name : List ℕ) (k : ℕ) (index : Option ℕ) → peer_named (length s.tx.sent) name ≡ Some k → position (is_peer k) s.av ≡ index → is_some index ≡ true → insert s name ≡ (Index index, s)
unfolding at_place
insert-there s name k None e stands there = cc
insert-there s name k (Some i) e stands there = by_name s name (Some k) e ∙ by_place s k (Some i) stands

pub insert-full : (s : State) (name : List ℕ) (k : ℕ) → peer_named (length s.tx.sent) name ≡ Some k → is_some (position (is_peer k) s.av) ≡ false → 4_096 ≤ length s.av → insert s name ≡ (Index None, s)
unfolding at_limit
insert-full s name k e new full = by_name s name (Some k) e ∙ (by_place s k None (none_from _ new) ∙ by_limit s k false (le-ltb (length s.av) 4_096 full))

pub insert-push : (s : State) (name : List ℕ) (k : ℕ) → peer_named (length s.tx.sent) name ≡ Some k → is_some (position (is_peer k) s.av) ≡ false → length s.av < 4_096
    → insert s name ≡ (Index (Some (length s.av)), record s { av = s.av ++ Some k ∷ [] })
unfolding at_limit
insert-push s name k e new room = by_name s name (Some k) e ∙ (by_place s k None (none_from _ new) ∙ by_limit s k true (lt-ltb (length s.av) 4_096 room))

-- a removal, by what stands there
at_index : State → ℕ → Option ℕ → LineResult × State
at_index s index None = (Refused NoEntry, s)
at_index s index (Some k) = (Done, record s { av = slice_set s.av index None })

by_index : (s : State) (index : ℕ) (o : Option ℕ) → lookup s.av index ≡ o → remove s index ≡ at_index s index o
unfolding remove at_index
by_index s index o e = ap (at_index s index) e

pub remove-none : (s : State) (index : ℕ) → lookup s.av index ≡ None → remove s index ≡ (Refused NoEntry, s)
unfolding at_index
remove-none s index e = by_index s index None e

pub remove-some : (s : State) (index k : ℕ) → lookup s.av index ≡ Some k → remove s index ≡ (Done, record s { av = slice_set s.av index None })
unfolding at_index
remove-some s index k e = by_index s index (Some k) e

-- one name more
pub inserting-more : (s mid after : State) (names : List (List ℕ)) (i : ℕ) (answers : List LineResult) (one : LineResult) → i < length names
    → inserting s (take i names) ≡ (answers, mid) → insert mid (get_or names i []) ≡ (one, after) → inserting s (take (i + 1) names) ≡ (answers ++ one ∷ [], after)
inserting-more s mid after names i answers one h before step =
    fold_more insert_next ([], s) names i [] h
    ∙ (ap (λ (done : List LineResult × State). insert_next done (get_or names i [])) before
    ∙ ap (λ (next : LineResult × State). (answers ++ next.0 ∷ [], next.1)) step)

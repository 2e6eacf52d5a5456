-- The two tables of an address vector agree: by index, and by peer.
use Rattle.std.proofs.Common.{◌≡◌, ℕ, ◌<◌, ◌≤◌, ◌≢◌, Bool, true, false, List, [], ◌∷◌, ◌++◌, length, get_or, Option, Some, None, is_some, position, refl, sym, ap, ◌∙◌, inl, inr, arith, get_or-set_other, get_or-set_same, length-append, slice_set}
use Rattle.std.specs.List.{position_or_len}
use Rattle.std.specs.Option.{option_and_then}
use Rattle.std.proofs.lemmas.Bool.{cases_eq, cases_lt, cases_order, eq-eqb, eqb-true}
use Rattle.std.proofs.lemmas.Bool.Decides.{nat_tests}
use Rattle.std.proofs.lemmas.List.{get_or_past, get_or_append_left}
use Rattle.std.proofs.lemmas.List.Quantifiers.{position-Some}
use Rattle.std.proofs.lemmas.List.Sums.{fails_before_first}
use Rattle.std.proofs.lemmas.Option.{same_Some}
use Rattle.std.proofs.Math.Seq.{get_or-append_seam}
use Rattle.std.proofs.lemmas.Grind.{common_steps}
use Rattle.fab_model.specs.State.{State, lookup}
use Rattle.fab_model.specs.Calls.{is_peer, peer_named}
use Rattle.fab_av.specs.Addresses.{HasAddresses, IsTable, index_named}

-- an address stands within its list
pub in_list : (xs : List (Option ℕ)) (i k : ℕ) → lookup xs i ≡ Some k → i < length xs
in_list xs i k e = elim (cases_lt i (length xs)) [
  | inl below ↦ below
  | inr above ↦ let past : lookup xs i ≡ None = get_or_past xs i None above in cc
]

pub peer_below : (peers : ℕ) (b p : List (Option ℕ)) (i k : ℕ) → IsTable peers b p → lookup b i ≡ Some k → k < peers
peer_below peers b p i k table e =
    let within = in_list p k i (table.found i k e) in
    omega (arith, table.all)

-- ---- where a peer stands

is_peer_true : (k : ℕ) (o : Option ℕ) → is_peer k o ≡ true → o ≡ Some k
is_peer_true k None e = cc
is_peer_true k (Some peer) e = ap Some (eqb-true peer k e)

is_peer_self : (k : ℕ) (o : Option ℕ) → o ≡ Some k → is_peer k o ≡ true
is_peer_self k o e = rw e (eq-eqb k k refl)

-- no place passes where there is no first one
fails_where_none : (test : Option ℕ → Bool) (xs : List (Option ℕ)) (i : ℕ) → position test xs ≡ None → i < length xs → test (get_or xs i None) ≡ false
fails_where_none test xs i e h =
    let last : length xs ≤ position_or_len test xs = grind (arith, nat_tests) in
    fails_before_first test xs i None (omega arith)

pub position-table : (peers : ℕ) (b p : List (Option ℕ)) (k : ℕ) → IsTable peers b p → position (is_peer k) b ≡ lookup p k
position-table peers b p k table = elim (position (is_peer k) b) as (λ o. position (is_peer k) b ≡ o → o ≡ lookup p k) [
  | Some j ↦ λ e.
      let passes = position-Some (is_peer k) b j None e in
      sym (table.found j k (is_peer_true k (get_or b j None) passes.1))
  | None ↦ λ e. elim (lookup p k) as (λ o. lookup p k ≡ o → None ≡ o) [
    | None ↦ λ _. refl
    | Some i ↦ λ h.
        let stands = table.stands k i h in
        let fails = fails_where_none (is_peer k) b i e (in_list b i k stands) in
        let passes = is_peer_self k (get_or b i None) stands in
        cc
  ] refl
] refl

-- in a state with this address vector
pub position-in : (s : State) (peers : ℕ) (b p : List (Option ℕ)) (k : ℕ) → HasAddresses s (record { peers = peers; indices = b }) → IsTable peers b p → position (is_peer k) s.av ≡ lookup p k
position-in s peers b p k has table = ap (position (is_peer k)) has.indices ∙ position-table peers b p k table

pub index_named-table : (peers : ℕ) (b p : List (Option ℕ)) (name : List ℕ) (k : ℕ) → IsTable peers b p → peer_named peers name ≡ Some k → index_named (record { peers = peers; indices = b }) name ≡ lookup p k
index_named-table peers b p name k table e = ap (option_and_then (λ peer. position (is_peer peer) b)) e ∙ position-table peers b p k table

-- ---- one more address

pub IsTable-push : (peers : ℕ) (b p : List (Option ℕ)) (k : ℕ) → IsTable peers b p → k < peers → is_some (lookup p k) ≡ false → length b < 4_096
    → IsTable peers (b ++ Some k ∷ []) (slice_set p k (Some (length b)))
IsTable-push peers b p k table below new room = record {
  all = grind (arith, common_steps);
  limit = grind (arith, common_steps);
  found = λ i k' e. elim (cases_order i (length b)) [
    | inl same ↦
        let last : lookup (b ++ Some k ∷ []) i ≡ Some k = rw same (get_or-append_seam b (Some k) [] None) in
        let equal : k' ≡ k = same_Some k' k (sym e ∙ last) in
        rw (equal, same) (get_or-set_same p k (Some (length b)) None (omega (arith, table.all)))
    | inr order ↦ elim order [
      | inl before ↦
          let old : lookup b i ≡ Some k' = sym (get_or_append_left b (Some k ∷ []) None i before) ∙ e in
          let index = table.found i k' old in
          let other : k' ≢ k = λ equal.
          let index_of_k : lookup p k ≡ Some i = rw equal at index in
          let there : is_some (Some i) ≡ false = rw index_of_k at new in
          cc in
          get_or-set_other p k k' (Some (length b)) None other ∙ index
      | inr beyond ↦
          let past : lookup (b ++ Some k ∷ []) i ≡ None = get_or_past (b ++ Some k ∷ []) i None (omega (arith, length-append b (Some k ∷ []))) in
          cc
    ]
  ];
  stands = λ k' i e. elim (cases_eq k' k) [
    | inl same ↦
        let given : lookup (slice_set p k (Some (length b))) k' ≡ Some (length b) = rw same (get_or-set_same p k (Some (length b)) None (omega (arith, table.all))) in
        let equal : i ≡ length b = same_Some i (length b) (sym e ∙ given) in
        rw (equal, same) (get_or-append_seam b (Some k) [] None)
    | inr other ↦
        let old = table.stands k' i (sym (get_or-set_other p k k' (Some (length b)) None other) ∙ e) in
        get_or_append_left b (Some k ∷ []) None i (in_list b i k' old) ∙ old
  ];
}

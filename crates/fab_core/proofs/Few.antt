-- There are no more multi-receives whose end was not read than those posted or closing and the unread entries.
use Rattle.std.proofs.Common.{◌≡◌, ◌≢◌, ◌⊎◌, inl, inr, ℕ, zero, suc, ◌+◌, ◌<◌, ◌≤◌, ◌==◌, Bool, true, false, List, [], ◌∷◌, ◌++◌, length, length-append, length-drop, map, drop, Option, Some, None, refl, sym, ap, subst, ◌∙◌, arith}
use Rattle.std.specs.Prelude.{find, is_some, slice_get, unwrap_or, Contains}
use Rattle.std.specs.Option.{option_map}
use Rattle.std.proofs.lemmas.Bool.{eqb-true, eq-eqb, ne_eqb}
use Rattle.std.proofs.lemmas.List.{length-map}
use Rattle.std.proofs.lemmas.List.Elements.{Contains-append_left, Contains-append_right}
use Rattle.std.proofs.lemmas.Slice.Zip.{AllZip-long}
use Rattle.fab_base.specs.declared.operations.Receive.{Receive}
use Rattle.fab_base.specs.declared.operations.Written.{Written}
use Rattle.fab_model.specs.Matching.{remove_first}
use Rattle.fab_rx.specs.Opened.{sized}
use Rattle.fab_settling.specs.declared.places.Place.{Place}
use Rattle.fab_settling.specs.declared.places.Place.TheVariants.{Open, Ended}
use Rattle.fab_settling.specs.Ends.{unread_of}
use Rattle.fab_core.specs.Parts.{Parts}
use Rattle.fab_core.specs.Lent.{AreOthers, AreSingle, HasPlaces, IsAt, IsLentBy, IsPlaced}
use Rattle.fab_settling.proofs.Listing.{contains_cases, contains_here, contains_kept, contains_later}
use Rattle.fab_core.proofs.Placing.{zip_there}

others_there : (call : ℕ) (ms : List (ℕ × ℕ)) → AreOthers call ms → (m : ℕ × ℕ) → Contains ms m → m.1 ≢ call
others_there call [] o m there = (let lt = there.1 in absurd (omega (arith, lt)))
others_there call (x ∷ ms) o m there = elim (contains_cases x m ms there) [ inl same ↦ subst (λ (m : ℕ × ℕ). m.1 ≢ call) same o.0 | inr more ↦ others_there call ms o.1 m more ]

length_removed : (y : ℕ) (ys : List ℕ) → Contains ys y → length (remove_first (λ x. x == y) ys) + 1 ≡ length ys
length_removed y [] there = (let lt = there.1 in absurd (omega (arith, lt)))
length_removed y (x ∷ ys) there = by (x == y) refl (contains_cases x y ys there) (λ more. length_removed y ys more)
  where
    by : (b : Bool) → (x == y) ≡ b → (x ≡ y) ⊎ Contains ys y → (Contains ys y → length (remove_first (λ x. x == y) ys) + 1 ≡ length ys) → length (remove_first (λ x. x == y) (x ∷ ys)) + 1 ≡ length (x ∷ ys)
    by true is h more = rw (is, remove_first) (omega arith)
    by false is (inl same) more = let no : true ≡ false = sym (eq-eqb x y same) ∙ is in absurd (cc)
    by false is (inr rest) more = rw (is, remove_first) (let n = more rest in omega (arith, n))

-- members of different calls, each among these
few : (ms : List (ℕ × ℕ)) (ys : List ℕ) → AreSingle ms → ((m : ℕ × ℕ) → Contains ms m → Contains ys m.1) → length ms ≤ length ys
few [] ys single among = omega arith
few (m ∷ ms) ys single among =
    let here = among m (contains_here m ms) in
    let rest = few ms (remove_first (λ x. x == m.1) ys) single.1 (λ x there. contains_kept (λ k. k == m.1) ys x.1 (among x (contains_later m x ms there)) (ne_eqb x.1 m.1 (others_there m.1 ms single.0 x there))) in
    let n = length_removed m.1 ys here in omega (arith, rest, n)

found_call : (c : ℕ) (xs : List Receive) (r : Receive) → find (λ (r : Receive). c == r.call) xs ≡ Some r → Contains (map (λ (r : Receive). r.call) xs) c
found_call c [] r e = absurd (cc)
found_call c (x ∷ xs) r e = by (c == x.call) refl (λ rest. found_call c xs r rest)
  where
    by : (b : Bool) → (c == x.call) ≡ b → (find (λ (r : Receive). c == r.call) xs ≡ Some r → Contains (map (λ (r : Receive). r.call) xs) c) → Contains (map (λ (r : Receive). r.call) (x ∷ xs)) c
    by true is more = let same : c ≡ x.call = eqb-true c x.call is in subst (λ (k : ℕ). Contains (x.call ∷ map (λ (r : Receive). r.call) xs) k) (sym same) (contains_here x.call (map (λ (r : Receive). r.call) xs))
    by false is more = contains_later x.call c (map (λ (r : Receive). r.call) xs) (more (rw is at e))

abbrev call_or : Written → ℕ
call_or w = unwrap_or w.call 0

later_call : (ws : List Written) (k n c : ℕ) (w : Written) → slice_get ws (k + n) ≡ Some w → w.call ≡ Some c → Contains (map call_or (drop k ws)) c
later_call [] k n c w e is = absurd (cc)
later_call (x ∷ ws) zero zero c w e is =
    let same : x ≡ w = cc in
    let its : call_or x ≡ c = ap (λ (w : Written). unwrap_or w.call 0) same ∙ ap (λ o. unwrap_or o 0) is in
    subst (λ (k : ℕ). Contains (call_or x ∷ map call_or ws) k) its (contains_here (call_or x) (map call_or ws))
later_call (x ∷ ws) zero (suc n) c w e is =
    let place : zero + suc n ≡ suc (zero + n) = omega arith in
    contains_later (call_or x) c (map call_or ws) (later_call ws zero n c w (subst (λ (i : ℕ). slice_get (x ∷ ws) i ≡ Some w) place e) is)
later_call (x ∷ ws) (suc k) n c w e is =
    let place : suc k + n ≡ suc (k + n) = omega arith in
    later_call ws k n c w (subst (λ (i : ℕ). slice_get (x ∷ ws) i ≡ Some w) place e) is

module _ (p : Parts) (ok : IsLentBy p) where
  abbrev calls_open : List ℕ
  calls_open = map (λ (r : Receive). r.call) (p.rx.rx.posted ++ p.rx.rx.closing)

  abbrev calls_unread : List ℕ
  calls_unread = map call_or (drop p.cq.taken_out p.cq.written)

  among : (call : ℕ) (place : Place) → IsAt p.rx.rx p.rx.multis p.cq call place → Contains (calls_open ++ calls_unread) call
  among call (Open id) h = by (find (λ (r : Receive). call == r.call) (p.rx.rx.posted ++ p.rx.rx.closing)) refl
    where
      by : (o : Option Receive) → find (λ (r : Receive). call == r.call) (p.rx.rx.posted ++ p.rx.rx.closing) ≡ o → Contains (calls_open ++ calls_unread) call
      by None e = let no : false ≡ true = sym (ap (λ (o : Option Receive). is_some (option_map sized o)) e) ∙ h.2 in absurd (cc)
      by (Some r) e = Contains-append_left calls_open calls_unread call (found_call call (p.rx.rx.posted ++ p.rx.rx.closing) r e)
  among call (Ended n) h = Contains-append_right calls_open calls_unread call (later_call p.cq.written p.cq.taken_out n call h.0 h.2 h.3)

  few_members : length p.multis.list ≤ length (calls_open ++ calls_unread)
  few_members = few p.multis.list (calls_open ++ calls_unread) ok.single (λ m there. let s = zip_there (IsPlaced p.rx.rx p.rx.multis p.cq) p.multis.places p.multis.list ok.placed m there in among m.1 s.0.place s.1.place)

  pub room_for_one : (most peers : ℕ) → HasPlaces most peers p.cq.size p.multis → most ≡ p.rx.most → peers ≡ length p.rx.begun → length (p.rx.rx.posted ++ p.rx.rx.closing) ≤ p.rx.most + length p.rx.begun → unread_of p.cq ≤ p.cq.size → length p.multis.places < p.multis.room
  room_for_one most peers has is_most is_peers room unread =
      let same = AllZip-long (IsPlaced p.rx.rx p.rx.multis p.cq) p.multis.places p.multis.list ok.placed in
      let n = few_members in
      let both = length-append calls_open calls_unread in
      let left = length-map (p.rx.rx.posted ++ p.rx.rx.closing) (λ (r : Receive). r.call) in
      let right = length-map (drop p.cq.taken_out p.cq.written) call_or in
      let rest = length-drop p.cq.taken_out p.cq.written in
      omega (arith, same, n, both, left, right, rest, has, is_most, is_peers, room, unread)

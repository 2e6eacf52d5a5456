-- What holds of fences in every state that turns lead to: the first operation held back for a peer has a fence, and one accepted before it for that peer has not ended.
--     calls_for tx t      the numbers of the calls whose operations for t have not ended, those that are live first
--     FencedBy tx calls   the invariant of a peer's operations, `calls` of whose calls were accepted
use Rattle.std.proofs.Common.{◌≡◌, ◌≢◌, ◌≤◌, ◌<◌, ◌+◌, ◌==◌, ℕ, Bool, true, false, not, ◌&&◌, ◌||◌, List, [], ◌∷◌, ◌++◌, length, map, get_or, set, cond, Some, inl, inr, refl, sym, ◌∙◌, ap, subst, arith, append_assoc, append-nil, length-append, length-set, get_or-set_same, get_or-set_other}
use Rattle.std.specs.Prelude.{⊤, find}
use Rattle.std.specs.List.{list_any}
use Rattle.std.proofs.lemmas.Bool.{cases_eq, cases_lt, and_parts}
use Rattle.std.proofs.lemmas.List.{map-append, length-map, get_or_past}
use Rattle.std.proofs.lemmas.List.Folds.{list_any-append}
use Rattle.fab_base.specs.declared.items.Item.{Item}
use Rattle.fab_base.specs.declared.operations.Operation.{Operation}
use Rattle.fab_base.specs.declared.operations.Held.{Held}
use Rattle.fab_base.proofs.Bools.{or_true, or_false}
use Rattle.fab_base.proofs.Numbers.{same_number as same_dest, other_number as other_dest}
use Rattle.fab_model.specs.Matching.{remove_first}
use Rattle.fab_model.specs.State.{Transmitting, accepted_for, held_for}
use Rattle.fab_model.specs.Sending.{is_busy, let_out, held_back, operations_from, items_of, letting_out, going_on}
use Rattle.fab_model.specs.Replay.{is_empty}
use Rattle.fab_model.proofs.Patient.{accepted_within}

-- ---- numbers that rise

abbrev pub Above : ℕ → List ℕ → Type 0
Above n [] = ⊤
Above n (m ∷ ms) = (n < m) × Above n ms

abbrev pub Rising : List ℕ → Type 0
Rising [] = ⊤
Rising (n ∷ ns) = Above n ns × Rising ns

above_without : (n : ℕ) (xs ys zs : List ℕ) → Above n (xs ++ ys ++ zs) → Above n (xs ++ zs)
above_without n [] [] zs a = a
above_without n [] (y ∷ ys) zs a = above_without n [] ys zs a.1
above_without n (x ∷ xs) ys zs a = (a.0, above_without n xs ys zs a.1)

rising_without : (xs ys zs : List ℕ) → Rising (xs ++ ys ++ zs) → Rising (xs ++ zs)
rising_without [] [] zs r = r
rising_without [] (y ∷ ys) zs r = rising_without [] ys zs r.1
rising_without (x ∷ xs) ys zs r = (above_without x xs ys zs r.0, rising_without xs ys zs r.1)

pub above_in : (n m : ℕ) (xs ys : List ℕ) → Above n (xs ++ m ∷ ys) → n < m
above_in n m [] ys a = a.0
above_in n m (x ∷ xs) ys a = above_in n m xs ys a.1

above_onto : (n m : ℕ) (xs : List ℕ) → Above n xs → n < m → Above n (xs ++ m ∷ [])
above_onto n m [] a lt = (lt, tt)
above_onto n m (x ∷ xs) a lt = (a.0, above_onto n m xs a.1 lt)

above_more : (n m k : ℕ) (xs : List ℕ) → m ≤ k → Above n (xs ++ m ∷ []) → Above n (xs ++ k ∷ [])
above_more n m k [] le a = (omega (arith, le, a.0), tt)
above_more n m k (x ∷ xs) le a = (a.0, above_more n m k xs le a.1)

pub rising_more : (m k : ℕ) (xs : List ℕ) → m ≤ k → Rising (xs ++ m ∷ []) → Rising (xs ++ k ∷ [])
rising_more m k [] le r = (tt, tt)
rising_more m k (x ∷ xs) le r = (above_more x m k xs le r.0, rising_more m k xs le r.1)

pub rising_next : (m : ℕ) (xs : List ℕ) → Rising (xs ++ m ∷ []) → Rising ((xs ++ m ∷ []) ++ (m + 1) ∷ [])
rising_next m [] r = ((omega arith, tt), (tt, tt))
rising_next m (x ∷ xs) r = let lt = above_in x m xs [] r.0 in (above_onto x (m + 1) (xs ++ m ∷ []) r.0 (omega (arith, lt)), rising_next m xs r.1)

-- ---- the calls of a peer's operations

abbrev pub calls_to : ℕ → List Operation → List ℕ
calls_to t [] = []
calls_to t (o ∷ live) = elim (o.dest == t) [ true ↦ o.call ∷ calls_to t live | false ↦ calls_to t live ]

abbrev pub held_calls : List Held → List ℕ
held_calls held = map (λ (o : Held). o.call) held

abbrev pub calls_for : Transmitting → ℕ → List ℕ
calls_for tx t = calls_to t tx.live ++ held_calls (held_for tx t)

calls_to-append : (t : ℕ) (xs ys : List Operation) → calls_to t (xs ++ ys) ≡ calls_to t xs ++ calls_to t ys
calls_to-append t [] ys = refl
calls_to-append t (o ∷ xs) ys = go (o.dest == t) (calls_to-append t xs ys)
  where
    go : (b : Bool) → calls_to t (xs ++ ys) ≡ calls_to t xs ++ calls_to t ys → elim b [ true ↦ o.call ∷ calls_to t (xs ++ ys) | false ↦ calls_to t (xs ++ ys) ] ≡ elim b [ true ↦ o.call ∷ calls_to t xs | false ↦ calls_to t xs ] ++ calls_to t ys
    go true more = ap (λ ns. o.call ∷ ns) more
    go false more = more

out_calls : (t k : ℕ) (out : List Held) → calls_to t (operations_from t k out) ≡ held_calls out
out_calls t k [] = refl
out_calls t k (o ∷ out) = rw (same_dest t, calls_to) (ap (λ ns. o.call ∷ ns) (out_calls t (k + 1) out))

out_calls_other : (t q k : ℕ) (out : List Held) → t ≢ q → calls_to q (operations_from t k out) ≡ []
out_calls_other t q k [] differ = refl
out_calls_other t q k (o ∷ out) differ = rw (other_dest t q differ, calls_to) (out_calls_other t q (k + 1) out differ)

out_busy : (t k : ℕ) (out : List Held) → list_any (λ (o : Operation). o.dest == t) (operations_from t k out) ≡ not (is_empty out)
out_busy t k [] = refl
out_busy t k (o ∷ out) = rw (same_dest t) refl

out_busy_other : (t q k : ℕ) (out : List Held) → t ≢ q → list_any (λ (o : Operation). o.dest == q) (operations_from t k out) ≡ false
out_busy_other t q k [] differ = refl
out_busy_other t q k (o ∷ out) differ = rw (other_dest t q differ) (out_busy_other t q (k + 1) out differ)

-- ---- what goes out and what is held back

pub out_and_back : (busy : Bool) (held : List Held) → let_out busy held ++ held_back busy held ≡ held
out_and_back busy [] = refl
out_and_back busy (o ∷ held) = go (busy && o.fence) (out_and_back true held)
  where
    go : (b : Bool) → let_out true held ++ held_back true held ≡ held → elim b [ true ↦ [] | false ↦ o ∷ let_out true held ] ++ elim b [ true ↦ o ∷ held | false ↦ held_back true held ] ≡ o ∷ held
    go true more = refl
    go false more = ap (λ hs. o ∷ hs) more

-- of what is held back none goes out, now that those that went out are live
pub none_more : (busy : Bool) (held : List Held) → let_out (busy || not (is_empty (let_out busy held))) (held_back busy held) ≡ []
none_more busy [] = refl
none_more busy (o ∷ held) = go (busy && o.fence) refl (none_more true held)
  where
    go : (b : Bool) → (busy && o.fence) ≡ b → let_out true (held_back true held) ≡ []
        → let_out (busy || not (is_empty (elim b [ true ↦ [] | false ↦ o ∷ let_out true held ]))) (elim b [ true ↦ o ∷ held | false ↦ held_back true held ]) ≡ []
    go true e more = let both = and_parts busy o.fence e in rw (both.0, both.1) refl
    go false e more = rw (or_true busy) more

-- who waits has a fence and someone to wait for
pub waits_has : (busy : Bool) (o : Held) (held : List Held) → let_out busy (o ∷ held) ≡ [] → (busy ≡ true) × (o.fence ≡ true)
waits_has busy o held e = go (busy && o.fence) refl e
  where
    go : (b : Bool) → (busy && o.fence) ≡ b → (let front : List Held = elim b [ true ↦ [] | false ↦ o ∷ let_out true held ] in front ≡ []) → (busy ≡ true) × (o.fence ≡ true)
    go true is e = and_parts busy o.fence is
    go false is e = absurd (cc)

-- ---- the places of live operations

abbrev pub Placed : List (List Item) → List Operation → Type 0
Placed accepted [] = ⊤
Placed accepted (o ∷ live) = (o.place < length (get_or accepted o.dest [])) × Placed accepted live

pub placed_more : (a b : List (List Item)) (live : List Operation) → ((q : ℕ) → length (get_or a q []) ≤ length (get_or b q [])) → Placed a live → Placed b live
placed_more a b [] le p = tt
placed_more a b (o ∷ live) le p = (omega (arith, le o.dest, p.0), placed_more a b live le p.1)

placed_append : (a : List (List Item)) (xs ys : List Operation) → Placed a xs → Placed a ys → Placed a (xs ++ ys)
placed_append a [] ys p q = q
placed_append a (o ∷ xs) ys p q = (p.0, placed_append a xs ys p.1 q)

placed_from : (a : List (List Item)) (t k : ℕ) (out : List Held) → k + length out ≤ length (get_or a t []) → Placed a (operations_from t k out)
placed_from a t k [] le = tt
placed_from a t k (o ∷ out) le = (omega (arith, le), placed_from a t (k + 1) out (omega (arith, le)))

placed_less : (a : List (List Item)) (test : Operation → Bool) (live : List Operation) → Placed a live → Placed a (remove_first test live)
placed_less a test [] p = tt
placed_less a test (o ∷ live) p = go (test o) (placed_less a test live p.1)
  where
    go : (b : Bool) → Placed a (remove_first test live) → Placed a (elim b [ true ↦ live | false ↦ o ∷ remove_first test live ])
    go true more = p.1
    go false more = (p.0, more)

-- ---- the invariant

pub record FencedBy (tx : Transmitting) (calls : ℕ) : Type 0 where
  -- of one peer, those that are live come before those held back, each in the order accepted
  pub rising : (t : ℕ) → Rising (calls_for tx t ++ calls ∷ [])
  -- what is held back could not go out
  pub waits : (t : ℕ) → let_out (is_busy tx t) (held_for tx t) ≡ []
  -- the item of what is live has its place among those accepted
  pub placed : Placed tx.accepted tx.live

-- ---- letting out

module _ (t : ℕ) (held : List Held) (tx : Transmitting) where
  held_here : t < length tx.held → held_for (letting_out t held tx) t ≡ held_back (is_busy tx t) held
  unfolding letting_out
  held_here lt = get_or-set_same tx.held t _ [] lt

  held_far : length tx.held ≤ t → held_for (letting_out t held tx) t ≡ []
  unfolding letting_out
  held_far le = get_or_past (set tx.held t (held_back (is_busy tx t) held)) t [] (omega (arith, le, length-set tx.held t (held_back (is_busy tx t) held)))

  held_other : (q : ℕ) → t ≢ q → held_for (letting_out t held tx) q ≡ held_for tx q
  unfolding letting_out
  held_other q differ = get_or-set_other tx.held t q _ [] (λ e. differ (sym e))

  busy_here : is_busy (letting_out t held tx) t ≡ (is_busy tx t || not (is_empty (let_out (is_busy tx t) held)))
  unfolding letting_out
  busy_here = list_any-append (λ (o : Operation). o.dest == t) tx.live _ ∙ ap (λ b. is_busy tx t || b) (out_busy t _ _)

  busy_other : (q : ℕ) → t ≢ q → is_busy (letting_out t held tx) q ≡ is_busy tx q
  unfolding letting_out
  busy_other q differ = list_any-append (λ (o : Operation). o.dest == q) tx.live _ ∙ ap (λ b. is_busy tx q || b) (out_busy_other t q _ _ differ) ∙ or_false (is_busy tx q)

  pub letting_waits : ((q : ℕ) → t ≢ q → let_out (is_busy tx q) (held_for tx q) ≡ []) → (q : ℕ) → let_out (is_busy (letting_out t held tx) q) (held_for (letting_out t held tx) q) ≡ []
  letting_waits others q = elim (cases_eq t q) [
    | inl same ↦ subst (λ k. let_out (is_busy (letting_out t held tx) k) (held_for (letting_out t held tx) k) ≡ []) same (elim (cases_lt t (length tx.held)) [
      | inl lt ↦ rw (held_here lt, busy_here) (none_more (is_busy tx t) held)
      | inr le ↦ rw (held_far le) refl
    ])
    | inr differ ↦ rw (held_other q differ, busy_other q differ) (others q differ)
  ]

  calls_here : calls_to t (letting_out t held tx).live ≡ calls_to t tx.live ++ held_calls (let_out (is_busy tx t) held)
  unfolding letting_out
  calls_here = calls_to-append t tx.live _ ∙ ap (λ ns. calls_to t tx.live ++ ns) (out_calls t _ _)

  calls_other : (q : ℕ) → t ≢ q → calls_to q (letting_out t held tx).live ≡ calls_to q tx.live
  unfolding letting_out
  calls_other q differ = calls_to-append q tx.live _ ∙ ap (λ ns. calls_to q tx.live ++ ns) (out_calls_other t q _ _ differ) ∙ append-nil (calls_to q tx.live)

  -- the calls of t stay as they are, in their order: some are live now
  whole : held_calls (let_out (is_busy tx t) held) ++ held_calls (held_back (is_busy tx t) held) ≡ held_calls held
  whole = sym (map-append (λ (o : Held). o.call) (let_out (is_busy tx t) held) (held_back (is_busy tx t) held)) ∙ ap held_calls (out_and_back (is_busy tx t) held)

  pub letting_rises :
      (calls : ℕ) → Rising ((calls_to t tx.live ++ held_calls held) ++ calls ∷ []) → ((q : ℕ) → t ≢ q → Rising (calls_for tx q ++ calls ∷ []))
      → (q : ℕ) → Rising (calls_for (letting_out t held tx) q ++ calls ∷ [])
  letting_rises calls here others q = elim (cases_eq t q) [
    | inl same ↦ subst (λ k. Rising (calls_for (letting_out t held tx) k ++ calls ∷ [])) same (elim (cases_lt t (length tx.held)) [
      | inl lt ↦ rw (held_here lt, calls_here, append_assoc (calls_to t tx.live) (held_calls (let_out (is_busy tx t) held)) (held_calls (held_back (is_busy tx t) held)), whole) here
      | inr le ↦
          let back = held_calls (held_back (is_busy tx t) held) in
          let front = calls_to t tx.live ++ held_calls (let_out (is_busy tx t) held) in
          let joined : front ++ back ≡ calls_to t tx.live ++ held_calls held = append_assoc (calls_to t tx.live) _ back ∙ ap (λ ns. calls_to t tx.live ++ ns) whole in
          let less = rising_without front back (calls ∷ []) (subst (λ ns. Rising (ns ++ calls ∷ [])) (sym joined) here) in
          rw (held_far le, calls_here, append-nil front) less
    ])
    | inr differ ↦ rw (held_other q differ, calls_other q differ) (others q differ)
  ]

  grown : (q : ℕ) → length (accepted_for tx q) ≤ length (accepted_for (letting_out t held tx) q)
  unfolding letting_out
  grown q = elim (cases_eq t q) [
    | inl same ↦ subst (λ k. length (accepted_for tx k) ≤ length (get_or (set tx.accepted t (accepted_for tx t ++ items_of (let_out (is_busy tx t) held))) k [])) same (elim (cases_lt t (length tx.accepted)) [
      | inl lt ↦ rw (get_or-set_same tx.accepted t (accepted_for tx t ++ items_of (let_out (is_busy tx t) held)) [] lt) (omega (arith, length-append (accepted_for tx t) (items_of (let_out (is_busy tx t) held))))
      | inr le ↦ rw (get_or_past tx.accepted t [] le) (omega arith)
    ])
    | inr differ ↦ omega (arith, ap length (get_or-set_other tx.accepted t q (accepted_for tx t ++ items_of (let_out (is_busy tx t) held)) [] (λ e. differ (sym e))))
  ]

  pub letting_placed : t < length tx.accepted → Placed tx.accepted tx.live → Placed (letting_out t held tx).accepted (letting_out t held tx).live
  unfolding letting_out
  letting_placed lt p =
      let items = items_of (let_out (is_busy tx t) held) in
      let here = get_or-set_same tx.accepted t (accepted_for tx t ++ items) [] lt in
      placed_append _ tx.live _ (placed_more tx.accepted (set tx.accepted t (accepted_for tx t ++ items)) tx.live grown p)
      (placed_from (set tx.accepted t (accepted_for tx t ++ items)) t (length (accepted_for tx t)) (let_out (is_busy tx t) held)
      (omega (arith, ap length here, length-append (accepted_for tx t) items, length-map (let_out (is_busy tx t) held) (λ (o : Held). o.item))))

-- ---- an operation that ends

ended_above : (n t : ℕ) (test : Operation → Bool) (live : List Operation) (rest : List ℕ) → Above n (calls_to t live ++ rest) → Above n (calls_to t (remove_first test live) ++ rest)
ended_above n t test [] rest a = a
ended_above n t test (o ∷ live) rest a = go (test o) (o.dest == t) refl a (ended_above n t test live rest)
  where
    go : (gone mine : Bool) → (o.dest == t) ≡ mine → Above n (elim mine [ true ↦ o.call ∷ calls_to t live | false ↦ calls_to t live ] ++ rest)
        → (Above n (calls_to t live ++ rest) → Above n (calls_to t (remove_first test live) ++ rest)) → Above n (calls_to t (elim gone [ true ↦ live | false ↦ o ∷ remove_first test live ]) ++ rest)
    go true true e a more = a.1
    go true false e a more = a
    go false true e a more = rw (e, calls_to) (a.0, more a.1)
    go false false e a more = rw (e, calls_to) (more a)

ended_rising : (t : ℕ) (test : Operation → Bool) (live : List Operation) (rest : List ℕ) → Rising (calls_to t live ++ rest) → Rising (calls_to t (remove_first test live) ++ rest)
ended_rising t test [] rest r = r
ended_rising t test (o ∷ live) rest r = go (test o) (o.dest == t) refl r (ended_rising t test live rest)
  where
    go : (gone mine : Bool) → (o.dest == t) ≡ mine → Rising (elim mine [ true ↦ o.call ∷ calls_to t live | false ↦ calls_to t live ] ++ rest)
        → (Rising (calls_to t live ++ rest) → Rising (calls_to t (remove_first test live) ++ rest)) → Rising (calls_to t (elim gone [ true ↦ live | false ↦ o ∷ remove_first test live ]) ++ rest)
    go true true e r more = r.1
    go true false e r more = r
    go false true e r more = rw (e, calls_to) (ended_above o.call t test live rest r.0, more r.1)
    go false false e r more = rw (e, calls_to) (more r)

-- who ends is an operation for t, so for others as many are live as before
ended_busy :
    (t q : ℕ) (test : Operation → Bool) (live : List Operation) → ((o : Operation) → test o ≡ true → o.dest ≡ t) → t ≢ q
    → list_any (λ (o : Operation). o.dest == q) (remove_first test live) ≡ list_any (λ (o : Operation). o.dest == q) live
ended_busy t q test [] mine differ = refl
ended_busy t q test (o ∷ live) mine differ = go (test o) refl (ended_busy t q test live mine differ)
  where
    go : (gone : Bool) → test o ≡ gone → list_any (λ (o : Operation). o.dest == q) (remove_first test live) ≡ list_any (λ (o : Operation). o.dest == q) live
        → list_any (λ (o : Operation). o.dest == q) (elim gone [ true ↦ live | false ↦ o ∷ remove_first test live ]) ≡ ((o.dest == q) || list_any (λ (o : Operation). o.dest == q) live)
    go true e more = let here : (o.dest == q) ≡ false = other_dest o.dest q (λ f. differ (sym (mine o e) ∙ f)) in rw here refl
    go false e more = ap (λ b. (o.dest == q) || b) more

-- where one ends, those that waited for it go on
module _ (t : ℕ) (test : Operation → Bool) (mine : (o : Operation) → test o ≡ true → o.dest ≡ t) (tx u : Transmitting) (live : u.live ≡ remove_first test tx.live) (held : u.held ≡ tx.held) (accepted : u.accepted ≡ tx.accepted) where
  fewer : (q : ℕ) (calls : ℕ) → Rising (calls_for tx q ++ calls ∷ []) → Rising (calls_for u q ++ calls ∷ [])
  fewer q calls r =
      let rest = held_calls (held_for tx q) in
      let less = ended_rising q test tx.live (rest ++ calls ∷ []) (subst Rising (append_assoc (calls_to q tx.live) rest (calls ∷ [])) r) in
      rw (live, held, append_assoc (calls_to q (remove_first test tx.live)) rest (calls ∷ [])) less

  still : (q : ℕ) → t ≢ q → let_out (is_busy tx q) (held_for tx q) ≡ [] → let_out (is_busy u q) (held_for u q) ≡ []
  still q differ none = rw (live, held, ended_busy t q test tx.live mine differ) none

  pub going_fenced : (calls : ℕ) → t < length tx.accepted → FencedBy tx calls → FencedBy (going_on t u) calls
  going_fenced calls lt f = record {
    rising = letting_rises t (held_for u t) u calls (fewer t calls (f.rising t)) (λ q differ. fewer q calls (f.rising q));
    waits = letting_waits t (held_for u t) u (λ q differ. still q differ (f.waits q));
    placed = letting_placed t (held_for u t) u (rw accepted lt) (rw (accepted, live) (placed_less tx.accepted test tx.live f.placed));
  }

-- where an operation is found, its peer is one
pub placed_within : (accepted : List (List Item)) (test : Operation → Bool) (t : ℕ) (live : List Operation) (o : Operation) → ((o : Operation) → test o ≡ true → o.dest ≡ t) → Placed accepted live → find test live ≡ Some o
    → t < length accepted
placed_within accepted test t [] o mine p e = absurd (cc)
placed_within accepted test t (x ∷ live) o mine p e = go (test x) refl (placed_within accepted test t live o mine p.1) e
  where
    go : (b : Bool) → test x ≡ b → (find test live ≡ Some o → t < length accepted) → cond b (Some x) (find test live) ≡ Some o → t < length accepted
    go true is more e = subst (λ k. k < length accepted) (mine x is) (accepted_within accepted x.dest x.place p.0)
    go false is more e = more e

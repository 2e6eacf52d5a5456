-- What a fence lets out moves from the items that it holds back to those that go out, and no reply is more to be posted by it.
--     standing op tx d n      the replies to this operation among the items for d, when so many are taken off in front
use Rattle.std.proofs.Common.{◌≡◌, ◌≢◌, ◌≤◌, ◌+◌, ℕ, zero, suc, Bool, List, [], ◌∷◌, ◌++◌, drop, set, get_or, get_or-set_other, ◌⊎◌, inl, inr, refl, sym, ap, subst, arith}
use Rattle.std.specs.Prelude.{count_by, slice_index}
use Rattle.std.proofs.lemmas.Bool.{cases_eq}
use Rattle.fab_base.specs.declared.items.Item.{Item}
use Rattle.fab_base.specs.declared.operations.Held.{Held}
use Rattle.fab_model.specs.State.{Transmitting, accepted_for, held_for}
use Rattle.fab_model.specs.Sending.{is_busy, let_out, held_back, letting_out, items_of}
use Rattle.fab_model.proofs.Fences.{out_and_back}
use Rattle.fab_link.proofs.Owed.{count_by-append}
use Rattle.fab_face.specs.Owed.{is_answer, unbegun, to_post}
use Rattle.fab_face.proofs.Counts.{count_map, count_dropped, none_dropped}

abbrev pub standing : ℕ → Transmitting → ℕ → ℕ → ℕ
standing op tx d n = count_by (is_answer op) (drop n (accepted_for tx d)) + count_by (is_answer op) (items_of (held_for tx d))

-- a list by peer holds at the peer what was put there, or has no place for it
set_here : {X : Type 0} (xs : List X) (i : ℕ) (x d : X) → (get_or (set xs i x) i d ≡ x) ⊎ (get_or (set xs i x) i d ≡ d)
set_here [] i x d = inr refl
set_here (y ∷ xs) zero x d = inl refl
set_here (y ∷ xs) (suc i) x d = set_here xs i x d

parted : (op : ℕ) (busy : Bool) (held : List Held) → count_by (is_answer op) (items_of (let_out busy held)) + count_by (is_answer op) (items_of (held_back busy held)) ≡ count_by (is_answer op) (items_of held)
parted op busy held =
    let p : Held → Bool = λ o. is_answer op o.item in
    let both : count_by p (let_out busy held ++ held_back busy held) ≡ count_by p held = ap (count_by p) (out_and_back busy held) in
    omega (arith, both, count_by-append p (let_out busy held) (held_back busy held), count_map (is_answer op) (λ (o : Held). o.item) (let_out busy held), count_map (is_answer op) (λ (o : Held). o.item) (held_back busy held), count_map (is_answer op) (λ (o : Held). o.item) held)

module _ (op t : ℕ) (held : List Held) (tx : Transmitting) (few : count_by (is_answer op) (items_of held) ≤ count_by (is_answer op) (items_of (held_for tx t))) where
  abbrev out : List Item
  out = items_of (let_out (is_busy tx t) held)

  abbrev back : List Held
  back = held_back (is_busy tx t) held

  gone_out : (n : ℕ) → (get_or (set tx.accepted t (accepted_for tx t ++ out)) t [] ≡ accepted_for tx t ++ out) ⊎ (get_or (set tx.accepted t (accepted_for tx t ++ out)) t [] ≡ [])
      → count_by (is_answer op) (drop n (get_or (set tx.accepted t (accepted_for tx t ++ out)) t [])) ≤ count_by (is_answer op) (drop n (accepted_for tx t)) + count_by (is_answer op) out
  gone_out n (inl e) = rw e (count_dropped (is_answer op) n (accepted_for tx t) out)
  gone_out n (inr e) = rw e (omega (arith, none_dropped (is_answer op) n))

  kept_back : (get_or (set tx.held t back) t [] ≡ back) ⊎ (get_or (set tx.held t back) t [] ≡ []) → count_by (is_answer op) (items_of (get_or (set tx.held t back) t [])) ≤ count_by (is_answer op) (items_of back)
  kept_back (inl e) = rw e (omega arith)
  kept_back (inr e) = rw e (omega arith)

  here : (n : ℕ) → standing op (letting_out t held tx) t n ≤ standing op tx t n
  unfolding letting_out
  here n =
      let a = gone_out n (set_here tx.accepted t (accepted_for tx t ++ out) []) in
      let b = kept_back (set_here tx.held t back []) in
      omega (arith, a, b, parted op (is_busy tx t) held, few)

  away : (d n : ℕ) → d ≢ t → standing op (letting_out t held tx) d n ≤ standing op tx d n
  unfolding letting_out
  away d n ne = rw (get_or-set_other tx.accepted t d (accepted_for tx t ++ out) [] ne, get_or-set_other tx.held t d back [] ne) (omega arith)

  -- no more is to be posted
  pub lets_out : (d n : ℕ) → standing op (letting_out t held tx) d n ≤ standing op tx d n
  lets_out d n = go (cases_eq d t)
    where
      go : (d ≡ t) ⊎ (d ≢ t) → standing op (letting_out t held tx) d n ≤ standing op tx d n
      go (inl e) = subst (λ k. standing op (letting_out t held tx) k n ≤ standing op tx k n) (sym e) (here n)
      go (inr ne) = away d n ne

  pub lets_post : (places : List ℕ) (d : ℕ) → to_post (letting_out t held tx) places d op ≤ to_post tx places d op
  unfolding letting_out
  lets_post places d = go (slice_index places d)
    where
      go : (place : ℕ) → count_by (is_answer op) (unbegun place (slice_index tx.sent d) (accepted_for (letting_out t held tx) d)) + count_by (is_answer op) (items_of (held_for (letting_out t held tx) d))
          ≤ count_by (is_answer op) (unbegun place (slice_index tx.sent d) (accepted_for tx d)) + count_by (is_answer op) (items_of (held_for tx d))
      go zero = lets_out d (slice_index tx.sent d)
      go (suc k) = lets_out d (suc (slice_index tx.sent d))

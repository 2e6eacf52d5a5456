-- The script of `gen` is settled, and its answer does all its lines: each peer sends before it waits, so all is sent.
use Rattle.std.proofs.Common.{Bool, List, Option, Some, [], ap, ap₂, append-nil, append_assoc, arith, false, inl, length, length-append, map, option_map, refl, subst, suc, sym, true, zero, ℕ, ◌++◌, ◌+◌, ◌-◌, ◌/◌, ◌<◌, ◌^◌, ◌||◌, ◌∙◌, ◌∷◌, ◌≡◌, ◌≤◌, get_or}
use Rattle.std.proofs.Math.Nat.{mod-lt}
use Rattle.std.proofs.lemmas.Bool.{and_from, eqb-true}
use Rattle.std.proofs.lemmas.List.Elements.{filter_map-append}
use Rattle.std.proofs.lemmas.List.Folds.{list_all-append, list_any-append}
use Rattle.std.proofs.lemmas.List.{length-map}
use Rattle.std.proofs.lemmas.Option.{get_or_from_slice_get, slice_get-map}
use Rattle.std.specs.List.{cons_option, list_all, list_any}
use Rattle.std.specs.Prelude.{filter_map, if◌then◌else◌, is_none, ◌==◌}
use Rattle.fab_base.specs.declared.operations.Receive.{Receive}
use Rattle.fab_base.specs.declared.script.Bound.{Bound}
use Rattle.fab_base.specs.declared.script.BytesWord.TheVariants.{Hex}
use Rattle.fab_base.specs.declared.script.BytesWord.{BytesWord}
use Rattle.fab_base.specs.declared.script.LineOp.{LineOp}
use Rattle.fab_model.specs.Calls.{upto}
use Rattle.fab_model.specs.Replay.{lines_of}
use Rattle.fab_answer.specs.Answer.{answer}
use Rattle.fab_answer.specs.Laws.{HasSizes}
use Rattle.fab_answer.specs.Partners.{Message, fits, message_to, only_where, partner}
use Rattle.fab_answer.specs.Settled.{are_distinct, is_settled, own_ctx}
use Rattle.fab_answer.proofs.Lists.{Both, In, always, differ_is, each_so, in_back, length-upto, same_number}
use Rattle.fab_answer.proofs.peer.Refusals.{waits_op}
use Rattle.fab_workloads.specs.Generator.{byte_of, bytes_of, dest_of, drawn, length_of, receive_of, receives, send_of, sends, source_of, tag_of}
use Rattle.fab_workloads.specs.Lines.{joined, receive, send, wait}
use Rattle.fab_workloads.specs.Script.{bound_of, ops_of}
use Rattle.fab_workloads.specs.declared.workload.Workload.TheVariants.{Generated}
use Rattle.fab_workloads.proofs.Few.{lines_few}
use Rattle.fab_workload_laws.proofs.Done.{Facts, all_answered, messages_of_more, paired, past_calls, past_wait, so_far}
use Rattle.fab_workload_laws.proofs.Joined.{both_lists, in_joined, joined_all, joined_empty, joined_filter_map, joined_none, joined_same, joined_split}
use Rattle.fab_workload_laws.proofs.Ops.{is_simple, lines_are, messages_of, ops, receive_from_op}
use Rattle.fab_workload_laws.proofs.Rooms.{Quiet, distinct_apart, picked, picked_above, picked_below, picked_distinct, quiet_append, quiet_joined, quiet_pair}
use Rattle.fab_workload_laws.proofs.Settings.{conf, fits_it, from_it, posted, posted_source, receive_accepted, receive_posts, receive_sends_none, send_at, send_receives_none, sent, wait_receives_none, wait_sends_none}
use Rattle.fab_workload_laws.proofs.Settled.{Good, settled_of}
use Rattle.fab_workload_laws.proofs.Whole.{is_call, upto_get}

-- ---- a list that is there or not

choice_all : (test : LineOp → Bool) (b : Bool) (xs : List LineOp) → list_all test xs ≡ true → list_all test (if b then xs else []) ≡ true
choice_all test true xs e = e
choice_all test false xs e = refl

choice_any : (test : LineOp → Bool) (b : Bool) (xs : List LineOp) → list_any test xs ≡ false → list_any test (if b then xs else []) ≡ false
choice_any test true xs e = e
choice_any test false xs e = refl

choice_map : {Y : Type 0} (h : LineOp → Option Y) (b : Bool) (xs : List LineOp) → filter_map h (if b then xs else []) ≡ (if b then filter_map h xs else [])
choice_map h true xs = refl
choice_map h false xs = refl

choice_none : {Y : Type 0} (b : Bool) (ys : List Y) → ys ≡ [] → (if b then ys else []) ≡ []
choice_none true ys e = e
choice_none false ys e = refl

-- the receive, or the message, of a line, where the line is there and it is of these two peers
abbrev pub recs : Bool → Bool → Receive → List Receive
recs to from r = if to then cons_option (only_where from r) [] else []

abbrev pub mess : Bool → Bool → Message → List Message
mess from to m = if from then cons_option (only_where to m) [] else []

both_choices : (P : Receive → Message → Type 0) (from to : Bool) (r : Receive) (m : Message) → (from ≡ true → to ≡ true → P r m) → Both P (recs to from r) (mess from to m)
both_choices P true true r m so = (so refl refl, always)
both_choices P true false r m so = always
both_choices P false true r m so = always
both_choices P false false r m so = always

module _ (number peers messages : ℕ) (file : List ℕ) (least : 1 ≤ peers) (most : peers ≤ 32) (few : messages ≤ 8_192) where
  abbrev bound : Bound
  bound = bound_of (Generated number peers messages) file

  abbrev x : ℕ → ℕ
  x m = drawn number m

  abbrev source : ℕ → ℕ
  source m = source_of peers (x m)

  abbrev dest : ℕ → ℕ
  dest m = dest_of peers (x m)

  abbrev word : ℕ → BytesWord
  word m = Hex (bytes_of (x m))

  abbrev sending : ℕ → ℕ → List LineOp
  sending p m = send_of peers p m (x m)

  abbrev receiving : ℕ → ℕ → List LineOp
  receiving p m = receive_of peers p (messages + m) (x m)

  abbrev script : ℕ → List LineOp
  script p = sends number peers messages p ++ receives number peers messages p

  source_below : (m : ℕ) → source m < peers
  source_below m = mod-lt _ (omega (arith, least))

  dest_below : (m : ℕ) → dest m < peers
  dest_below m = mod-lt _ (omega (arith, least))

  long : (m : ℕ) → length_of (x m) ≤ 16_777_216
  long m = omega (arith, mod-lt (x m / 2 ^ 48) {m = 16_384} (omega arith))

  short : (m : ℕ) → length (bytes_of (x m)) ≤ 16_777_216
  short m = omega (arith, length-map (upto (length_of (x m))) (byte_of (x m)), length-upto (length_of (x m)), long m)

  -- ---- settled

  simple : (p : ℕ) → list_all is_simple (script p) ≡ true
  simple p = list_all-append is_simple (sends number peers messages p) (receives number peers messages p) ∙ and_from _ _
      (joined_all is_simple messages (sending p) (λ m. choice_all is_simple (source m == p) _ refl))
      (joined_all is_simple messages (receiving p) (λ m. choice_all is_simple (dest m == p) _ refl))

  quiet_sending : (b : Bool) (c d tag : ℕ) (w : BytesWord) → Quiet (conf peers) (if b then send c d tag w ∷ [] else [])
  quiet_sending true c d tag w = (refl, refl)
  quiet_sending false c d tag w = (refl, refl)

  quiet_receiving : (b : Bool) (c s tag len : ℕ) → s < peers → len ≤ 16_777_216 → Quiet (conf peers) (if b then receive c s tag len ∷ wait c ∷ [] else [])
  quiet_receiving true c s tag len lt le = quiet_pair peers c s tag len lt le
  quiet_receiving false c s tag len lt le = (refl, refl)

  contexts_apart : (p : ℕ) → are_distinct (filter_map own_ctx (script p)) ≡ true
  contexts_apart p =
      let sent_ctx = joined_filter_map own_ctx messages (sending p) ∙ joined_same messages _ (picked (λ m. source m == p) (λ m. m)) (λ m low high. choice_map own_ctx (source m == p) _) in
      let posted_ctx = joined_filter_map own_ctx messages (receiving p) ∙ joined_same messages _ (picked (λ m. dest m == p) (λ m. messages + m)) (λ m low high. choice_map own_ctx (dest m == p) _) in
      ap are_distinct (filter_map-append own_ctx (sends number peers messages p) (receives number peers messages p) ∙ ap₂ (λ xs ys. xs ++ ys) sent_ctx posted_ctx)
      ∙ distinct_apart (λ c. c ≤ messages) (joined messages (picked (λ m. source m == p) (λ m. m))) (joined messages (picked (λ m. dest m == p) (λ m. messages + m)))
      (picked_below (λ m. source m == p) (λ m. m) (λ j k lt. lt) messages)
      (each_so (λ c. messages + 0 < c) (λ c. c ≤ messages → ⊥) _ (λ c above le. omega (arith, above, le)) (picked_above (λ m. dest m == p) (λ m. messages + m) (λ j k lt. omega (arith, lt)) messages))
      (picked_distinct (λ m. source m == p) (λ m. m) (λ j k lt. lt) messages)
      (picked_distinct (λ m. dest m == p) (λ m. messages + m) (λ j k lt. omega (arith, lt)) messages)

  good : (p : ℕ) → Good (conf peers) (script p)
  good p = record {
    simple = simple p;
    few = omega (arith, lines_few number peers messages p few);
    distinct = contexts_apart p;
    room = (quiet_append (conf peers) (sends number peers messages p) (receives number peers messages p)
        (quiet_joined (conf peers) messages (sending p) (λ m. quiet_sending (source m == p) m (dest m) (tag_of (x m)) (word m)))
        (quiet_joined (conf peers) messages (receiving p) (λ m. quiet_receiving (dest m == p) (messages + m) (source m) (tag_of (x m)) (length_of (x m)) (source_below m) (long m)))).0;
  }

  at : (p : ℕ) → p < peers → get_or (ops_of (Generated number peers messages) file) p [] ≡ script p
  at p lt = get_or_from_slice_get (map script (upto peers)) p (script p) [] (slice_get-map script (upto peers) p ∙ ap (option_map script) (upto_get peers p lt))

  lines_so : (p : ℕ) → p < peers → ops (lines_of bound p) ≡ script p
  lines_so p lt = lines_are (Generated number peers messages) file p (ap (list_all is_simple) (at p lt) ∙ simple p) ∙ at p lt

  pub generated_settled : (is_settled bound ≡ true) × HasSizes bound
  unfolding bound_of
  generated_settled = (settled_of bound script refl refl lines_so (λ p lt. good p), (omega arith, omega arith))

  facts : Facts bound script
  unfolding bound_of
  facts = record { lines = lines_so; distinct = λ p lt. contexts_apart p }

  -- ---- receives and messages

  module _ (p s : ℕ) (lt : p < peers) (below : s < peers) where
    post : ℕ → Receive
    post m = posted peers (messages + m) (source m) (tag_of (x m)) (length_of (x m))

    place : ℕ → ℕ
    place m = length (joined (m - 1) (sending s))

    item : ℕ → Message
    item m = sent peers m (dest m) (tag_of (x m)) (word m) (place m)

    received : ℕ → List Receive
    received m = recs (dest m == p) (source m == s) (post m)

    messaged : ℕ → List Message
    messaged m = mess (source m == s) (dest m == p) (item m)

    receives_there : filter_map (receive_from_op (conf peers) s) (script p) ≡ joined messages received
    unfolding received post
    receives_there =
        filter_map-append (receive_from_op (conf peers) s) (sends number peers messages p) (receives number peers messages p)
        ∙ ap₂ (λ xs ys. xs ++ ys)
        (joined_filter_map (receive_from_op (conf peers) s) messages (sending p) ∙ joined_empty messages _ (λ m. choice_map (receive_from_op (conf peers) s) (source m == p) _
        ∙ choice_none (source m == p) _ (ap (λ o. cons_option o []) (send_receives_none peers s m (dest m) (tag_of (x m)) (word m) (dest_below m) (short m)))))
        (joined_filter_map (receive_from_op (conf peers) s) messages (receiving p) ∙ joined_same messages _ _ (λ m low high. choice_map (receive_from_op (conf peers) s) (dest m == p) _
        ∙ ap (λ rs. if (dest m == p) then rs else [])
        (ap (λ o. cons_option o (cons_option (receive_from_op (conf peers) s (wait (messages + m))) []))
        (from_it peers s (messages + m) (source m) (tag_of (x m)) (length_of (x m)) (source m == s) (source_below m) refl (long m))
        ∙ ap (λ o. cons_option (only_where (source m == s) (posted peers (messages + m) (source m) (tag_of (x m)) (length_of (x m)))) (cons_option o [])) (wait_receives_none peers s (messages + m)))))

    one_message : (b : Bool) (m k : ℕ) → messages_of (conf peers) p k (if b then send m (dest m) (tag_of (x m)) (word m) ∷ [] else [])
        ≡ mess b (dest m == p) (sent peers m (dest m) (tag_of (x m)) (word m) k)
    one_message true m k = ap (λ o. cons_option o []) (send_at peers p m (dest m) (tag_of (x m)) (word m) k (dest m == p) (dest_below m) refl (short m))
    one_message false m k = refl

    sends_there : (n : ℕ) → messages_of (conf peers) p 0 (joined n (sending s)) ≡ joined n messaged
    unfolding messaged item place
    sends_there zero = refl
    sends_there (suc n) =
        let here : 0 + length (joined n (sending s)) ≡ length (joined (n + 1 - 1) (sending s)) = omega (arith, ap (λ k. length (joined k (sending s))) (let e : n ≡ n + 1 - 1 = omega arith in e)) in
        messages_of_more (conf peers) p 0 (joined n (sending s)) (sending s (n + 1))
        ∙ ap₂ (λ xs ys. xs ++ ys) (sends_there n)
        (one_message (source (n + 1) == s) (n + 1) (0 + length (joined n (sending s)))
        ∙ ap (λ k. mess (source (n + 1) == s) (dest (n + 1) == p) (sent peers (n + 1) (dest (n + 1)) (tag_of (x (n + 1))) (word (n + 1)) k)) here)

    no_message : (b : Bool) (m k : ℕ) → messages_of (conf peers) p k (if b then receive (messages + m) (source m) (tag_of (x m)) (length_of (x m)) ∷ wait (messages + m) ∷ [] else []) ≡ []
    no_message true m k = ap (λ o. cons_option o (cons_option (message_to (conf peers) p (k + 1) (wait (messages + m))) [])) (receive_sends_none peers p (messages + m) (source m) (tag_of (x m)) (length_of (x m)) k (source_below m) (long m))
        ∙ ap (λ o. cons_option o []) (wait_sends_none peers p (messages + m) (k + 1))
    no_message false m k = refl

    none_there : (n at : ℕ) → messages_of (conf peers) p at (joined n (receiving s)) ≡ []
    none_there zero at = refl
    none_there (suc n) at = messages_of_more (conf peers) p at (joined n (receiving s)) (receiving s (n + 1))
        ∙ ap₂ (λ xs ys. xs ++ ys) (none_there n at) (no_message (dest (n + 1) == s) (n + 1) (at + length (joined n (receiving s))))

    messages_there : messages_of (conf peers) p 0 (script s) ≡ joined messages messaged
    messages_there = messages_of_more (conf peers) p 0 (sends number peers messages s) (receives number peers messages s)
        ∙ ap₂ (λ xs ys. xs ++ ys) (sends_there messages) (none_there messages (0 + length (sends number peers messages s)))
        ∙ append-nil (joined messages messaged)

    -- a message stands among its source's sends
    stands : (m : ℕ) → 1 ≤ m → m ≤ messages → (source m == s) ≡ true → place m < length (sends number peers messages s)
    unfolding place
    stands m low high from =
        let split = joined_split messages (m - 1) (sending s) (omega (arith, low, high)) in
        let same : m - 1 + 1 ≡ m = omega (arith, low) in
        let one : length (sending s m) ≡ 1 = ap (λ (b : Bool). length (if b then send m (dest m) (tag_of (x m)) (word m) ∷ [] else [])) from in
        omega (
          arith,
          ap length split.1,
          length-append (joined (m - 1) (sending s)) (sending s (m - 1 + 1) ++ split.0),
          length-append (sending s (m - 1 + 1)) split.0,
          ap (λ k. length (sending s k)) same,
          one,
        )

    Placed : Receive → Message → Type 0
    Placed r m = (fits s r m ≡ true) × (m.at < length (sends number peers messages s))

    fits_here : (m : ℕ) → source m ≡ s → fits s (post m) (item m) ≡ true
    unfolding post item
    fits_here m same = subst (λ k. fits k (posted peers (messages + m) (source m) (tag_of (x m)) (length_of (x m))) (item m) ≡ true) same
        (fits_it peers (messages + m) (source m) (tag_of (x m)) (length_of (x m)) m (dest m) (place m) (word m) (source_below m))

    in_pairs : Both Placed (joined messages received) (joined messages messaged)
    unfolding received messaged Placed item
    in_pairs = both_lists Placed messages received messaged (λ m low high. both_choices Placed (source m == s) (dest m == p) (post m) (item m)
        (λ from to. (fits_here m (eqb-true (source m) s from), stands m low high from)))

    -- the receive of a message between the two is paired with one of these
    comes_there : (m : ℕ) → 1 ≤ m → m ≤ messages → (dest m == p) ≡ true → (source m == s) ≡ true
        → (i : Message) × (partner bound p s (messages + m) ≡ Some i) × (i.at < length (sends number peers messages s))
    unfolding bound_of Placed post received
    comes_there m low high to from = paired bound script facts p s (messages + m) (λ c at. at < length (sends number peers messages s)) (joined messages received) (joined messages messaged)
        lt below receives_there messages_there in_pairs (post m)
        (in_joined (post m) messages m received low high (subst (In (post m)) (sym (ap₂ (λ (a b : Bool). recs a b (post m)) to from)) (inl refl))) refl

  -- ---- lines done

  all_sent : (p : ℕ) → p < peers → length (sends number peers messages p) ≤ so_far bound script facts p
  unfolding bound_of
  all_sent p lt = omega (
    arith,
    past_calls bound script facts p [] (sends number peers messages p) (receives number peers messages p) lt refl
        (joined_all (is_call bound) messages (sending p) (λ m. choice_all (is_call bound) (source m == p) _ refl)) (omega arith),
  )

  abbrev Received : ℕ → ℕ → Type 0
  Received p n = length (sends number peers messages p) + length (joined n (receiving p)) ≤ so_far bound script facts p

  waits_past : (p n c : ℕ) → messages + n < c → list_any (waits_op c) (sends number peers messages p ++ joined n (receiving p)) ≡ false
  waits_past p n c past = list_any-append (waits_op c) (sends number peers messages p) (joined n (receiving p)) ∙ ap₂ (λ a b. a || b)
      (joined_none (waits_op c) messages (sending p) (λ k low high. choice_any (waits_op c) (source k == p) _ refl))
      (joined_none (waits_op c) n (receiving p) (λ k low high. choice_any (waits_op c) (dest k == p) _ (ap (λ b. b || false) (differ_is (messages + k) c (λ e. omega (arith, e, past, high))))))

  one_received : (p n : ℕ) → p < peers → n < messages → Received p n → Received p (suc n)
  unfolding bound_of
  one_received p n lt less so = go (dest (n + 1) == p) refl
    where
      front : List LineOp
      front = sends number peers messages p ++ joined n (receiving p)

      recv : LineOp
      recv = receive (messages + (n + 1)) (source (n + 1)) (tag_of (x (n + 1))) (length_of (x (n + 1)))

      split : (back : List LineOp) × (receives number peers messages p ≡ joined n (receiving p) ++ (receiving p (n + 1) ++ back))
      split = joined_split messages n (receiving p) less

      front_long : length front ≡ length (sends number peers messages p) + length (joined n (receiving p))
      front_long = length-append (sends number peers messages p) (joined n (receiving p))

      one_long : (b : Bool) → (dest (n + 1) == p) ≡ b → length (receiving p (n + 1)) ≡ length (if b then recv ∷ wait (messages + (n + 1)) ∷ [] else [])
      one_long b e = ap (λ (b : Bool). length (if b then recv ∷ wait (messages + (n + 1)) ∷ [] else [])) e

      done_to : (b : Bool) → (dest (n + 1) == p) ≡ b → length front + length (if b then recv ∷ wait (messages + (n + 1)) ∷ [] else []) ≤ so_far bound script facts p
          → Received p (suc n)
      done_to b e le = omega (arith, le, one_long b e, front_long, length-append (joined n (receiving p)) (receiving p (n + 1)))

      is : (dest (n + 1) == p) ≡ true → script p ≡ front ++ recv ∷ wait (messages + (n + 1)) ∷ split.0
      is e = ap (λ rs. sends number peers messages p ++ rs)
          (split.1 ∙ ap (λ (b : Bool). joined n (receiving p) ++ ((if b then recv ∷ wait (messages + (n + 1)) ∷ [] else []) ++ split.0)) e)
          ∙ sym (append_assoc (sends number peers messages p) (joined n (receiving p)) (recv ∷ wait (messages + (n + 1)) ∷ split.0))

      last_long : length (front ++ recv ∷ []) ≡ length front + 1
      last_long = length-append front (recv ∷ [])

      taken : (dest (n + 1) == p) ≡ true → length front + 2 ≤ so_far bound script facts p
      taken e =
          let posts = past_calls bound script facts p front (recv ∷ []) (wait (messages + (n + 1)) ∷ split.0) lt (is e) refl (omega (arith, so, front_long)) in
          let comes = comes_there p (source (n + 1)) lt (source_below (n + 1)) (n + 1) (omega arith) (omega (arith, less)) e (same_number (source (n + 1))) in
          let waited = past_wait bound script facts p (source (n + 1)) (messages + (n + 1)) (tag_of (x (n + 1))) (length_of (x (n + 1))) (front ++ recv ∷ []) split.0
          (posted peers (messages + (n + 1)) (source (n + 1)) (tag_of (x (n + 1))) (length_of (x (n + 1)))) comes.0 lt
          (is e ∙ sym (append_assoc front (recv ∷ []) (wait (messages + (n + 1)) ∷ split.0)))
          (list_any-append (waits_op (messages + (n + 1))) front (recv ∷ []) ∙ ap (λ b. b || false) (waits_past p n (messages + (n + 1)) (omega arith)))
          (in_back recv front (recv ∷ []) (inl refl))
          (receive_accepted peers (messages + (n + 1)) (source (n + 1)) (tag_of (x (n + 1))) (length_of (x (n + 1))) (source_below (n + 1)) (long (n + 1)))
          (receive_posts peers (messages + (n + 1)) (source (n + 1)) (tag_of (x (n + 1))) (length_of (x (n + 1))) (source_below (n + 1)) (long (n + 1)))
          (posted_source peers (messages + (n + 1)) (source (n + 1)) (tag_of (x (n + 1))) (length_of (x (n + 1))) (source_below (n + 1)))
          refl comes.1 (omega (arith, comes.2, all_sent (source (n + 1)) (source_below (n + 1)))) (omega (arith, last_long, posts)) in
          omega (arith, waited, last_long)

      go : (b : Bool) → (dest (n + 1) == p) ≡ b → Received p (suc n)
      go true e = done_to true e (omega (arith, taken e))
      go false e = done_to false e (omega (arith, so, front_long))

  all_received : (p n : ℕ) → p < peers → n ≤ messages → Received p n
  all_received p zero lt le = omega (arith, all_sent p lt)
  all_received p (suc n) lt le = one_received p n lt (omega (arith, le)) (all_received p n lt (omega (arith, le)))

  pub generated_whole : list_all is_none (answer bound).next ≡ true
  unfolding bound_of
  generated_whole = all_answered bound script facts
      (λ p lt. omega (arith, all_received p messages lt (omega arith), length-append (sends number peers messages p) (receives number peers messages p)))

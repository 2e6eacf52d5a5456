-- The script of all rounds is settled, and its answer does all its lines: within a round each rank sends and posts before it
-- waits, so the sends of a round are done once the rounds before it are.
use Rattle.std.proofs.Common.{Bool, List, Some, [], ap, ap₂, append-nil, append_assoc, arith, false, get_or, inl, length, length-append, map, option_map, refl, subst, sym, true, ℕ, ◌++◌, ◌+◌, ◌<◌, ◌||◌, ◌∙◌, ◌∷◌, ◌≡◌, ◌≤◌}
use Rattle.std.proofs.lemmas.Bool.{and_from}
use Rattle.std.proofs.lemmas.List.Elements.{All-head, All-tail}
use Rattle.std.proofs.lemmas.List.Folds.{list_all-append, list_any-append}
use Rattle.std.proofs.lemmas.List.{length-map, map-append}
use Rattle.std.proofs.lemmas.Option.{get_or_from_slice_get, slice_get-map}
use Rattle.std.specs.List.{list_all, list_any}
use Rattle.std.specs.Option.{option_and_then}
use Rattle.std.specs.Prelude.{All, filter_map, find, if◌then◌else◌, is_none, slice_index_or, ◌==◌}
use Rattle.fab_base.specs.declared.operations.Receive.{Receive}
use Rattle.fab_base.specs.declared.script.Bound.{Bound}
use Rattle.fab_base.specs.declared.script.BytesWord.TheVariants.{Hex}
use Rattle.fab_base.specs.declared.script.LineOp.{LineOp}
use Rattle.fab_model.specs.Calls.{upto}
use Rattle.fab_model.specs.Replay.{lines_of}
use Rattle.fab_answer.specs.Answer.{answer}
use Rattle.fab_answer.specs.Laws.{HasSizes}
use Rattle.fab_answer.specs.Partners.{Message, fits, partner, partners}
use Rattle.fab_answer.specs.Settled.{are_distinct, is_settled, own_ctx}
use Rattle.fab_answer.proofs.Lists.{Each, In, always, in_back, in_front, in_map}
use Rattle.fab_answer.proofs.peer.Refusals.{waits_op}
use Rattle.fab_workloads.specs.Script.{all_numbered}
use Rattle.fab_workload_laws.proofs.Done.{Facts, all_answered, past_calls, past_wait, so_far}
use Rattle.fab_workload_laws.proofs.Ops.{is_simple, messages_are, messages_of, ops, receive_from_op, receives_are, bound_ops, numbered_at}
use Rattle.fab_workload_laws.proofs.Settings.{conf, posted, posted_source, receive_accepted, receive_posts, sent}
use Rattle.fab_workload_laws.proofs.Settled.{Good, settled_of}
use Rattle.fab_workload_laws.proofs.Whole.{is_call, upto_get}
use Rattle.fab_fold.specs.declared.coll.Coll.TheVariants.{Allgather, Allreduce, Barrier, Broadcast}
use Rattle.fab_fold.specs.declared.coll.Coll.{Coll}
use Rattle.fab_workloads.specs.declared.round.Round.{Round}
use Rattle.fab_workloads.specs.Plan.{plan_of, plan_ops, receive_ctx, receive_of, receivers, round_ops, rounds_ops, send_ctx, send_to, senders, wait_of}
use Rattle.fab_fold.specs.Shares.{AreShares, needs, share_in}
use Rattle.fab_workloads.specs.Rounds.{IsRound, share_of}
use Rattle.fab_workload_laws.proofs.Ranks.{Apart, apart_front, filter_in, kept_in, place, place_within}
use Rattle.fab_workload_laws.proofs.Rounds.{all_at, ctxs_once, find_pair, ops_append, ops_ctxs, ops_few, ops_messages, ops_quiet, ops_receives, ops_simple, ops_wait, pairs_fit, rec_in, recs, mess}
use Rattle.fab_workload_laws.proofs.Traffic.{Short, from_apart, from_below, posts_wait, sends_wait, waits_wait}

-- ---- shares are short

alike : (len s : ℕ) (shares : List (List ℕ)) → len ≤ 4096 → All (λ share. length share ≡ len) shares → length (slice_index_or shares s []) ≤ 4096
alike len s shares le all = all_at (λ share. length share ≤ 4096) shares s (less shares all) (omega arith)
  where
    less : (xs : List (List ℕ)) → All (λ share. length share ≡ len) xs → All (λ share. length share ≤ 4096) xs
    less xs all = grind (arith, all, le)

share_short : (peers : ℕ) (coll : Coll) (shares : List (List ℕ)) (s : ℕ) → AreShares peers coll shares → length (share_in coll shares s) ≤ 4096
share_short peers Barrier shares s is = omega (arith, ap (λ (xs : List (List ℕ)). length (slice_index_or xs s [])) is)
share_short peers (Broadcast root) shares s is = go (s == root)
  where
    go : (b : Bool) → length (if b then slice_index_or shares 0 [] else []) ≤ 4096
    go true = is.2
    go false = omega arith
share_short peers Allgather shares s is = alike is.1.0 s shares is.1.1 is.1.2
share_short peers (Allreduce op num) shares s is = alike is.2.0 s shares is.2.1 is.2.3

pub all_short : (peers : ℕ) (rounds : List Round) → All (IsRound peers) rounds → Each Short rounds
all_short peers [] all = always
all_short peers (round ∷ rounds) all = (λ s. share_short peers round.coll round.shares s (All-head (IsRound peers) round rounds all), all_short peers rounds (All-tail (IsRound peers) round rounds all))

-- ---- the script

module _ (peers : ℕ) (rounds : List Round) (most : peers ≤ 32) (few : length rounds ≤ 100) (short : Each Short rounds) where
  abbrev pub bound : Bound
  bound = plan_of peers rounds

  abbrev pub script : ℕ → List LineOp
  script p = rounds_ops peers 1 p rounds

  at : (p : ℕ) → p < peers → get_or (plan_ops peers rounds) p [] ≡ script p
  at p lt = get_or_from_slice_get (map script (upto peers)) p (script p) [] (slice_get-map script (upto peers) p ∙ ap (option_map script) (upto_get peers p lt))

  pub lines_so : (p : ℕ) → p < peers → ops (lines_of bound p) ≡ script p
  unfolding plan_of
  lines_so p lt =
      let there = numbered_at 1 (plan_ops peers rounds) p in
      bound_ops bound (get_or (all_numbered 1 (plan_ops peers rounds)) p []) (ap (list_all is_simple) (there ∙ at p lt) ∙ ops_simple peers most 1 p rounds short) ∙ there ∙ at p lt

  contexts_once : (p : ℕ) → are_distinct (filter_map own_ctx (script p)) ≡ true
  contexts_once p = ap are_distinct (ops_ctxs peers most 1 p rounds short) ∙ ctxs_once peers most 1 p rounds short

  good : (p : ℕ) → Good (conf peers) (script p)
  good p = record {
    simple = ops_simple peers most 1 p rounds short;
    few = omega (arith, ops_few peers most 1 p rounds short, few);
    distinct = contexts_once p;
    room = (ops_quiet peers most 1 p rounds short).0;
  }

  pub plan_settled : (is_settled bound ≡ true) × HasSizes bound
  unfolding plan_of
  plan_settled = (settled_of bound script refl refl lines_so (λ p lt. good p), (omega arith, omega arith))

  pub facts : Facts bound script
  unfolding plan_of
  facts = record { lines = lines_so; distinct = λ p lt. contexts_once p }

  -- ---- partners

  -- the receive in this round from a rank whose share is needed takes that rank's send of this round
  module _ (before : List Round) (round : Round) (behind : List Round) (is : rounds ≡ before ++ round ∷ behind) (p s : ℕ) (own : p < peers) (other : s < peers) (need : needs round.coll p s ≡ true) where
    abbrev pub number : ℕ
    number = 1 + length before

    abbrev pub posted_here : Receive
    posted_here = posted peers (receive_ctx (1 + length before) s) s (1 + length before) (length (share_of round s))

    abbrev pub message : Message
    message = sent peers (send_ctx (1 + length before) p) p (1 + length before) (Hex (share_of round s))
        (0 + length (rounds_ops peers 1 s before) + place p (receivers peers round.coll s))

    pub partner_is : partner bound p s (receive_ctx (1 + length before) s) ≡ Some message
    unfolding plan_of
    partner_is =
        let receives_so = receives_are (conf peers) s (lines_of bound p) ∙ ap (filter_map (receive_from_op (conf peers) s)) (lines_so p own ∙ ap (rounds_ops peers 1 p) is)
        ∙ ops_receives peers most p s own other 1 (before ++ round ∷ behind) (subst (Each Short) is short) in
        let messages_so = messages_are (conf peers) p 0 (lines_of bound s) ∙ ap (messages_of (conf peers) p 0) (lines_so s other ∙ ap (rounds_ops peers 1 s) is)
        ∙ ops_messages peers most p s own other 1 0 (before ++ round ∷ behind) (subst (Each Short) is short) in
        let found = find_pair s (receive_ctx (1 + length before) s) (λ r n. r.ctx ≡ receive_ctx (1 + length before) s → n ≡ message)
        (recs peers most p s own other 1 (before ++ round ∷ behind)) (mess peers most p s own other 1 0 (before ++ round ∷ behind))
        (pairs_fit peers most p s own other (1 + length before) message 1 0 before round behind refl refl)
        posted_here (rec_in peers most p s own other 1 before round behind (1 + length before) refl need) refl in
        ap₂ (λ (xs : List Receive) (ys : List Message). option_and_then (λ pair. pair.1) (find (λ pair. pair.0.ctx == receive_ctx (1 + length before) s) (partners (fits s) xs ys))) receives_so messages_so
        ∙ found.2 ∙ ap Some (found.4 found.3)

  -- ---- lines done

  abbrev pub done_to : ℕ → ℕ
  done_to p = so_far bound script facts p

  abbrev Past : List Round → Type 0
  Past before = (p : ℕ) → p < peers → length (rounds_ops peers 1 p before) ≤ so_far bound script facts p

  module _ (before : List Round) (round : Round) (behind : List Round) (is : rounds ≡ before ++ round ∷ behind) where
    here : Short round
    here = go before (subst (Each Short) is short)
      where
        go : (xs : List Round) → Each Short (xs ++ round ∷ behind) → Short round
        go [] each = each.0
        go (x ∷ xs) each = go xs each.1

    front_short : Each Short before
    front_short = go before (subst (Each Short) is short)
      where
        go : (xs : List Round) → Each Short (xs ++ round ∷ behind) → Each Short xs
        go [] each = always
        go (x ∷ xs) each = (each.0, go xs each.1)

    abbrev i : ℕ
    i = 1 + length before

    abbrev pub front : ℕ → List LineOp
    front p = rounds_ops peers 1 p before

    abbrev pub sends : ℕ → List LineOp
    sends p = map (send_to (1 + length before) (share_of round p)) (receivers peers round.coll p)

    abbrev pub posts : ℕ → List LineOp
    posts p = map (receive_of (1 + length before) round) (senders peers round.coll p)

    abbrev pub waits : ℕ → List LineOp
    waits p = map (wait_of (1 + length before)) (senders peers round.coll p)

    abbrev back : ℕ → List LineOp
    back p = rounds_ops peers (1 + length before + 1) p behind

    pub parts : (p : ℕ) → script p ≡ front p ++ ((sends p ++ posts p) ++ (waits p ++ back p))
    parts p = ap (rounds_ops peers 1 p) is ∙ ops_append peers most 1 p before (round ∷ behind)
        ∙ ap (λ (ls : List LineOp). front p ++ ls) (ap (λ (ls : List LineOp). ls ++ back p) (sym (append_assoc (sends p) (posts p) (waits p))) ∙ append_assoc (sends p ++ posts p) (waits p) (back p))

    sends_calls : (share xs : List ℕ) → list_all (is_call bound) (map (send_to (1 + length before) share) xs) ≡ true
    sends_calls share [] = refl
    sends_calls share (x ∷ xs) = sends_calls share xs

    posts_calls : (xs : List ℕ) → list_all (is_call bound) (map (receive_of (1 + length before) round) xs) ≡ true
    posts_calls [] = refl
    posts_calls (x ∷ xs) = posts_calls xs

    called : Past before → (p : ℕ) → p < peers → length (front p) + length (sends p ++ posts p) ≤ so_far bound script facts p
    unfolding plan_of
    called past p lt = past_calls bound script facts p (front p) (sends p ++ posts p) (waits p ++ back p) lt (parts p)
        (list_all-append (is_call bound) (sends p) (posts p) ∙ and_from _ _ (sends_calls (share_of round p) (receivers peers round.coll p)) (posts_calls (senders peers round.coll p))) (past p lt)

    -- the waits, one after another
    one_waited : Past before → (p : ℕ) → p < peers → (xs : List ℕ) (s : ℕ) (ys : List ℕ) → senders peers round.coll p ≡ xs ++ s ∷ ys
        → length (front p) + length (sends p ++ posts p) + length xs ≤ so_far bound script facts p → length (front p) + length (sends p ++ posts p) + (length xs + 1) ≤ so_far bound script facts p
    unfolding plan_of
    one_waited past p lt xs s ys split le =
        let c = receive_ctx (1 + length before) s in
        let j : In s (senders peers round.coll p) = subst (In s) (sym split) (in_back s xs (s ∷ ys) (inl refl)) in
        let other : s < peers = from_below peers most (1 + length before) p round here s j in
        let need : needs round.coll p s ≡ true = (filter_in (λ t. needs round.coll p t) (upto peers) s j).1 in
        let whole : waits p ≡ map (wait_of (1 + length before)) xs ++ wait_of (1 + length before) s ∷ map (wait_of (1 + length before)) ys = ap (map (wait_of (1 + length before))) split ∙ map-append (wait_of (1 + length before)) xs (s ∷ ys) in
        let stands : script p ≡ (front p ++ (sends p ++ posts p)) ++ map (wait_of (1 + length before)) xs ++ wait_of (1 + length before) s ∷ (map (wait_of (1 + length before)) ys ++ back p) =
        parts p ∙ sym (append_assoc (front p) (sends p ++ posts p) (waits p ++ back p))
        ∙ ap (λ (ls : List LineOp). (front p ++ (sends p ++ posts p)) ++ (ls ++ back p)) whole
        ∙ ap (λ (ls : List LineOp). (front p ++ (sends p ++ posts p)) ++ ls) (append_assoc (map (wait_of (1 + length before)) xs) (wait_of (1 + length before) s ∷ map (wait_of (1 + length before)) ys) (back p))
        ∙ sym (append_assoc (front p ++ (sends p ++ posts p)) (map (wait_of (1 + length before)) xs) (wait_of (1 + length before) s ∷ (map (wait_of (1 + length before)) ys ++ back p))) in
        let long : length ((front p ++ (sends p ++ posts p)) ++ map (wait_of (1 + length before)) xs) ≡ length (front p) + length (sends p ++ posts p) + length xs =
        omega (arith, length-append (front p ++ (sends p ++ posts p)) (map (wait_of (1 + length before)) xs), length-append (front p) (sends p ++ posts p), length-map xs (wait_of (1 + length before))) in
        let unwaited : list_any (waits_op (receive_ctx (1 + length before) s)) ((front p ++ (sends p ++ posts p)) ++ map (wait_of (1 + length before)) xs) ≡ false =
        list_any-append (waits_op c) (front p ++ (sends p ++ posts p)) (map (wait_of (1 + length before)) xs)
        ∙ ap₂ (λ a b. a || b)
        (list_any-append (waits_op c) (front p) (sends p ++ posts p)
        ∙ ap₂ (λ a b. a || b) (ops_wait peers most 1 p c before front_short (omega arith))
        (list_any-append (waits_op c) (sends p) (posts p)
        ∙ ap₂ (λ a b. a || b) (sends_wait peers most (1 + length before) (share_of round p) (here p) c (receivers peers round.coll p)) (posts_wait peers most (1 + length before) round here c (senders peers round.coll p))))
        (waits_wait peers most (1 + length before) c xs (λ x k e. apart_front xs ys s x (subst Apart split (from_apart peers most (1 + length before) p round here)) k (let same : x ≡ s = omega (arith, e) in same))) in
        let inside : In (receive_of (1 + length before) round s) ((front p ++ (sends p ++ posts p)) ++ map (wait_of (1 + length before)) xs) =
        in_front (receive_of (1 + length before) round s) (front p ++ (sends p ++ posts p)) (map (wait_of (1 + length before)) xs)
        (in_back (receive_of (1 + length before) round s) (front p) (sends p ++ posts p) (in_back (receive_of (1 + length before) round s) (sends p) (posts p) (in_map (receive_of (1 + length before) round) (senders peers round.coll p) s j))) in
        let size : length (share_of round s) ≤ 16_777_216 = omega (arith, here s) in
        let there : place p (receivers peers round.coll s) < length (receivers peers round.coll s) = place_within p (receivers peers round.coll s) (kept_in (λ t. needs round.coll t s) peers p lt need) in
        let called_there = called past s other in
        let done_there : (message before round behind is p s lt other need).at < so_far bound script facts s =
        omega (arith, there, called_there, length-append (sends s) (posts s), length-map (receivers peers round.coll s) (send_to (1 + length before) (share_of round s))) in
        let done = past_wait bound script facts p s (receive_ctx (1 + length before) s) (1 + length before) (length (share_of round s))
        ((front p ++ (sends p ++ posts p)) ++ map (wait_of (1 + length before)) xs) (map (wait_of (1 + length before)) ys ++ back p)
        (posted_here before round behind is p s lt other need) (message before round behind is p s lt other need) lt stands unwaited inside
        (receive_accepted peers c s (1 + length before) (length (share_of round s)) other size) (receive_posts peers c s (1 + length before) (length (share_of round s)) other size)
        (posted_source peers c s (1 + length before) (length (share_of round s)) other) refl (partner_is before round behind is p s lt other need) done_there (omega (arith, long, le)) in
        omega (arith, done, long)

    all_waited : Past before → (p : ℕ) → p < peers → (xs ys : List ℕ) → senders peers round.coll p ≡ xs ++ ys
        → length (front p) + length (sends p ++ posts p) + length xs ≤ so_far bound script facts p
        → length (front p) + length (sends p ++ posts p) + length (senders peers round.coll p) ≤ so_far bound script facts p
    all_waited past p lt xs [] split le = omega (arith, le, ap length split, ap length (append-nil xs))
    all_waited past p lt xs (s ∷ ys) split le =
        all_waited past p lt (xs ++ s ∷ []) ys (split ∙ sym (append_assoc xs (s ∷ []) ys)) (omega (arith, one_waited past p lt xs s ys split le, length-append xs (s ∷ [])))

    one_round : Past before → Past (before ++ round ∷ [])
    one_round past p lt =
        let le = called past p lt in
        let waited = all_waited past p lt [] (senders peers round.coll p) refl (omega (arith, le)) in
        omega (
          arith,
          waited,
          ap length (ops_append peers most 1 p before (round ∷ [])),
          length-append (front p) (round_ops peers (1 + length before) p round ++ []),
          ap length (append-nil (round_ops peers (1 + length before) p round)),
          length-append (sends p) (posts p ++ waits p),
          length-append (posts p) (waits p),
          length-append (sends p) (posts p),
          length-map (senders peers round.coll p) (wait_of (1 + length before)),
        )

  all_rounds : (before behind : List Round) → rounds ≡ before ++ behind → Past before → Past rounds
  all_rounds before [] is past = subst Past (sym (is ∙ append-nil before)) past
  all_rounds before (round ∷ behind) is past = all_rounds (before ++ round ∷ []) behind (is ∙ sym (append_assoc before (round ∷ []) behind)) (one_round before round behind is past)

  pub whole : (p : ℕ) → p < peers → length (script p) ≤ so_far bound script facts p
  whole = all_rounds [] rounds refl (λ p lt. omega arith)

  pub plan_answered : list_all is_none (answer bound).next ≡ true
  unfolding plan_of
  plan_answered = all_answered bound script facts whole

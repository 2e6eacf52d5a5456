-- A multi-receive that draws gives room to a message: what is stored stays true, whether it stays posted or closes.
use Rattle.std.proofs.Common.{◌≡◌, ◌≢◌, ◌⊎◌, inl, inr, ℕ, ◌+◌, ◌<◌, ◌==◌, Bool, true, false, List, [], ◌∷◌, ◌++◌, length, map, Option, Some, None, get_or, set, refl, sym, ap, subst, ◌∙◌, arith, length-append}
use Rattle.std.specs.Prelude.{find, is_some}
use Rattle.std.specs.Option.{option_map}
use Rattle.std.specs.List.{AllZip, list_any}
use Rattle.fab_base.specs.declared.items.Want.{Want}
use Rattle.fab_base.specs.declared.items.Sign.{Sign}
use Rattle.fab_base.specs.declared.operations.Receive.{Receive}
use Rattle.fab_base.proofs.Lists.{some_within as id_within}
use Rattle.fab_base.proofs.Numbers.{numbers_differ as eqb-false}
use Rattle.fab_model.specs.Matching.{change_first, remove_first}
use Rattle.fab_match.specs.Matcher.{has_id, without}
use Rattle.fab_rx.specs.declared.stored.Waiting.{Waiting}
use Rattle.fab_rx.specs.declared.stored.Multi.{Multi}
use Rattle.fab_rx.specs.declared.stored.Parcel.{Parcel}
use Rattle.fab_rx.specs.declared.stored.Begun.{Begun}
use Rattle.fab_rx.specs.Table.{Cells, at}
use Rattle.fab_rx.specs.Arriving.{Arriving}
use Rattle.fab_rx.specs.Stored.{AreApart, IsFit, IsKept, Sits, multi_of, waiting_of}
use Rattle.fab_rx.specs.Homes.{AreMulti, GoesHome, IsFed, IsHome, IsPart, Rests, is_fed_by, no_pairs}
use Rattle.fab_rx.specs.Numbers.{IsNumbered}
use Rattle.fab_rx.specs.Sharing.{multi_at, multi_in}
use Rattle.fab_rx.proofs.Tying.{retied, retied_but, same_or, tied_both, tied_push}
use Rattle.fab_rx.proofs.Apart.{apart_claim, apart_fewer, apart_rest, not_claimed}
use Rattle.fab_rx.proofs.Changing.{kept_changed}
use Rattle.fab_rx.proofs.Keeping.{at_other, at_same, sits_at}
use Rattle.fab_rx.proofs.Numbering.{numbers_changed, numbers_leave_by}
use Rattle.fab_rx.proofs.Leaving.{IsLeaving, leaving, passes}
use Rattle.fab_rx.proofs.Sharing.{IsLike, any_at, home_like, like_itself, multi_gone, rests_at}
use Rattle.fab_rx.proofs.Closing.{all_push}
use Rattle.fab_rx.proofs.Taking.{least_some}

-- the first id that passes changes, and with it the member that it stands for
changed_found : {X B : Type 0} (R S : ℕ × X → B → Type 0) (want : ℕ → Bool) (test : B → Bool) (f : B → B) (id : ℕ) → ((p : ℕ × X) (y : B) → R p y → want p.0 ≡ test y) → ((p : ℕ × X) (y : B) → p.0 ≡ id → R p y → S p (f y)) → ((p : ℕ × X) (y : B) → p.0 ≢ id → R p y → S p y)
    → (xs : List (ℕ × X)) (ys : List B) → AreApart no_pairs xs → find want (map (λ p. p.0) xs) ≡ Some id → AllZip R xs ys → AllZip S xs (change_first test f ys)
changed_found R S want test f id agree this other [] [] apart e t = tt
changed_found R S want test f id agree this other [] (y ∷ ys) apart e t = absurd t
changed_found R S want test f id agree this other (x ∷ xs) [] apart e t = absurd t
changed_found R S want test f id agree this other (x ∷ xs) (y ∷ ys) apart e t = step (want x.0) refl (λ later. changed_found R S want test f id agree this other xs ys apart.2 later t.1)
  where
    step : (b : Bool) → want x.0 ≡ b → (find want (map (λ p. p.0) xs) ≡ Some id → AllZip S xs (change_first test f ys)) → AllZip S (x ∷ xs) (change_first test f (y ∷ ys))
    step true w later =
        let both : Some x.0 ≡ Some id = rw w at e in
        let same : x.0 ≡ id = cc in
        let yes : test y ≡ true = sym (agree x y t.0) ∙ w in
        rw (yes, change_first) (this x y same t.0, retied_but R S id xs ys other (subst (λ (k : ℕ). has_id k xs ≡ false) same apart.1) t.1)
    step false w later =
        let rest : find want (map (λ p. p.0) xs) ≡ Some id = rw w at e in
        let no : test y ≡ false = sym (agree x y t.0) ∙ w in
        let passed = passes want (map (λ p. p.0) xs) id rest in
        rw (no, change_first) (other x y (λ same. (let not_so : true ≡ false = sym passed ∙ ap want (sym same) ∙ w in absurd (cc))) t.0, later rest)

-- the id that is found is one of them
found_has : {X : Type 0} (want : ℕ → Bool) (id : ℕ) (xs : List (ℕ × X)) → find want (map (λ p. p.0) xs) ≡ Some id → has_id id xs ≡ true
found_has want id [] e = absurd (cc)
found_has {X} want id (x ∷ xs) e = step (want x.0) refl (x.0 == id) refl (λ rest. found_has want id xs rest)
  where
    step : (b : Bool) → want x.0 ≡ b → (d : Bool) → (x.0 == id) ≡ d → (find want (map (λ p. p.0) xs) ≡ Some id → has_id id xs ≡ true) → has_id id (x ∷ xs) ≡ true
    step b w true same more = rw same refl
    step true w false other more = absurd (let both : Some x.0 ≡ Some id = rw w at e in let same : x.0 ≡ id = cc in eqb-false x.0 id other same)
    step false w false other more = rw other (more (rw w at e))

-- what contracts see where receives are posted and closing in other ways
abbrev pub room_given : List Receive → List Receive → Arriving → Arriving
room_given posted closing v = record { rx = record v.rx { posted = posted; closing = closing }; begun = v.begun; most = v.most; next = v.next; multis = v.multis }

-- a receive as it was, but for what it gave away and the bytes in its buffer
pub record IsSameBut (r x : Receive) : Type 0 where
  pub call : x.call ≡ r.call
  pub want : x.want ≡ r.want
  pub ctx : x.ctx ≡ r.ctx
  pub least : x.least ≡ r.least
  pub long : length x.buf ≡ length r.buf

module _ (ps : List (ℕ × Want)) (us : List (ℕ × Sign)) (room : ℕ) (seats : Cells Waiting) (parcels : Cells Parcel) (coming : List (Option Begun)) (v : Arriving) (kept : IsKept ps us room seats parcels coming v)
    (cs : List (ℕ × ℕ)) (m : AreMulti ps cs seats coming v.rx.posted v.rx.closing v.rx.coming v.next v.multis v.most)
    (want : ℕ → Bool) (test : Receive → Bool) (agree : (p : ℕ × Want) (r : Receive) → Sits seats p r → want p.0 ≡ test r) (id : ℕ) (e : find want (map (λ p. p.0) ps) ≡ Some id) (q : Multi) (shared : multi_at seats id ≡ Some q) where
  pub Both : ℕ × Want → Receive → Type 0
  Both p r = Sits seats p r × IsHome m.homes m.calls p r

  pub both_agree : (p : ℕ × Want) (r : Receive) → Both p r → want p.0 ≡ test r
  unfolding Both
  both_agree p r b = agree p r b.0

  pub found : IsLeaving Both want test both_agree id ps v.rx.posted
  unfolding Both
  found = leaving Both want test both_agree id ps v.rx.posted (tied_both (Sits seats) (IsHome m.homes m.calls) ps v.rx.posted kept.receives m.posted_home) e

  abbrev pub giver : Receive
  giver = found.member

  abbrev r : Receive
  r = giver

  pub giver_found : find test v.rx.posted ≡ Some giver
  giver_found = found.found

  sits : Sits seats found.pair r
  unfolding Both
  sits = found.tie.0

  is_home : IsHome m.homes m.calls found.pair r
  unfolding Both
  is_home = found.tie.1

  pub there : at seats id ≡ Some (waiting_of r)
  there = ap (at seats) (sym found.is) ∙ sits.seat

  pub some : (least : ℕ) × (r.least ≡ Some least) × (q.used ≡ r.used)
  some = least_some r q (sym (ap multi_in there) ∙ shared)

  pub multi : is_some r.least ≡ true
  multi = rw some.1 refl

  pub fit : IsFit r
  fit = sits.fit

  pub want_same : q.want ≡ r.want
  want_same = by r.least refl
    where
      stored : multi_of r ≡ Some q
      stored = sym (ap multi_in there) ∙ shared

      by : (o : Option ℕ) → r.least ≡ o → q.want ≡ r.want
      by None none = absurd (let no : None ≡ Some q = rw none at stored in cc)
      by (Some least) is = let both : Some (record { want = r.want; least = least; used = r.used }) ≡ Some q = rw is at stored in let same : record { want = r.want; least = least; used = r.used } ≡ q = cc in sym (ap (λ (x : Multi). x.want) same)

  pub home : m.homes r.call ≡ Some id
  home = is_home.home ∙ rw some.1 (ap (λ (k : ℕ). Some k) found.is)

  pub call : m.calls id ≡ r.call
  call = ap m.calls (sym found.is) ∙ is_home.call multi

  pub has : has_id id ps ≡ true
  has = found_has want id ps e

  pub unclosed : has_id id cs ≡ false
  unclosed = not_claimed ps cs id has m.apart

  -- an item may go to it
  pub part : IsPart m.homes m.calls seats id r
  part = record { multi = multi; home = home; call = call; there = waiting_of r; seat = there; shared = rw some.1 refl; ctx = refl; long = refl }

  -- ---- it changes

  module _ (g : Receive → Receive) (same : (y : Receive) → IsSameBut y (g y)) (fits : (y : Receive) → is_some y.least ≡ true → IsFit y → IsFit (g y)) (f : Waiting → Waiting) (alike : (y : Receive) → f (waiting_of y) ≡ waiting_of (g y))
      (others : Cells Waiting) (is : others.cells ≡ set seats.cells id (option_map f (at seats id))) (free : others.spare ≡ seats.spare) where
    now : at others id ≡ Some (waiting_of (g r))
    now = at_same seats others id (option_map f (at seats id)) is (id_within seats.cells id (waiting_of r) there) ∙ ap (option_map f) there ∙ ap (λ (w : Waiting). Some w) (alike r)

    same_else : (k : ℕ) → k ≢ id → at others k ≡ at seats k
    same_else k other = at_other seats others id (option_map f (at seats id)) is k other

    like_by : (k : ℕ) (w : Waiting) → at seats k ≡ Some w → (k ≡ id) ⊎ (k ≢ id) → (x : Waiting) × (at others k ≡ Some x) × IsLike w x
    like_by k w is_w (inr other) = (w, same_else k other ∙ is_w, like_itself w)
    like_by k w is_w (inl is_k) =
        let both : Some w ≡ Some (waiting_of r) = sym is_w ∙ ap (at seats) is_k ∙ there in
        let equal : w ≡ waiting_of r = cc in (
          waiting_of (g r),
          ap (at others) is_k ∙ now,
          record {
            shared = λ old. rw ((same r).least, some.1) refl;
            ctx = (same r).ctx ∙ sym (ap (λ (x : Waiting). x.seat.ctx) equal);
            long = (same r).long ∙ sym (ap (λ (x : Waiting). length x.seat.buf) equal);
          },
        )

    ways : (s : ℕ) → GoesHome m.homes m.calls others (get_or coming s None) (get_or v.rx.coming s None)
    ways s = home_like m.homes m.calls seats others (get_or coming s None) (get_or v.rx.coming s None) (λ k w fed is_w. like_by k w is_w (same_or k id)) (m.ways s)

    rests : (c : ℕ × ℕ) (y : Receive) → c.0 ≢ id → Rests m.homes m.calls seats c y → Rests m.homes m.calls others c y
    rests c y other old = rests_at m.homes m.calls seats others c y (same_else c.0 other) old

    kept_given : (xs : List (ℕ × Want)) (posted closing : List Receive) → AllZip (Sits others) xs posted → length xs + 0 ≡ length xs → length xs < length ps + 1 → IsKept xs us room others parcels coming (room_given posted closing v)
    kept_given xs posted closing tied zero fewer = record {
      receives = tied;
      messages = kept.messages;
      ways = kept.ways;
      few = let few = kept.few in omega arith;
      most = kept.most;
      peers = kept.peers;
      comings = kept.comings;
      heads = kept.heads;
      tails = kept.tails;
      under_way = kept.under_way;
    }

    -- it stays posted

    seats_on : AllZip (Sits others) ps (change_first test g v.rx.posted)
    seats_on =
        changed_found (Sits seats) (Sits others) want test g id agree sits_changed (λ p y other old. sits_at seats others p y (same_else p.0 other) old) ps v.rx.posted m.distinct e kept.receives
      where
        sits_changed : (p : ℕ × Want) (y : Receive) → p.0 ≡ id → Sits seats p y → Sits others p (g y)
        sits_changed p y is_id old =
            let both : Some (waiting_of y) ≡ Some (waiting_of r) = sym old.seat ∙ ap (at seats) is_id ∙ there in
            let equal : waiting_of y ≡ waiting_of r = cc in
            let least : is_some y.least ≡ true = by y.least refl (ap (λ (w : Waiting). is_some w.multi) equal ∙ rw some.1 refl) in
            record {
              want = old.want ∙ sym (same y).want;
              seat = ap (at others) is_id ∙ now ∙ ap (λ (w : Waiting). Some w) (sym (alike r) ∙ ap f (sym equal) ∙ alike y);
              fit = fits y least old.fit;
            }
          where
            by : (o : Option ℕ) → y.least ≡ o → is_some (multi_of y) ≡ true → is_some y.least ≡ true
            by None none is_some_then = absurd (let no : false ≡ true = rw none at is_some_then in cc)
            by (Some least) is_least is_some_then = rw is_least refl

    pub kept_on : IsKept ps us room others parcels coming (room_given (change_first test g v.rx.posted) v.rx.closing v)
    kept_on = kept_given ps (change_first test g v.rx.posted) v.rx.closing seats_on (omega arith) (omega arith)

    pub multi_on : AreMulti ps cs others coming (change_first test g v.rx.posted) v.rx.closing v.rx.coming v.next v.multis v.most
    multi_on = record {
      homes = m.homes;
      calls = m.calls;
      posted_home = kept_changed (IsHome m.homes m.calls) test g ps v.rx.posted
          (λ p y h. record { home = ap m.homes (same y).call ∙ h.home ∙ ap (option_map (λ (x : ℕ). p.0)) (sym (same y).least); call = λ is_some_then. h.call (ap is_some (sym (same y).least) ∙ is_some_then) ∙ sym (same y).call }) m.posted_home;
      closing_rest = retied_but (Rests m.homes m.calls seats) (Rests m.homes m.calls others) id cs v.rx.closing rests unclosed m.closing_rest;
      distinct = m.distinct;
      apart = m.apart;
      ways = ways;
      live = m.live;
      fresh = m.fresh;
      plain = m.plain;
      ids = m.ids;
      numbers = m.numbers;
      back = m.back;
      spare = let spare = m.spare in let count = free in omega arith;
    }

    pub numbers_on : IsNumbered v.rx.posted v.rx.coming v.next → IsNumbered (change_first test g v.rx.posted) v.rx.coming v.next
    numbers_on numbers = numbers_changed test g (λ y. (same y).call) v.next v.rx.posted v.rx.coming numbers

    -- it closes

    module _ (ctx : ℕ) (is_ctx : ctx ≡ r.ctx) (fed : list_any (is_fed_by id) coming ≡ true) (rest : List (ℕ × Want)) (are : rest ≡ without id ps) (gone : has_id id rest ≡ false) where
      tied : AllZip Both rest (remove_first test v.rx.posted)
      tied = subst (λ (xs : List (ℕ × Want)). AllZip Both xs (remove_first test v.rx.posted)) (sym are) found.rest

      shorter : length rest + 1 ≡ length ps
      shorter = ap (λ (xs : List (ℕ × Want)). length xs + 1) are ∙ found.shorter

      pub kept_off : IsKept rest us room others parcels coming (room_given (remove_first test v.rx.posted) (v.rx.closing ++ g r ∷ []) v)
      unfolding Both
      kept_off = kept_given rest (remove_first test v.rx.posted) (v.rx.closing ++ g r ∷ [])
          (retied_but Both (Sits others) id rest (remove_first test v.rx.posted) (λ p y other b. sits_at seats others p y (same_else p.0 other) b.0) gone tied)
          (omega arith) (let less = shorter in omega arith)

      pub multi_off : AreMulti rest (cs ++ (id, ctx) ∷ []) others coming (remove_first test v.rx.posted) (v.rx.closing ++ g r ∷ []) v.rx.coming v.next v.multis v.most
      unfolding Both
      multi_off = record {
        homes = m.homes;
        calls = m.calls;
        posted_home = retied Both (IsHome m.homes m.calls) rest (remove_first test v.rx.posted) (λ p y b. b.1) tied;
        closing_rest =
            tied_push (Rests m.homes m.calls others) cs v.rx.closing (id, ctx) (g r)
            (retied_but (Rests m.homes m.calls seats) (Rests m.homes m.calls others) id cs v.rx.closing rests unclosed m.closing_rest)
            (record { seat = now; ctx = is_ctx ∙ sym (same r).ctx; multi = ap is_some (same r).least ∙ multi; home = ap m.homes (same r).call ∙ home; call = call ∙ sym (same r).call; fit = fits r multi fit });
        distinct = rw are (apart_rest (λ p. p.0 == id) no_pairs ps m.distinct);
        apart = apart_claim ps rest cs (id, ctx) has gone m.apart (rw are (apart_fewer (λ p. p.0 == id) ps cs m.apart));
        ways = ways;
        live = all_push (IsFed coming) cs (id, ctx) m.live fed;
        fresh = m.fresh;
        plain = m.plain;
        ids = m.ids;
        numbers = m.numbers;
        back = m.back;
        spare = let spare = m.spare in let count = free in let longer = length-append cs ((id, ctx) ∷ []) in let less = shorter in omega arith;
      }

      pub numbers_off : IsNumbered v.rx.posted v.rx.coming v.next → IsNumbered (remove_first test v.rx.posted) v.rx.coming v.next
      numbers_off numbers = numbers_leave_by test v.next v.rx.posted v.rx.coming numbers

  -- ---- its buffer comes back at once

  module _ (unfed : list_any (is_fed_by id) coming ≡ false) (others : Cells Waiting) (is : others.cells ≡ set seats.cells id None) (more : others.spare ≡ seats.spare + 1) (rest : List (ℕ × Want)) (are : rest ≡ without id ps) (gone : has_id id rest ≡ false) where
    tied_out : AllZip Both rest (remove_first test v.rx.posted)
    tied_out = subst (λ (xs : List (ℕ × Want)). AllZip Both xs (remove_first test v.rx.posted)) (sym are) found.rest

    shorter_out : length rest + 1 ≡ length ps
    shorter_out = ap (λ (xs : List (ℕ × Want)). length xs + 1) are ∙ found.shorter

    pub kept_out : IsKept rest us room others parcels coming (room_given (remove_first test v.rx.posted) v.rx.closing v)
    unfolding Both
    kept_out = record {
      receives = retied_but Both (Sits others) id rest (remove_first test v.rx.posted) (λ p y other b. sits_at seats others p y (at_other seats others id None is p.0 other) b.0) gone tied_out;
      messages = kept.messages;
      ways = kept.ways;
      few = let few = kept.few in let less = shorter_out in omega arith;
      most = kept.most;
      peers = kept.peers;
      comings = kept.comings;
      heads = kept.heads;
      tails = kept.tails;
      under_way = kept.under_way;
    }

    pub multi_out : AreMulti rest cs others coming (remove_first test v.rx.posted) v.rx.closing v.rx.coming v.next v.multis v.most
    unfolding Both
    multi_out =
        multi_gone ps cs seats coming v.rx.posted v.rx.closing v.rx.coming v.next v.multis v.most m id others is more rest are shorter_out (remove_first test v.rx.posted) (retied Both (IsHome m.homes m.calls) rest (remove_first test v.rx.posted) (λ p y b. b.1) tied_out)
        (λ s fed. absurd (let no : true ≡ false = sym (any_at (is_fed_by id) coming s refl fed) ∙ unfed in cc))

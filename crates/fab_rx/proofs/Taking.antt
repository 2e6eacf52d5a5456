-- A multi-receive takes a message: what is stored stays true, whether it stays posted or closes.
use Rattle.std.proofs.Common.{Global, ◌≡◌, ◌≢◌, ◌⊎◌, inl, inr, ℕ, ◌+◌, ◌<◌, ◌≤◌, ◌==◌, Bool, true, false, not, List, [], ◌∷◌, ◌++◌, length, Option, Some, None, get_or, set, vec_capacity, refl, sym, ap, subst, ◌∙◌, arith, length-append, length-set}
use Rattle.std.specs.Prelude.{Vec, is_some, IsSomeAnd}
use Rattle.std.specs.Option.{option_map}
use Rattle.std.specs.List.{AllZip}
use Rattle.std.proofs.lemmas.Bool.{eq-eqb}
use Rattle.std.proofs.lemmas.List.{append-nil, get_or-set_other, get_or-set_same}
use Rattle.fab_base.specs.declared.items.ItemHead.{ItemHead}
use Rattle.fab_base.specs.declared.items.Want.{Want}
use Rattle.fab_base.specs.declared.items.Sign.{Sign}
use Rattle.fab_base.specs.declared.operations.Receive.{Receive}
use Rattle.fab_base.specs.declared.operations.Coming.TheVariants.{Into as IntoReceive}
use Rattle.fab_base.proofs.Lists.{some_within as id_within}
use Rattle.fab_model.specs.Matching.{matches, change_first, remove_first}
use Rattle.fab_base.specs.Kinds.{is_message}
use Rattle.fab_model.specs.State.{coming_from, raise}
use Rattle.fab_model.specs.Arrivals.{heading_message, is_wanted, seated as seated_after, shut, stays, used_up}
use Rattle.fab_match.specs.Signs.{fits}
use Rattle.fab_match.specs.Matcher.{first_id, has_id, without}
use Rattle.fab_rx.specs.declared.stored.Multi.{Multi}
use Rattle.fab_rx.specs.declared.stored.Waiting.{Waiting}
use Rattle.fab_rx.specs.declared.stored.Parcel.{Parcel}
use Rattle.fab_rx.specs.declared.stored.Way.TheVariants.{Part}
use Rattle.fab_rx.specs.declared.stored.Begun.{Begun}
use Rattle.fab_rx.specs.Table.{Cells, at}
use Rattle.fab_rx.specs.Arriving.{Arriving, arriving, bare, begun_of}
use Rattle.fab_rx.specs.Stored.{IsFit, IsKept, Lies, Sits, multi_of, waiting_of}
use Rattle.fab_rx.specs.Homes.{AreMulti, IsHome, IsPart, Rests, is_fed_by}
use Rattle.fab_rx.specs.Sharing.{IsUsable, is_spent, left_by, multi_at, multi_in, used_up_by}
use Rattle.fab_rx.proofs.Keeping.{none_stored, row, seat_taken}
use Rattle.fab_rx.specs.Homes.{GoesHome, IsFed, no_pairs}
use Rattle.fab_rx.specs.Numbers.{IsNumbered}
use Rattle.fab_match.proofs.Pairs.{has_id-first}
use Rattle.fab_rx.proofs.Tying.{IsTaken, retied, retied_but, same_or, tied_push}
use Rattle.fab_rx.proofs.Apart.{apart_claim, apart_fewer, apart_rest, not_claimed}
use Rattle.fab_rx.proofs.Changing.{changed_first, kept_changed}
use Rattle.fab_rx.proofs.Keeping.{at_other, at_same, counts_arrive, idle, lies_still, sits_agrees, sits_at, ways_set}
use Rattle.fab_rx.proofs.Numbering.{below_found, numbers_changed, numbers_leave_by, numbers_part}
use Rattle.fab_rx.proofs.Sharing.{IsLike, all_set, any_at, home_like, like_itself, rests_at}
use Rattle.fab_rx.proofs.Moving.{Both, both_agree, taken_home}
use Rattle.fab_rx.proofs.Closing.{all_push, fewer_closing}

-- what stands under an id is for one message where nothing is stored of it as a multi-receive
pub alone_at : (seats : Cells Waiting) (id : ℕ) (w : Waiting) → at seats id ≡ Some w → multi_at seats id ≡ None → w.multi ≡ None
alone_at seats id w there none = sym (ap multi_in there) ∙ none

pub is_multi : (r : Receive) → is_some (multi_of r) ≡ true → is_some r.least ≡ true
is_multi r e = by r.least refl
  where
    by : (o : Option ℕ) → r.least ≡ o → is_some r.least ≡ true
    by None is = absurd (let no : false ≡ true = rw is at e in cc)
    by (Some least) is = rw is refl

pub usable_of : (r : Receive) → IsFit r → IsUsable (waiting_of r)
usable_of r fit = by r.least refl
  where
    by : (o : Option ℕ) → r.least ≡ o → IsUsable (waiting_of r)
    by None e = rw e tt
    by (Some least) e = rw e (fit.within, fit.small (rw e refl))

-- ---- what it gives away

pub least_some : (r : Receive) (q : Multi) → multi_of r ≡ Some q → (least : ℕ) × (r.least ≡ Some least) × (q.used ≡ r.used)
least_some r q is = by r.least refl
  where
    by : (o : Option ℕ) → r.least ≡ o → (least : ℕ) × (r.least ≡ Some least) × (q.used ≡ r.used)
    by None e = absurd (let no : None ≡ Some q = rw e at is in cc)
    by (Some least) e =
        let both : Some (record { want = r.want; least = least; used = r.used }) ≡ Some q = rw e at is in
        let same : record { want = r.want; least = least; used = r.used } ≡ q = cc in
        (least, e, sym (ap (λ (x : Multi). x.used) same))

pub waiting_used : (total : ℕ) (r : Receive) → used_up_by total (waiting_of r) ≡ waiting_of (used_up total r)
waiting_used total r = by r.least refl
  where
    by : (o : Option ℕ) → r.least ≡ o → used_up_by total (waiting_of r) ≡ waiting_of (used_up total r)
    by None e = rw e refl
    by (Some least) e = rw e refl

pub fit_used : (total : ℕ) (r : Receive) → is_some r.least ≡ true → IsFit r → IsFit (used_up total r)
fit_used total r multi fit = record {
  single = λ none. absurd (let no : false ≡ true = rw none at multi in cc);
  within = let within = fit.within in omega arith;
  small = fit.small;
}

-- it stays posted where it is not spent
pub stays_by : (total : ℕ) (r : Receive) (least : ℕ) → r.least ≡ Some least → stays total r ≡ not (is_spent (used_up_by total (waiting_of r)))
stays_by total r least e = rw (e, stays) refl

pub left_none : (total : ℕ) (w : Waiting) → left_by total (Some w) ≡ None → is_spent (used_up_by total w) ≡ false
left_none total w e = by (is_spent (used_up_by total w)) refl
  where
    by : (b : Bool) → is_spent (used_up_by total w) ≡ b → is_spent (used_up_by total w) ≡ false
    by false is = is
    by true is = absurd (let no : Some w.seat.ctx ≡ None = rw (is, left_by) at e in cc)

pub left_some : (total : ℕ) (w : Waiting) (ctx : ℕ) → left_by total (Some w) ≡ Some ctx → (is_spent (used_up_by total w) ≡ true) × (ctx ≡ w.seat.ctx)
left_some total w ctx e = by (is_spent (used_up_by total w)) refl
  where
    by : (b : Bool) → is_spent (used_up_by total w) ≡ b → (is_spent (used_up_by total w) ≡ true) × (ctx ≡ w.seat.ctx)
    by true is = (is, let both : Some w.seat.ctx ≡ Some ctx = rw (is, left_by) at e in let same : w.seat.ctx ≡ ctx = cc in sym same)
    by false is = absurd (let no : None ≡ Some ctx = rw (is, left_by) at e in cc)

pub seated_on : (test : Receive → Bool) (total : ℕ) (r : Receive) (posted : List Receive) → stays total r ≡ true → seated_after test total r posted ≡ change_first test (used_up total) posted
seated_on test total r posted e = rw (e, seated_after) refl

pub seated_off : (test : Receive → Bool) (total : ℕ) (r : Receive) (posted : List Receive) → stays total r ≡ false → seated_after test total r posted ≡ remove_first test posted
seated_off test total r posted e = rw (e, seated_after) refl

shut_some : (total : ℕ) (r : Receive) (least : ℕ) → r.least ≡ Some least → shut total r ≡ elim (stays total r) [ true ↦ [] | false ↦ used_up total r ∷ [] ]
shut_some total r least some = subst (λ (x : Receive). shut total x ≡ elim (stays total x) [ true ↦ [] | false ↦ used_up total x ∷ [] ]) (λ i. record r { least = sym some i }) refl

pub shut_on : (total : ℕ) (r : Receive) (least : ℕ) → r.least ≡ Some least → stays total r ≡ true → shut total r ≡ []
shut_on total r least some e = shut_some total r least some ∙ ap (λ b. elim b [ true ↦ [] | false ↦ used_up total r ∷ [] ]) e

pub shut_off : (total : ℕ) (r : Receive) (least : ℕ) → r.least ≡ Some least → stays total r ≡ false → shut total r ≡ used_up total r ∷ []
shut_off total r least some e = shut_some total r least some ∙ ap (λ b. elim b [ true ↦ [] | false ↦ used_up total r ∷ [] ]) e

module _ (ps : List (ℕ × Want)) (us : List (ℕ × Sign)) (room : ℕ) (seats : Cells Waiting) (parcels : Cells Parcel) (coming : List (Option Begun)) (v : Arriving) (kept : IsKept ps us room seats parcels coming v) where
  module _ (source : ℕ) (head : ItemHead) (within : source < length v.begun) (nothing : begun_of v source ≡ None) (message : is_message head.kind ≡ true) (sign : Sign) (agree : (want : Want) → fits want sign ≡ matches want source head) where
    pub usable_taken : (id : ℕ) → first_id (λ want. fits want sign) ps ≡ Some id → IsSomeAnd (at seats id) IsUsable
    usable_taken id e =
        let t = seat_taken ps us room seats parcels coming v kept source head within nothing message sign agree id e in
        let there : at seats id ≡ Some (waiting_of t.member) = ap (at seats) (sym t.is) ∙ t.tie.seat in
        rw there (usable_of t.member t.tie.fit)

  pub room_to_close : (cs : List (ℕ × ℕ)) → AreMulti ps cs seats coming v.rx.posted v.rx.closing v.rx.coming v.next v.multis v.most → (source : ℕ) → source < length v.begun → begun_of v source ≡ None → length cs < length coming
  room_to_close cs m source within nothing =
      fewer_closing ps us room seats parcels coming v kept cs m source (row ps us room seats parcels coming v kept source within) (none_stored parcels source (get_or coming source None) (coming_from v.rx source) (begun_of v source) nothing (kept.ways source)).0

  module _ (cs : List (ℕ × ℕ)) (m : AreMulti ps cs seats coming v.rx.posted v.rx.closing v.rx.coming v.next v.multis v.most) (source : ℕ) (head : ItemHead) (within : source < length v.begun) (nothing : begun_of v source ≡ None) (message : is_message head.kind ≡ true)
      (sign : Sign) (agree : (want : Want) → fits want sign ≡ matches want source head) (id : ℕ) (e : first_id (λ want. fits want sign) ps ≡ Some id) (q : Multi) (shared : multi_at seats id ≡ Some q) (others : Cells Waiting)
      (is : others.cells ≡ set seats.cells id (option_map (used_up_by head.total) (at seats id))) (free : others.spare ≡ seats.spare) (bytes : Vec ℕ Global) (none : bytes.items ≡ []) (fits_in : head.total ≤ vec_capacity bytes) where
    abbrev t : IsTaken (Both ps us room seats parcels coming v kept cs m source head within nothing message sign agree) (λ want. fits want sign) (is_wanted source head) (both_agree ps us room seats parcels coming v kept cs m source head within nothing message sign agree) id ps v.rx.posted
    t = taken_home ps us room seats parcels coming v kept cs m source head within nothing message sign agree id e

    abbrev r : Receive
    r = t.member

    abbrev test : Receive → Bool
    test = is_wanted source head

    there : at seats id ≡ Some (waiting_of r)
    there = ap (at seats) (sym t.is) ∙ t.tie.0.seat

    some : (least : ℕ) × (r.least ≡ Some least) × (q.used ≡ r.used)
    some = least_some r q (sym (ap multi_in there) ∙ shared)

    multi : is_some r.least ≡ true
    multi = rw some.1 refl

    now : at others id ≡ Some (waiting_of (used_up head.total r))
    now = at_same seats others id (option_map (used_up_by head.total) (at seats id)) is (id_within seats.cells id (waiting_of r) there) ∙ ap (option_map (used_up_by head.total)) there ∙ ap (λ (w : Waiting). Some w) (waiting_used head.total r)

    same_else : (k : ℕ) → k ≢ id → at others k ≡ at seats k
    same_else k other = at_other seats others id (option_map (used_up_by head.total) (at seats id)) is k other

    abbrev part : Begun
    part = record { head = head; got = 0; way = Part id q.used bytes }

    -- ---- what stands under each id is as it was, but for what is given away

    like_by : (k : ℕ) (w : Waiting) → at seats k ≡ Some w → (k ≡ id) ⊎ (k ≢ id) → (x : Waiting) × (at others k ≡ Some x) × IsLike w x
    like_by k w is_w (inr other) = (w, same_else k other ∙ is_w, like_itself w)
    like_by k w is_w (inl same) =
        let both : Some w ≡ Some (waiting_of r) = sym is_w ∙ ap (at seats) same ∙ there in
        let equal : w ≡ waiting_of r = cc in
        (waiting_of (used_up head.total r), ap (at others) same ∙ now, record { shared = λ old. rw some.1 refl; ctx = sym (ap (λ (x : Waiting). x.seat.ctx) equal); long = sym (ap (λ (x : Waiting). length x.seat.buf) equal) })

    like : (k : ℕ) (w : Waiting) → at seats k ≡ Some w → (x : Waiting) × (at others k ≡ Some x) × IsLike w x
    like k w is_w = like_by k w is_w (same_or k id)

    long : length v.rx.coming ≡ length coming
    long = kept.comings ∙ sym kept.peers

    goes : IsPart m.homes m.calls others id r
    goes = record {
      multi = multi;
      home = t.tie.1.home ∙ rw some.1 (ap (λ (k : ℕ). Some k) t.is);
      call = ap m.calls (sym t.is) ∙ t.tie.1.call multi;
      there = waiting_of (used_up head.total r);
      seat = now;
      shared = rw some.1 refl;
      ctx = refl;
      long = refl;
    }

    ways : (s : ℕ) → GoesHome m.homes m.calls others (get_or (set coming source (Some part)) s None) (get_or (set v.rx.coming source (Some (IntoReceive r r.used))) s None)
    ways s = by_source (same_or s source)
      where
        by_source : (s ≡ source) ⊎ (s ≢ source) → GoesHome m.homes m.calls others (get_or (set coming source (Some part)) s None) (get_or (set v.rx.coming source (Some (IntoReceive r r.used))) s None)
        by_source (inl same) =
            let below = row ps us room seats parcels coming v kept source within in
            rw (same, get_or-set_same coming source (Some part) None below, get_or-set_same v.rx.coming source (Some (IntoReceive r r.used)) None (omega (arith, long))) (r, ap (λ (k : ℕ). Some (IntoReceive r k)) (sym some.2), goes)
        by_source (inr other) = rw (get_or-set_other coming source s (Some part) None other, get_or-set_other v.rx.coming source s (Some (IntoReceive r r.used)) None other) (home_like m.homes m.calls seats others (get_or coming s None) (get_or v.rx.coming s None) (λ k w fed there. like k w there) (m.ways s))

    rests : (c : ℕ × ℕ) (y : Receive) → c.0 ≢ id → Rests m.homes m.calls seats c y → Rests m.homes m.calls others c y
    rests c y other old = rests_at m.homes m.calls seats others c y (same_else c.0 other) old

    unclosed : has_id id cs ≡ false
    unclosed = not_claimed ps cs id (has_id-first (λ want. fits want sign) id ps e) m.apart

    fed_still : (k : ℕ) → is_fed_by k (get_or coming source None) ≡ true → is_fed_by k (Some part) ≡ true
    fed_still k fed = absurd (let no : false ≡ true = sym (ap (is_fed_by k) (idle ps us room seats parcels coming v kept source head within nothing).0) ∙ fed in cc)

    -- ---- what contracts see

    abbrev headed_by : List Receive → List Receive → Arriving
    headed_by posted closing = record {
      rx = record { posted = posted; closing = closing; coming = set v.rx.coming source (Some (IntoReceive r r.used)); unexpected = v.rx.unexpected; claimed = v.rx.claimed; heads = raise v.rx.heads source; tails = v.rx.tails };
      begun = set v.begun source (Some (bare head));
      most = v.most;
      next = v.next;
      multis = v.multis;
    }

    kept_headed : (xs : List (ℕ × Want)) (posted closing : List Receive) → AllZip (Sits others) xs posted → length xs ≤ v.most → IsKept xs us room others parcels (set coming source (Some part)) (headed_by posted closing)
    kept_headed xs posted closing tied few = record {
      receives = tied;
      messages = retied (Lies parcels coming) (Lies parcels (set coming source (Some part))) us v.rx.unexpected (lies_still ps us room seats parcels coming v kept source head within nothing (Some part)) kept.messages;
      ways = ways_set ps us room seats parcels coming v kept source within parcels (Some part) (Some (IntoReceive r r.used)) (Some (bare head)) (λ t id h differs there. there)
          (IntoReceive r r.used, bare head, refl, refl, record { head = refl; got = refl; within = omega arith; way = (r, ap (IntoReceive r) (sym some.2), none, fits_in) });
      few = few;
      most = kept.most;
      peers = length-set coming source (Some part) ∙ kept.peers ∙ sym (length-set v.begun source (Some (bare head)));
      comings = length-set v.rx.coming source (Some (IntoReceive r r.used)) ∙ kept.comings ∙ sym (length-set v.begun source (Some (bare head)));
      heads = length-set v.rx.heads source (get_or v.rx.heads source 0 + 1) ∙ kept.heads ∙ sym (length-set v.begun source (Some (bare head)));
      tails = kept.tails ∙ sym (length-set v.begun source (Some (bare head)));
      under_way = counts_arrive ps us room seats parcels coming v kept source head within nothing;
    }

    -- ---- it stays posted

    module _ (stay : left_by head.total (at seats id) ≡ None) where
      on : stays head.total r ≡ true
      on = stays_by head.total r some.0 some.1 ∙ ap not (left_none head.total (waiting_of r) (ap (left_by head.total) (sym there) ∙ stay))

      pub arriving_on : arriving source head v ≡ headed_by (change_first test (used_up head.total) v.rx.posted) v.rx.closing
      unfolding heading_message
      arriving_on = rw (message, heading_message, t.found, seated_on test head.total r v.rx.posted on, shut_on head.total r some.0 some.1 on, append-nil v.rx.closing) refl

      seats_on : AllZip (Sits others) ps (change_first test (used_up head.total) v.rx.posted)
      seats_on =
          changed_first (Sits seats) (Sits others) test (used_up head.total) id
          sits_used
          (λ p y other old. sits_at seats others p y (same_else p.0 other) old)
          (λ want. fits want sign) (sits_agrees seats source head sign agree) ps v.rx.posted m.distinct e kept.receives
        where
          sits_used : (p : ℕ × Want) (y : Receive) → p.0 ≡ id → Sits seats p y → Sits others p (used_up head.total y)
          sits_used p y same old =
              let both : Some (waiting_of y) ≡ Some (waiting_of r) = sym old.seat ∙ ap (at seats) same ∙ there in
              let equal : waiting_of y ≡ waiting_of r = cc in
              let least : is_some y.least ≡ true = is_multi y (ap (λ (w : Waiting). is_some w.multi) equal ∙ rw some.1 refl) in
              record {
                want = old.want;
                seat = ap (at others) same ∙ now ∙ ap (λ (w : Waiting). Some w) (sym (waiting_used head.total r) ∙ ap (used_up_by head.total) (sym equal) ∙ waiting_used head.total y);
                fit = fit_used head.total y least old.fit;
              }

      pub kept_on : IsKept ps us room others parcels (set coming source (Some part)) (arriving source head v)
      kept_on = rw arriving_on (kept_headed ps (change_first test (used_up head.total) v.rx.posted) v.rx.closing seats_on kept.few)

      pub multi_on : AreMulti ps cs others (set coming source (Some part)) (arriving source head v).rx.posted (arriving source head v).rx.closing (arriving source head v).rx.coming v.next v.multis v.most
      multi_on = subst (λ (x : Arriving). AreMulti ps cs others (set coming source (Some part)) x.rx.posted x.rx.closing x.rx.coming v.next v.multis v.most) (sym arriving_on) (record {
        homes = m.homes;
        calls = m.calls;
        posted_home = kept_changed (IsHome m.homes m.calls) test (used_up head.total) ps v.rx.posted (λ p y h. record { home = h.home; call = h.call }) m.posted_home;
        closing_rest = retied_but (Rests m.homes m.calls seats) (Rests m.homes m.calls others) id cs v.rx.closing rests unclosed m.closing_rest;
        distinct = m.distinct;
        apart = m.apart;
        ways = ways;
        live = all_set coming source (Some part) cs fed_still m.live;
        fresh = m.fresh;
        plain = m.plain;
        ids = m.ids;
        numbers = m.numbers;
        back = m.back;
        spare = let spare = m.spare in let same = free in let count = length-set coming source (Some part) in omega arith;
      })

      pub numbers_on : IsNumbered v.rx.posted v.rx.coming v.next → IsNumbered (arriving source head v).rx.posted (arriving source head v).rx.coming v.next
      numbers_on numbers = subst (λ (x : Arriving). IsNumbered x.rx.posted x.rx.coming v.next) (sym arriving_on) (numbers_part test head.total r v.next v.rx.posted (change_first test (used_up head.total) v.rx.posted) v.rx.coming source multi
          (numbers_changed test (used_up head.total) (λ y. refl) v.next v.rx.posted v.rx.coming numbers) (below_found test v.next v.rx.posted r numbers.below t.found))

    -- ---- it closes

    module _ (ctx : ℕ) (leave : left_by head.total (at seats id) ≡ Some ctx) (rest : List (ℕ × Want)) (are : rest ≡ without id ps) (first : rest ≡ remove_first (λ p. fits p.1 sign) ps) (gone : has_id id rest ≡ false) where
      spent : (is_spent (used_up_by head.total (waiting_of r)) ≡ true) × (ctx ≡ r.ctx)
      spent = left_some head.total (waiting_of r) ctx (ap (left_by head.total) (sym there) ∙ leave)

      off : stays head.total r ≡ false
      off = stays_by head.total r some.0 some.1 ∙ ap not spent.0

      pub arriving_off : arriving source head v ≡ headed_by (remove_first test v.rx.posted) (v.rx.closing ++ used_up head.total r ∷ [])
      unfolding heading_message
      arriving_off = rw (message, heading_message, t.found, seated_off test head.total r v.rx.posted off, shut_off head.total r some.0 some.1 off) refl

      tied : AllZip (Both ps us room seats parcels coming v kept cs m source head within nothing message sign agree) rest (remove_first test v.rx.posted)
      tied = subst (λ (xs : List (ℕ × Want)). AllZip (Both ps us room seats parcels coming v kept cs m source head within nothing message sign agree) xs (remove_first test v.rx.posted)) (sym first) t.rest

      shorter : length rest + 1 ≡ length ps
      shorter = ap (λ (xs : List (ℕ × Want)). length xs + 1) first ∙ t.shorter

      pub kept_off : IsKept rest us room others parcels (set coming source (Some part)) (arriving source head v)
      kept_off = rw arriving_off (kept_headed rest (remove_first test v.rx.posted) (v.rx.closing ++ used_up head.total r ∷ [])
          (retied_but (Both ps us room seats parcels coming v kept cs m source head within nothing message sign agree) (Sits others) id rest (remove_first test v.rx.posted) (λ p y other b. sits_at seats others p y (same_else p.0 other) b.0) gone tied)
          (let few = kept.few in let shorter = shorter in omega arith))

      pub multi_off : AreMulti rest (cs ++ (id, ctx) ∷ []) others (set coming source (Some part)) (arriving source head v).rx.posted (arriving source head v).rx.closing (arriving source head v).rx.coming v.next v.multis v.most
      multi_off = subst (λ (x : Arriving). AreMulti rest (cs ++ (id, ctx) ∷ []) others (set coming source (Some part)) x.rx.posted x.rx.closing x.rx.coming v.next v.multis v.most) (sym arriving_off) (record {
        homes = m.homes;
        calls = m.calls;
        posted_home = retied (Both ps us room seats parcels coming v kept cs m source head within nothing message sign agree) (IsHome m.homes m.calls) rest (remove_first test v.rx.posted) (λ p y b. b.1) tied;
        closing_rest =
            tied_push (Rests m.homes m.calls others) cs v.rx.closing (id, ctx) (used_up head.total r)
            (retied_but (Rests m.homes m.calls seats) (Rests m.homes m.calls others) id cs v.rx.closing rests unclosed m.closing_rest)
            (record { seat = now; ctx = spent.1; multi = multi; home = goes.home; call = goes.call; fit = fit_used head.total r multi t.tie.0.fit });
        distinct = rw are (apart_rest (λ p. p.0 == id) no_pairs ps m.distinct);
        apart = apart_claim ps rest cs (id, ctx) (has_id-first (λ want. fits want sign) id ps e) gone m.apart (rw are (apart_fewer (λ p. p.0 == id) ps cs m.apart));
        ways = ways;
        live = all_push (IsFed (set coming source (Some part))) cs (id, ctx) (all_set coming source (Some part) cs fed_still m.live)
            (any_at (is_fed_by id) (set coming source (Some part)) source refl (ap (is_fed_by id) (get_or-set_same coming source (Some part) None (row ps us room seats parcels coming v kept source within)) ∙ eq-eqb id id refl));
        fresh = m.fresh;
        plain = m.plain;
        ids = m.ids;
        numbers = m.numbers;
        back = m.back;
        spare = let spare = m.spare in let same = free in let count = length-set coming source (Some part) in let longer = length-append cs ((id, ctx) ∷ []) in let shorter = shorter in omega arith;
      })

      pub numbers_off : IsNumbered v.rx.posted v.rx.coming v.next → IsNumbered (arriving source head v).rx.posted (arriving source head v).rx.coming v.next
      numbers_off numbers = subst (λ (x : Arriving). IsNumbered x.rx.posted x.rx.coming v.next) (sym arriving_off) (numbers_part test head.total r v.next v.rx.posted (remove_first test v.rx.posted) v.rx.coming source multi
          (numbers_leave_by test v.next v.rx.posted v.rx.coming numbers) (below_found test v.next v.rx.posted r numbers.below t.found))

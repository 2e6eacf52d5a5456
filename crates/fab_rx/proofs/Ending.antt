-- A message in a multi-receive is whole: its bytes come into the buffer, which comes back where it was the last one.
use Rattle.std.proofs.Common.{Global, ◌≡◌, ◌≢◌, ◌⊎◌, inl, inr, ℕ, ◌+◌, ◌<◌, ◌==◌, Bool, true, false, cond, List, [], ◌∷◌, length, Option, Some, None, get_or, set, refl, sym, ap, subst, ◌∙◌, arith, length-set}
use Rattle.std.specs.Prelude.{Vec, IfSome, IsSome, find, is_some}
use Rattle.std.specs.Option.{option_map}
use Rattle.std.specs.List.{AllZip, AllByRecursion, list_any}
use Rattle.std.proofs.lemmas.Bool.{eqb-true, eq-eqb, ne_eqb}
use Rattle.std.proofs.lemmas.List.{get_or-set_other, get_or-set_same}
use Rattle.fab_base.specs.declared.items.Item.{Item}
use Rattle.fab_base.specs.declared.items.Want.{Want}
use Rattle.fab_base.specs.declared.items.Sign.{Sign}
use Rattle.fab_base.specs.declared.operations.Receive.{Receive}
use Rattle.fab_base.specs.declared.operations.Coming.{Coming}
use Rattle.fab_base.specs.declared.operations.Coming.TheVariants.{Into as IntoReceive}
use Rattle.fab_model.specs.Matching.{change_first, remove_first}
use Rattle.fab_model.specs.State.{Receiving, coming_from, is_into, raise, under_way}
use Rattle.fab_model.specs.Complete.{filled, filling, is_made_by}
use Rattle.fab_model.specs.Arrivals.{made_whole, way_of}
use Rattle.fab_model.proofs.Firsts.{list_any-not_found, remove_first-none}
use Rattle.fab_match.specs.Matcher.{has_id, without}
use Rattle.fab_rx.specs.declared.stored.Waiting.{Waiting}
use Rattle.fab_rx.specs.declared.stored.Parcel.{Parcel}
use Rattle.fab_rx.specs.declared.stored.Way.{Way}
use Rattle.fab_rx.specs.declared.stored.Way.TheVariants.{Into, Part, Keep, Throw, Gather}
use Rattle.fab_rx.specs.declared.stored.Begun.{Begun}
use Rattle.fab_rx.specs.Table.{Cells, at}
use Rattle.fab_rx.specs.Arriving.{Arriving, begun_of, bytes_come, finishing, id_in, shared, without_closed}
use Rattle.fab_rx.specs.Stored.{AreApart, GoesBy, IsFit, IsKept, IsKeptWay, IsWay, Lies, Sits, waiting_of}
use Rattle.fab_rx.specs.Homes.{AreMulti, GoesHome, GoesHomeBy, IsFed, IsHome, IsPart, Rests, is_fed_by, is_part_of, no_pairs, part_id, part_in}
use Rattle.fab_rx.specs.Sharing.{is_over, placed_in}
use Rattle.fab_rx.proofs.Pasting.{length_paste_at}
use Rattle.fab_rx.proofs.Tying.{retied, retied_but, same_or, tied_both}
use Rattle.fab_rx.proofs.Apart.{apart_of, apart_rest}
use Rattle.fab_rx.proofs.Changing.{changed_at, found_at, kept_changed, missed_at, removed_at}
use Rattle.fab_rx.proofs.Closing.{all_fewer, apart_alone}
use Rattle.fab_rx.proofs.Keeping.{IsStored, at_other, at_same, row, sits_at, ways_set}
use Rattle.fab_rx.proofs.Growing.{counts_finish, lies_after, stored}
use Rattle.fab_rx.proofs.Taking.{is_multi}
use Rattle.fab_base.specs.declared.items.Kind.{Kind}
use Rattle.fab_base.specs.declared.items.Kind.TheVariants.{Msg, TagMsg, WriteReq, ReadReq, AtomicReq, Reply}
use Rattle.fab_base.proofs.Lists.{some_within as id_within}
use Rattle.fab_rx.specs.declared.stored.Seat.{Seat}
use Rattle.fab_rx.specs.declared.stored.Multi.{Multi}
use Rattle.fab_rx.specs.declared.results.Completed.{Completed}
use Rattle.fab_rx.specs.declared.results.Finished.{Finished}
use Rattle.fab_rx.specs.declared.results.Finished.TheVariants.{Kept, Received, Thrown}
use Rattle.fab_rx.specs.Arriving.{IsSingle}
use Rattle.fab_rx.specs.Stored.{seat_with}
use Rattle.fab_rx.specs.Results.{closed_by, closed_if, completed, ended, handed, last_by, last_of, released}
use Rattle.fab_rx.specs.Sharing.{multi_at, released_of}
use Rattle.fab_rx.proofs.Sharing.{IsLike, any_alike, any_at, any_set, home_like, like_itself, no_into, rests_at}

-- ---- one receive

-- two tests are alike where each follows from the other
pub eqb_alike : (a b c d : ℕ) → (c ≡ d → a ≡ b) → (a ≡ b → c ≡ d) → (a == b) ≡ (c == d)
eqb_alike a b c d to from = by (c == d) refl
  where
    by : (x : Bool) → (c == d) ≡ x → (a == b) ≡ (c == d)
    by true e = eq-eqb a b (to (eqb-true c d e)) ∙ sym e
    by false e = ne_eqb a b (λ same. (let no : true ≡ false = sym (eq-eqb c d (from same)) ∙ e in absurd (cc))) ∙ sym e

pub some_least : (r : Receive) → is_some r.least ≡ true → (least : ℕ) × (r.least ≡ Some least)
some_least r multi = by r.least refl
  where
    by : (o : Option ℕ) → r.least ≡ o → (least : ℕ) × (r.least ≡ Some least)
    by None e = absurd (let no : false ≡ true = rw e at multi in cc)
    by (Some least) e = (least, e)

pub fit_filled : (place : ℕ) (bytes : List ℕ) (r : Receive) → IsFit r → IsFit (filled place bytes r)
fit_filled place bytes r fit =
    let same = length_paste_at r.buf bytes place in
    record { single = fit.single; within = let within = fit.within in omega arith; small = λ some. let small = fit.small some in omega arith }

-- what bytes in a multi-receive make of the receive half
pub shared_some : (r : Receive) (least : ℕ) → r.least ≡ Some least → (place : ℕ) (bytes : List ℕ) (rx : Receiving)
    → shared r.least r place bytes rx ≡ without_closed r.call (record rx { posted = change_first (is_made_by r.call) (filled place bytes) rx.posted; closing = change_first (is_made_by r.call) (filled place bytes) rx.closing })
shared_some r least some place bytes rx = subst (λ (x : Receive). shared x.least x place bytes rx ≡ without_closed x.call (record rx { posted = change_first (is_made_by x.call) (filled place bytes) rx.posted; closing = change_first (is_made_by x.call) (filled place bytes) rx.closing })) (λ i. record r { least = sym some i }) refl

pub closed_still : (call : ℕ) (rx : Receiving) → under_way rx call ≡ true → without_closed call rx ≡ rx
closed_still call rx e = rw (e, without_closed) refl

pub closed_now : (call : ℕ) (rx : Receiving) → under_way rx call ≡ false → without_closed call rx ≡ record rx { closing = remove_first (is_made_by call) rx.closing }
closed_now call rx e = rw (e, without_closed) refl

pub last_some : (r : Receive) (least : ℕ) → r.least ≡ Some least → (place : ℕ) (bytes : List ℕ) (rx : Receiving)
    → closed_if r.least r.call (filling r place bytes rx) ≡ closed_by r.call (record rx { posted = change_first (is_made_by r.call) (filled place bytes) rx.posted; closing = change_first (is_made_by r.call) (filled place bytes) rx.closing })
last_some r least some place bytes rx = subst (λ (x : Receive). closed_if x.least x.call (filling x place bytes rx) ≡ closed_by x.call (record rx { posted = change_first (is_made_by x.call) (filled place bytes) rx.posted; closing = change_first (is_made_by x.call) (filled place bytes) rx.closing })) (λ i. record r { least = sym some i }) refl

pub none_last : (call : ℕ) (rx : Receiving) → under_way rx call ≡ true → closed_by call rx ≡ None
none_last call rx e = rw (e, closed_by) refl

pub found_last : (call : ℕ) (rx : Receiving) → under_way rx call ≡ false → closed_by call rx ≡ find (is_made_by call) rx.closing
found_last call rx e = rw (e, closed_by) refl

-- where it is over, and where it is not
pub is_over_yes : (coming : List (Option Begun)) (cs : List (ℕ × ℕ)) (id : ℕ) → is_over coming cs id ≡ true → (list_any (is_fed_by id) coming ≡ false) × (has_id id cs ≡ true)
is_over_yes coming cs id holds = by (list_any (is_fed_by id) coming) refl (has_id id cs) refl
  where
    by : (a : Bool) → list_any (is_fed_by id) coming ≡ a → (b : Bool) → has_id id cs ≡ b → (list_any (is_fed_by id) coming ≡ false) × (has_id id cs ≡ true)
    by false e true f = (e, f)
    by false e false f = absurd (let no : false ≡ true = rw (e, f) at holds in cc)
    by true e b f = absurd (let no : false ≡ true = rw e at holds in cc)

pub is_over_no : (coming : List (Option Begun)) (cs : List (ℕ × ℕ)) (id : ℕ) → is_over coming cs id ≡ false → (list_any (is_fed_by id) coming ≡ true) ⊎ (has_id id cs ≡ false)
is_over_no coming cs id fails = by (list_any (is_fed_by id) coming) refl (has_id id cs) refl
  where
    by : (a : Bool) → list_any (is_fed_by id) coming ≡ a → (b : Bool) → has_id id cs ≡ b → (list_any (is_fed_by id) coming ≡ true) ⊎ (has_id id cs ≡ false)
    by true e b f = inl e
    by false e false f = inr f
    by false e true f = absurd (let yes : true ≡ false = rw (e, f) at fails in cc)

-- a pair that is there leaves
one_out : {X : Type 0} → (id : ℕ) (xs : List (ℕ × X)) → has_id id xs ≡ true → length (remove_first (λ p. p.0 == id) xs) + 1 ≡ length xs
one_out id [] there = absurd (cc)
one_out id (x ∷ xs) there = by (x.0 == id) refl (λ more. one_out id xs more)
  where
    by : (b : Bool) → (x.0 == id) ≡ b → (has_id id xs ≡ true → length (remove_first (λ p. p.0 == id) xs) + 1 ≡ length xs) → length (remove_first (λ p. p.0 == id) (x ∷ xs)) + 1 ≡ length (x ∷ xs)
    by true e more = rw (e, remove_first) (omega arith)
    by false e more = let rest = more (rw e at there) in rw (e, remove_first) (omega arith)

lacks_out : {X : Type 0} → (id : ℕ) (xs : List (ℕ × X)) → AreApart no_pairs xs → has_id id (remove_first (λ p. p.0 == id) xs) ≡ false
lacks_out id [] apart = refl
lacks_out id (x ∷ xs) apart = by (x.0 == id) refl (lacks_out id xs apart.2)
  where
    by : (b : Bool) → (x.0 == id) ≡ b → has_id id (remove_first (λ p. p.0 == id) xs) ≡ false → has_id id (remove_first (λ p. p.0 == id) (x ∷ xs)) ≡ false
    by true e more = rw (e, remove_first) (subst (λ (k : ℕ). has_id k xs ≡ false) (eqb-true x.0 id e) apart.1)
    by false e more = rw (e, remove_first) (rw e more)

pub released_as : (v : Arriving) (id : ℕ) (y : Receive) → id_in v.multis y.call ≡ Some id → is_some y.least ≡ true → released_of id (waiting_of y) ≡ released v y
released_as v id y known multi = by y.least refl
  where
    by : (o : Option ℕ) → y.least ≡ o → released_of id (waiting_of y) ≡ released v y
    by None e = absurd (let no : false ≡ true = rw e at multi in cc)
    by (Some least) e = rw (e, known) refl

-- ---- an item goes to the multi-receive exactly where it goes to its id

fed_by_way : (homes : ℕ → Option ℕ) (calls : ℕ → ℕ) (seats : Cells Waiting) (id : ℕ) (r : Receive) → IsPart homes calls seats id r → (way : Way) (c : Option Coming) → GoesHomeBy homes calls seats way c → is_into r.call c ≡ is_part_of id way
fed_by_way homes calls seats id r part (Into seat) c g = rw g.1 (ne_eqb g.0.call r.call (λ same. (let no : Some id ≡ None = sym part.home ∙ ap homes (sym same) ∙ g.3 in absurd (cc))))
fed_by_way homes calls seats id r part (Part k place bytes) c g =
    rw g.1 (eqb_alike g.0.call r.call k id (λ same. sym g.2.call ∙ ap calls same ∙ part.call) (λ same. (let both : Some k ≡ Some id = sym g.2.home ∙ ap homes same ∙ part.home in cc)))
fed_by_way homes calls seats id r part (Keep k bytes) c g = rw g refl
fed_by_way homes calls seats id r part Throw c g = rw g refl
fed_by_way homes calls seats id r part (Gather bytes) c g = rw g.1 (no_into r.call g.0)

pub fed_alike : (homes : ℕ → Option ℕ) (calls : ℕ → ℕ) (seats : Cells Waiting) (id : ℕ) (r : Receive) → IsPart homes calls seats id r → (b : Option Begun) (c : Option Coming) → GoesHome homes calls seats b c → is_into r.call c ≡ is_fed_by id b
fed_alike homes calls seats id r part None c g = rw g refl
fed_alike homes calls seats id r part (Some b) c g = fed_by_way homes calls seats id r part b.way c g

module _ (ps : List (ℕ × Want)) (us : List (ℕ × Sign)) (room : ℕ) (seats : Cells Waiting) (parcels : Cells Parcel) (coming : List (Option Begun)) (v : Arriving) (kept : IsKept ps us room seats parcels coming v)
    (cs : List (ℕ × ℕ)) (m : AreMulti ps cs seats coming v.rx.posted v.rx.closing v.rx.coming v.next v.multis v.most) (source : ℕ) (within : source < length v.begun) (item : Item) (begun : begun_of v source ≡ Some item)
    (b : Begun) (is_stored : Some b ≡ get_or coming source None) (id place : ℕ) (bytes : Vec ℕ Global) (way : b.way ≡ Part id place bytes) where
  abbrev home : GoesHomeBy m.homes m.calls seats (Part id place bytes) (coming_from v.rx source)
  home = subst (λ (w : Way). GoesHomeBy m.homes m.calls seats w (coming_from v.rx source)) way (subst (λ (o : Option Begun). GoesHome m.homes m.calls seats o (coming_from v.rx source)) (sym is_stored) (m.ways source))

  abbrev r : Receive
  r = home.0

  abbrev part : IsPart m.homes m.calls seats id r
  part = home.2

  least : (least : ℕ) × (r.least ≡ Some least)
  least = some_least r part.multi

  pub came : bytes.items ≡ item.bytes
  came = by (stored ps us room seats parcels coming v kept source within item begun)
    where
      by : IsStored parcels source (get_or coming source None) (coming_from v.rx source) item → bytes.items ≡ item.bytes
      by s =
          let both : Some b ≡ Some s.begun = is_stored ∙ s.stored in
          let same : b ≡ s.begun = cc in
          let goes : GoesBy parcels source (Part id place bytes) s.way item = subst (λ (w : Way). GoesBy parcels source w s.way item) (ap (λ (x : Begun). x.way) (sym same) ∙ way) s.coming.way in
          goes.2

  abbrev after : List (Option Begun)
  after = set coming source None

  abbrev to : List (Option Coming)
  to = set v.rx.coming source None

  -- where the receive of the call is
  closing_agrees : (others : Cells Waiting) (c : ℕ × ℕ) (y : Receive) → Rests m.homes m.calls others c y → is_made_by r.call y ≡ (c.0 == id)
  closing_agrees others c y t = eqb_alike y.call r.call c.0 id (λ same. sym t.call ∙ ap m.calls same ∙ part.call) (λ same. (let both : Some c.0 ≡ Some id = sym t.home ∙ ap m.homes same ∙ part.home in cc))

  Both : ℕ × Want → Receive → Type 0
  Both p y = Sits seats p y × IsHome m.homes m.calls p y

  posted_agrees : (p : ℕ × Want) (y : Receive) → Both p y → is_made_by r.call y ≡ (p.0 == id)
  unfolding Both
  posted_agrees p y t = eqb_alike y.call r.call p.0 id to_call to_id
    where
      to_call : p.0 ≡ id → y.call ≡ r.call
      to_call same =
          let both : Some (waiting_of y) ≡ Some part.there = sym t.0.seat ∙ ap (at seats) same ∙ part.seat in
          let equal : waiting_of y ≡ part.there = cc in
          let multi : is_some y.least ≡ true = is_multi y (ap (λ (w : Waiting). is_some w.multi) equal ∙ part.shared) in
          sym (t.1.call multi) ∙ ap m.calls same ∙ part.call

      by : (o : Option ℕ) → y.least ≡ o → y.call ≡ r.call → p.0 ≡ id
      by None e same = absurd (let no : None ≡ Some id = sym (t.1.home ∙ rw e refl) ∙ ap m.homes same ∙ part.home in cc)
      by (Some least) e same = let both : Some p.0 ≡ Some id = sym (t.1.home ∙ rw e refl) ∙ ap m.homes same ∙ part.home in cc

      to_id : y.call ≡ r.call → p.0 ≡ id
      to_id same = by y.least refl same

  -- an item is still under way to it exactly where one is to its id
  ways_then : (s : ℕ) → GoesHome m.homes m.calls seats (get_or after s None) (get_or to s None)
  ways_then s = by (same_or s source)
    where
      by : (s ≡ source) ⊎ (s ≢ source) → GoesHome m.homes m.calls seats (get_or after s None) (get_or to s None)
      by (inl same) =
          let below = row ps us room seats parcels coming v kept source within in
          let comings = kept.comings in
          rw (same, get_or-set_same coming source None None below, get_or-set_same v.rx.coming source None None (omega arith)) refl
      by (inr other) = rw (get_or-set_other coming source s None None other, get_or-set_other v.rx.coming source s None None other) (m.ways s)

  still_fed : list_any (is_into r.call) to ≡ list_any (is_fed_by id) after
  still_fed =
      any_alike (is_into r.call) (is_fed_by id) to after (length-set v.rx.coming source None ∙ kept.comings ∙ sym kept.peers ∙ sym (length-set coming source None))
      (λ s. fed_alike m.homes m.calls seats id r part (get_or after s None) (get_or to s None) (ways_then s))

  -- ---- what contracts see

  abbrev posted_then : List Receive
  posted_then = change_first (is_made_by r.call) (filled place item.bytes) v.rx.posted

  abbrev closing_then : List Receive
  closing_then = change_first (is_made_by r.call) (filled place item.bytes) v.rx.closing

  abbrev ended_as : List Receive → Arriving
  ended_as closing = record {
    rx = record { posted = posted_then; closing = closing; coming = to; unexpected = v.rx.unexpected; claimed = v.rx.claimed; heads = v.rx.heads; tails = raise v.rx.tails source };
    begun = set v.begun source None;
    most = v.most;
    next = v.next;
    multis = v.multis;
  }

  pub finishing_open : list_any (is_fed_by id) after ≡ true → finishing source v ≡ ended_as closing_then
  unfolding made_whole
  finishing_open fed =
      rw (home.1, begun, shared_some r least.0 least.1 place item.bytes (made_whole source v.rx), closed_still r.call (record (made_whole source v.rx) { posted = posted_then; closing = closing_then }) (still_fed ∙ fed), made_whole) refl

  pub finishing_over : list_any (is_fed_by id) after ≡ false → finishing source v ≡ ended_as (remove_first (is_made_by r.call) closing_then)
  unfolding made_whole
  finishing_over unfed =
      rw (home.1, begun, shared_some r least.0 least.1 place item.bytes (made_whole source v.rx), closed_now r.call (record (made_whole source v.rx) { posted = posted_then; closing = closing_then }) (still_fed ∙ unfed), made_whole) refl

  -- ---- the bytes are in its buffer

  module _ (others : Cells Waiting) (is : others.cells ≡ set seats.cells id (option_map (placed_in place bytes.items) (at seats id))) where
    now : at others id ≡ Some (placed_in place item.bytes part.there)
    now = at_same seats others id (option_map (placed_in place bytes.items) (at seats id)) is (id_within seats.cells id part.there part.seat) ∙ ap (option_map (placed_in place bytes.items)) part.seat ∙ ap (λ xs. Some (placed_in place xs part.there)) came

    same_else : (k : ℕ) → k ≢ id → at others k ≡ at seats k
    same_else k other = at_other seats others id (option_map (placed_in place bytes.items) (at seats id)) is k other

    filled_at : (k : ℕ) (y : Receive) → k ≡ id → at seats k ≡ Some (waiting_of y) → at others k ≡ Some (waiting_of (filled place item.bytes y))
    filled_at k y same old =
        let both : Some part.there ≡ Some (waiting_of y) = sym part.seat ∙ ap (at seats) (sym same) ∙ old in
        let equal : part.there ≡ waiting_of y = cc in
        ap (at others) same ∙ now ∙ ap (λ (w : Waiting). Some (placed_in place item.bytes w)) equal

    pub posted_sits : AllZip (Sits others) ps posted_then
    unfolding Both
    posted_sits =
        changed_at Both (Sits others) (is_made_by r.call) (filled place item.bytes) id
        (λ p y same t. record { want = t.0.want; seat = filled_at p.0 y same t.0.seat; fit = fit_filled place item.bytes y t.0.fit })
        (λ p y other t. sits_at seats others p y (same_else p.0 other) t.0)
        posted_agrees ps v.rx.posted m.distinct (tied_both (Sits seats) (IsHome m.homes m.calls) ps v.rx.posted kept.receives m.posted_home)

    pub closing_rests : AllZip (Rests m.homes m.calls others) cs closing_then
    closing_rests =
        changed_at (Rests m.homes m.calls seats) (Rests m.homes m.calls others) (is_made_by r.call) (filled place item.bytes) id
        (λ c y same t. record { seat = filled_at c.0 y same t.seat; ctx = t.ctx; multi = t.multi; home = t.home; call = t.call; fit = fit_filled place item.bytes y t.fit })
        (λ c y other t. rests_at m.homes m.calls seats others c y (same_else c.0 other) t)
        (closing_agrees seats) cs v.rx.closing (apart_alone ps cs m.apart) m.closing_rest

    pub home_then : AllZip (IsHome m.homes m.calls) ps posted_then
    home_then = kept_changed (IsHome m.homes m.calls) (is_made_by r.call) (filled place item.bytes) ps v.rx.posted (λ p y h. record { home = h.home; call = h.call }) m.posted_home

    like_placed : (k : ℕ) (w : Waiting) → at seats k ≡ Some w → (x : Waiting) × (at others k ≡ Some x) × IsLike w x
    like_placed k w there = by (same_or k id)
      where
        by : (k ≡ id) ⊎ (k ≢ id) → (x : Waiting) × (at others k ≡ Some x) × IsLike w x
        by (inr other) = (w, same_else k other ∙ there, like_itself w)
        by (inl same) =
            let both : Some w ≡ Some part.there = sym there ∙ ap (at seats) same ∙ part.seat in
            let equal : w ≡ part.there = cc in
            (placed_in place item.bytes part.there, ap (at others) same ∙ now, record { shared = λ old. part.shared; ctx = sym (ap (λ (x : Waiting). x.seat.ctx) equal); long = length_paste_at part.there.seat.buf item.bytes place ∙ sym (ap (λ (x : Waiting). length x.seat.buf) equal) })

    -- one that is closing has an item under way still, but for this one
    live_then : (xs : List (ℕ × ℕ)) → AllByRecursion (IsFed coming) xs → (list_any (is_fed_by id) after ≡ true) ⊎ (has_id id xs ≡ false) → AllByRecursion (IsFed after) xs
    live_then [] a o = tt
    live_then (c ∷ xs) a o = (by (same_or c.0 id) o, live_then xs a.1 (later o (c.0 == id) refl))
      where
        by : (c.0 ≡ id) ⊎ (c.0 ≢ id) → (list_any (is_fed_by id) after ≡ true) ⊎ (has_id id (c ∷ xs) ≡ false) → IsFed after c
        by (inl same) (inl fed) = subst (λ (k : ℕ). list_any (is_fed_by k) after ≡ true) (sym same) fed
        by (inl same) (inr lacks) = absurd (let no : true ≡ false = sym (rw (eq-eqb c.0 id same) refl) ∙ lacks in cc)
        by (inr other) o = any_set (is_fed_by c.0) coming source None (λ fed. absurd (other (
            let here : is_part_of c.0 (Part id place bytes) ≡ true = ap (is_part_of c.0) (sym way) ∙ subst (λ (x : Option Begun). is_fed_by c.0 x ≡ true) (sym is_stored) fed in
            sym (eqb-true id c.0 here)))) a.0

        later : (list_any (is_fed_by id) after ≡ true) ⊎ (has_id id (c ∷ xs) ≡ false) → (x : Bool) → (c.0 == id) ≡ x → (list_any (is_fed_by id) after ≡ true) ⊎ (has_id id xs ≡ false)
        later (inl fed) x e = inl fed
        later (inr lacks) true e = absurd (let no : true ≡ false = rw e at lacks in cc)
        later (inr lacks) false e = inr (rw e at lacks)

    kept_ended : (last : Cells Waiting) (closing : List Receive) → AllZip (Sits last) ps posted_then → IsKept ps us room last parcels after (ended_as closing)
    kept_ended last closing tied = record {
      receives = tied;
      messages = retied (Lies parcels coming) (Lies parcels after) us v.rx.unexpected
          (lies_after ps us room seats parcels coming v kept source within item begun (λ k held. never k held)) kept.messages;
      ways = ways_set ps us room seats parcels coming v kept source within parcels None None None (λ t id h differs there. there) (refl, refl);
      few = kept.few;
      most = kept.most;
      peers = length-set coming source None ∙ kept.peers ∙ sym (length-set v.begun source None);
      comings = length-set v.rx.coming source None ∙ kept.comings ∙ sym (length-set v.begun source None);
      heads = kept.heads ∙ sym (length-set v.begun source None);
      tails = length-set v.rx.tails source (get_or v.rx.tails source 0 + 1) ∙ kept.tails ∙ sym (length-set v.begun source None);
      under_way = counts_finish ps us room seats parcels coming v kept source within item begun;
    }
      where
        never : (k : ℕ) → IsKeptWay k (stored ps us room seats parcels coming v kept source within item begun).begun.way → ⊥
        never k held =
            let s = stored ps us room seats parcels coming v kept source within item begun in
            let both : Some b ≡ Some s.begun = is_stored ∙ s.stored in
            let same : b ≡ s.begun = cc in
            subst (λ (w : Way). IsKeptWay k w) (ap (λ (x : Begun). x.way) (sym same) ∙ way) held

    -- ---- it stays where it is

    module _ (goes_on : (list_any (is_fed_by id) after ≡ true) ⊎ (has_id id cs ≡ false)) where
      same_ended : finishing source v ≡ ended_as closing_then
      same_ended = by goes_on (list_any (is_fed_by id) after) refl
        where
          by : (list_any (is_fed_by id) after ≡ true) ⊎ (has_id id cs ≡ false) → (x : Bool) → list_any (is_fed_by id) after ≡ x → finishing source v ≡ ended_as closing_then
          by o true e = finishing_open e
          by (inl fed) false e = absurd (let no : true ≡ false = sym fed ∙ e in cc)
          by (inr lacks) false e = finishing_over e ∙ ap ended_as (remove_first-none (is_made_by r.call) closing_then (list_any-not_found (is_made_by r.call) closing_then (missed_at (Rests m.homes m.calls others) (is_made_by r.call) id (closing_agrees others) cs closing_then closing_rests lacks)))

      module _ (last : Cells Waiting) (same : last.cells ≡ others.cells) where
        at_last : (k : ℕ) → at last k ≡ at others k
        at_last k = ap (λ (cells : List (Option Waiting)). get_or cells k None) same

        pub kept_open : IsKept ps us room last parcels after (finishing source v)
        kept_open = rw same_ended (kept_ended last closing_then (retied (Sits others) (Sits last) ps posted_then (λ p y t. sits_at others last p y (at_last p.0) t) posted_sits))

        pub multi_open : last.spare ≡ others.spare → others.spare ≡ seats.spare → AreMulti ps cs last after (finishing source v).rx.posted (finishing source v).rx.closing (finishing source v).rx.coming v.next v.multis v.most
        multi_open count free = subst (λ (x : Arriving). AreMulti ps cs last after x.rx.posted x.rx.closing x.rx.coming v.next v.multis v.most) (sym same_ended) (record {
          homes = m.homes;
          calls = m.calls;
          posted_home = home_then;
          closing_rest = retied (Rests m.homes m.calls others) (Rests m.homes m.calls last) cs closing_then (λ c y t. rests_at m.homes m.calls others last c y (at_last c.0) t) closing_rests;
          distinct = m.distinct;
          apart = m.apart;
          ways = λ s. home_like m.homes m.calls seats last (get_or after s None) (get_or to s None) (λ k w fed there. let now = like_placed k w there in (now.0, at_last k ∙ now.1, now.2)) (ways_then s);
          live = live_then cs m.live goes_on;
          fresh = m.fresh;
          plain = m.plain;
          ids = m.ids;
          numbers = m.numbers;
          back = m.back;
          spare = let spare = m.spare in let same = free in let long = length-set coming source None in omega arith;
        })

      pub last_open : last_of source v ≡ None
      unfolding made_whole
      last_open = rw (home.1, begun, last_some r least.0 least.1 place item.bytes (made_whole source v.rx)) (by goes_on (list_any (is_fed_by id) after) refl)
        where
          rx_then : Receiving
          rx_then = record (made_whole source v.rx) { posted = posted_then; closing = closing_then }

          by : (list_any (is_fed_by id) after ≡ true) ⊎ (has_id id cs ≡ false) → (x : Bool) → list_any (is_fed_by id) after ≡ x → closed_by r.call rx_then ≡ None
          by o true e = none_last r.call rx_then (still_fed ∙ e)
          by (inl fed) false e = absurd (let no : true ≡ false = sym fed ∙ e in cc)
          by (inr lacks) false e = found_last r.call rx_then (still_fed ∙ e) ∙ missed_at (Rests m.homes m.calls others) (is_made_by r.call) id (closing_agrees others) cs closing_then closing_rests lacks

    -- ---- its buffer comes back

    module _ (unfed : list_any (is_fed_by id) after ≡ false) (closes : has_id id cs ≡ true) where
      pub the_last : (c : ℕ × ℕ) × (y : Receive) × (c.0 ≡ id) × (find (is_made_by r.call) closing_then ≡ Some y) × Rests m.homes m.calls others c y
      the_last = found_at (Rests m.homes m.calls others) (is_made_by r.call) id (closing_agrees others) cs closing_then closing_rests closes

      pub last_over : last_of source v ≡ Some the_last.1
      unfolding made_whole
      last_over =
          rw (home.1, begun, last_some r least.0 least.1 place item.bytes (made_whole source v.rx))
          (found_last r.call (record (made_whole source v.rx) { posted = posted_then; closing = closing_then }) (still_fed ∙ unfed) ∙ the_last.3)

      pub buffer_over : option_map (released_of id) (at others id) ≡ option_map (released v) (last_of source v)
      buffer_over = ap (option_map (released_of id)) (ap (at others) (sym the_last.2) ∙ the_last.4.seat) ∙ ap (λ x. Some x) (released_as v id the_last.1 (sym (m.ids the_last.1.call) ∙ the_last.4.home ∙ ap (λ k. Some k) the_last.2) the_last.4.multi) ∙ sym (ap (option_map (released v)) last_over)

      module _ (last : Cells Waiting) (gone : last.cells ≡ set others.cells id None) where
        pub kept_over : IsKept ps us room last parcels after (finishing source v)
        kept_over =
            rw (finishing_over unfed) (kept_ended last (remove_first (is_made_by r.call) closing_then)
            (retied_but (Sits others) (Sits last) id ps posted_then (λ p y other t. sits_at others last p y (at_other others last id None gone p.0 other) t) (apart_of ps cs id closes m.apart) posted_sits))

        pub multi_over : last.spare ≡ others.spare + 1 → others.spare ≡ seats.spare → AreMulti ps (without id cs) last after (finishing source v).rx.posted (finishing source v).rx.closing (finishing source v).rx.coming v.next v.multis v.most
        multi_over more free =
            subst (λ (x : Arriving). AreMulti ps (without id cs) last after x.rx.posted x.rx.closing x.rx.coming v.next v.multis v.most) (sym (finishing_over unfed)) (record {
              homes = m.homes;
              calls = m.calls;
              posted_home = home_then;
              closing_rest =
                  retied_but (Rests m.homes m.calls others) (Rests m.homes m.calls last) id (without id cs) (remove_first (is_made_by r.call) closing_then) (λ c y other t. rests_at m.homes m.calls others last c y (at_other others last id None gone c.0 other) t)
                  (lacks_out id cs (apart_alone ps cs m.apart)) (removed_at (Rests m.homes m.calls others) (is_made_by r.call) id (closing_agrees others) cs closing_then closing_rests);
              distinct = m.distinct;
              apart = apart_rest (λ c. c.0 == id) ps cs m.apart;
              ways = λ s. home_like m.homes m.calls seats last (get_or after s None) (get_or to s None)
                  (λ k w fed there.
                  let other : k ≢ id = λ same. (let no : true ≡ false = sym (any_at (is_fed_by id) after s refl (subst (λ (j : ℕ). is_fed_by j (get_or after s None) ≡ true) same fed)) ∙ unfed in absurd (cc)) in
                  (w, at_other others last id None gone k other ∙ same_else k other ∙ there, like_itself w)) (ways_then s);
              live = live_then (without id cs) (all_fewer (λ c. c.0 == id) (IsFed coming) cs m.live) (inr (lacks_out id cs (apart_alone ps cs m.apart)));
              fresh = m.fresh;
              plain = m.plain;
              ids = m.ids;
              numbers = m.numbers;
              back = m.back;
              spare = let spare = m.spare in let same = free in let count = length-set coming source None in let out = one_out id cs closes in omega arith;
            })

    -- ---- either

    pub placed_now : at others id ≡ Some (placed_in place item.bytes part.there)
    placed_now = now

    pub buffer_part : cond (is_over after cs id) (option_map (released_of id) (at others id)) None ≡ option_map (released v) (last_of source v)
    buffer_part = by (is_over after cs id) refl
      where
        by : (x : Bool) → is_over after cs id ≡ x → cond (is_over after cs id) (option_map (released_of id) (at others id)) None ≡ option_map (released v) (last_of source v)
        by true e = let yes = is_over_yes after cs id e in rw e (buffer_over yes.0 yes.1)
        by false e = rw (e, last_open (is_over_no after cs id e)) refl

    module _ (last : Cells Waiting) (cells : last.cells ≡ cond (is_over after cs id) (set others.cells id None) others.cells) where
      pub kept_part : IsKept ps us room last parcels after (finishing source v)
      kept_part = by (is_over after cs id) refl
        where
          by : (x : Bool) → is_over after cs id ≡ x → IsKept ps us room last parcels after (finishing source v)
          by true e = let yes = is_over_yes after cs id e in kept_over yes.0 yes.1 last (rw e at cells)
          by false e = kept_open (is_over_no after cs id e) last (rw e at cells)

      pub multi_part : last.spare ≡ cond (is_over after cs id) (others.spare + 1) (others.spare) → others.spare ≡ seats.spare → (rest : List (ℕ × ℕ)) → rest ≡ cond (is_over after cs id) (without id cs) cs
          → AreMulti ps rest last after (finishing source v).rx.posted (finishing source v).rx.closing (finishing source v).rx.coming v.next v.multis v.most
      multi_part count free rest are = by (is_over after cs id) refl
        where
          by : (x : Bool) → is_over after cs id ≡ x → AreMulti ps rest last after (finishing source v).rx.posted (finishing source v).rx.closing (finishing source v).rx.coming v.next v.multis v.most
          by true e =
              let yes = is_over_yes after cs id e in
              subst (λ (xs : List (ℕ × ℕ)). AreMulti ps xs last after (finishing source v).rx.posted (finishing source v).rx.closing (finishing source v).rx.coming v.next v.multis v.most) (sym (rw e at are)) (multi_over yes.0 yes.1 last (rw e at cells) (rw e at count) free)
          by false e =
              subst (λ (xs : List (ℕ × ℕ)). AreMulti ps xs last after (finishing source v).rx.posted (finishing source v).rx.closing (finishing source v).rx.coming v.next v.multis v.most) (sym (rw e at are)) (multi_open (is_over_no after cs id e) last (rw e at cells) (rw e at count) free)

  -- the buffer comes back exactly where it is over then
  pub closes_part : is_over after cs id ≡ is_some (last_of source v)
  closes_part = by (is_over after cs id) refl
    where
      others : Cells Waiting
      others = record { cells = set seats.cells id (option_map (placed_in place bytes.items) (at seats id)); spare = seats.spare }

      told : (o : Option Receive) → is_some (option_map (released v) o) ≡ is_some o
      told None = refl
      told (Some y) = refl

      by : (x : Bool) → is_over after cs id ≡ x → is_over after cs id ≡ is_some (last_of source v)
      by false e = e ∙ ap is_some (rw e at (buffer_part others refl)) ∙ told (last_of source v)
      by true e = e ∙ sym (ap (λ o. is_some (option_map (released_of id) o)) (placed_now others refl)) ∙ ap is_some (rw e at (buffer_part others refl)) ∙ told (last_of source v)

  -- the multi-receive is there when it is to be released
  pub part_there : (others : Cells Waiting) → others.cells ≡ set seats.cells id (option_map (placed_in place bytes.items) (at seats id)) → IsSome (multi_at others id)
  part_there others is = by part.there.multi refl part.shared
    where
      by : (o : Option Multi) → part.there.multi ≡ o → is_some o ≡ true → IsSome (multi_at others id)
      by None e some = absurd (cc)
      by (Some q) e some = rw (now others is, e) refl

  -- what it completes
  pub part_ends : (x : Completed) → ((w : Waiting) (y : Receive) (bytes : List ℕ) → at seats id ≡ Some w → is_some y.least ≡ true → w.seat.ctx ≡ y.ctx → length w.seat.buf ≡ length y.buf → x ≡ completed y place source b.head bytes) → Received x ≡ ended (coming_from v.rx source) source item
  part_ends x made =
      let s = stored ps us room seats parcels coming v kept source within item begun in
      let both : Some b ≡ Some s.begun = is_stored ∙ s.stored in
      let same : b ≡ s.begun = cc in
      let head : b.head ≡ item.head = ap (λ (x : Begun). x.head) same ∙ sym s.coming.head in
      rw home.1 (ap (λ x. Received x) (made part.there r item.bytes part.seat part.multi part.ctx part.long ∙ ap (λ h. completed r place source h item.bytes) head))

-- ---- what becomes of an item that goes to no multi-receive

ended_other : (kind : Kind) (source : ℕ) (item : Item) → ended (Some (way_of kind)) 0 item ≡ ended (Some (way_of kind)) source item
ended_other Msg source item = refl
ended_other TagMsg source item = refl
ended_other WriteReq source item = refl
ended_other ReadReq source item = refl
ended_other AtomicReq source item = refl
ended_other Reply source item = refl

pub last_other : (kind : Kind) (bytes : List ℕ) (rx : Receiving) → last_by (Some (way_of kind)) bytes rx ≡ None
last_other Msg bytes rx = refl
last_other TagMsg bytes rx = refl
last_other WriteReq bytes rx = refl
last_other ReadReq bytes rx = refl
last_other AtomicReq bytes rx = refl
last_other Reply bytes rx = refl

pub last_single : (r : Receive) (place : ℕ) (bytes : List ℕ) (rx : Receiving) → r.least ≡ None → last_by (Some (IntoReceive r place)) bytes rx ≡ None
last_single r place bytes rx single = subst (λ (o : Option ℕ). closed_if o r.call (filling r place bytes rx) ≡ None) (sym single) refl

pub at_some : (o : Option Item) (item : Item) → o ≡ Some item → (P : Item → Type 0) → P item → IfSome o P
at_some o item is P p = subst (λ (x : Option Item). IfSome x P) (sym is) p

module _ (ps : List (ℕ × Want)) (us : List (ℕ × Sign)) (room : ℕ) (seats : Cells Waiting) (parcels : Cells Parcel) (coming : List (Option Begun)) (v : Arriving) (kept : IsKept ps us room seats parcels coming v)
    (source : ℕ) (within : source < length v.begun) (item : Item) (begun : begun_of v source ≡ Some item) (b : Begun) (is_stored : Some b ≡ get_or coming source None) where
  abbrev s : IsStored parcels source (get_or coming source None) (coming_from v.rx source) item
  s = stored ps us room seats parcels coming v kept source within item begun

  same_begun : b ≡ s.begun
  same_begun = let both : Some b ≡ Some s.begun = is_stored ∙ s.stored in cc

  headed : b.head ≡ item.head
  headed = ap (λ (x : Begun). x.head) same_begun ∙ sym s.coming.head

  goes_by : (way : Way) → b.way ≡ way → GoesBy parcels source way s.way item
  goes_by way e = subst (λ (w : Way). GoesBy parcels source w s.way item) (ap (λ (x : Begun). x.way) (sym same_begun) ∙ e) s.coming.way

  becomes : (f : Finished) → last_by (Some s.way) (bytes_come (begun_of v source)) (made_whole source v.rx) ≡ None → f ≡ ended (Some s.way) source item → f ≡ handed v (last_of source v) (ended (coming_from v.rx source) source item)
  becomes f none is = rw s.comes (is ∙ sym (ap (λ (o : Option Receive). handed v o (ended (Some s.way) source item)) none))

  pub outcome_into : (seat : Seat) → b.way ≡ Into seat → (x : Completed) → ((r : Receive) (bytes : List ℕ) → IsSingle r → seat ≡ seat_with r bytes → x ≡ completed r 0 source b.head bytes) → Received x ≡ handed v (last_of source v) (ended (coming_from v.rx source) source item)
  outcome_into seat e x made =
      let goes = goes_by (Into seat) e in
      becomes (Received x) (ap (λ w. last_by (Some w) (bytes_come (begun_of v source)) (made_whole source v.rx)) goes.1 ∙ last_single goes.0 0 (bytes_come (begun_of v source)) (made_whole source v.rx) goes.2.least)
      (rw goes.1 (ap (λ x. Received x) (made goes.0 item.bytes goes.2 goes.3 ∙ ap (λ h. completed goes.0 0 source h item.bytes) headed)))

  pub outcome_kept : (id : ℕ) (bytes : Vec ℕ Global) → b.way ≡ Keep id bytes → Kept b.head ≡ handed v (last_of source v) (ended (coming_from v.rx source) source item)
  outcome_kept id bytes e =
      let goes = goes_by (Keep id bytes) e in
      becomes (Kept b.head) (ap (λ w. last_by (Some w) (bytes_come (begun_of v source)) (made_whole source v.rx)) goes.0) (rw goes.0 (ap (λ h. Kept h) headed))

  pub outcome_thrown : b.way ≡ Throw → Thrown b.head ≡ handed v (last_of source v) (ended (coming_from v.rx source) source item)
  outcome_thrown e =
      let goes = goes_by Throw e in
      becomes (Thrown b.head) (ap (λ w. last_by (Some w) (bytes_come (begun_of v source)) (made_whole source v.rx)) goes) (rw goes (ap (λ h. Thrown h) headed))

  pub outcome_gathered : (bytes : Vec ℕ Global) → b.way ≡ Gather bytes → (buf : List ℕ) → buf ≡ bytes.items → (f : Finished) → f ≡ ended (Some (way_of b.head.kind)) 0 (record { head = b.head; bytes = buf }) → f ≡ handed v (last_of source v) (ended (coming_from v.rx source) source item)
  outcome_gathered bytes e buf all f is =
      let goes = goes_by (Gather bytes) e in
      let whole : record { head = b.head; bytes = buf } ≡ item = λ i. record { head = headed i; bytes = (all ∙ goes.1) i } in
      becomes f (ap (λ w. last_by (Some w) (bytes_come (begun_of v source)) (made_whole source v.rx)) goes.0 ∙ last_other item.head.kind (bytes_come (begun_of v source)) (made_whole source v.rx))
      (is ∙ ap (λ (x : Item). ended (Some (way_of x.head.kind)) 0 x) whole ∙ ended_other item.head.kind source item ∙ ap (λ w. ended (Some w) source item) (sym goes.0))

-- ---- whether a buffer comes back

module _ (ps : List (ℕ × Want)) (us : List (ℕ × Sign)) (room : ℕ) (seats : Cells Waiting) (parcels : Cells Parcel) (coming : List (Option Begun)) (v : Arriving) (kept : IsKept ps us room seats parcels coming v)
    (cs : List (ℕ × ℕ)) (m : AreMulti ps cs seats coming v.rx.posted v.rx.closing v.rx.coming v.next v.multis v.most) (source : ℕ) (within : source < length v.begun) where
  pub last_told : (id : ℕ) → part_in (get_or coming source None) ≡ Some id → is_over (set coming source None) cs id ≡ is_some (last_of source v)
  last_told id e = by_begun (get_or coming source None) refl
    where
      by_way : (b : Begun) → Some b ≡ get_or coming source None → (way : Way) → b.way ≡ way → part_id way ≡ Some id → (item : Item) → begun_of v source ≡ Some item → is_over (set coming source None) cs id ≡ is_some (last_of source v)
      by_way b is (Into seat) w told item begun = absurd (cc)
      by_way b is (Part k place bytes) w told item begun =
          let same : k ≡ id = cc in
          subst (λ (j : ℕ). is_over (set coming source None) cs j ≡ is_some (last_of source v)) same (closes_part ps us room seats parcels coming v kept cs m source within item begun b is k place bytes w)
      by_way b is (Keep k bytes) w told item begun = absurd (cc)
      by_way b is Throw w told item begun = absurd (cc)
      by_way b is (Gather bytes) w told item begun = absurd (cc)

      by_begun : (o : Option Begun) → get_or coming source None ≡ o → is_over (set coming source None) cs id ≡ is_some (last_of source v)
      by_begun None none = absurd (let no : None ≡ Some id = sym (ap part_in none) ∙ e in cc)
      by_begun (Some b) is =
          let way : IsWay parcels source (Some b) (coming_from v.rx source) (begun_of v source) = subst (λ (o : Option Begun). IsWay parcels source o (coming_from v.rx source) (begun_of v source)) is (kept.ways source) in
          by_way b (sym is) b.way refl (sym (ap part_in is) ∙ e) way.1 way.3

  pub none_told : part_in (get_or coming source None) ≡ None → is_some (last_of source v) ≡ false
  none_told e = by_begun (get_or coming source None) refl (kept.ways source)
    where
      none_by : (way : Way) (c : Coming) (item : Item) → part_id way ≡ None → GoesBy parcels source way c item → (bytes : List ℕ) (rx : Receiving) → last_by (Some c) bytes rx ≡ None
      none_by (Into seat) c item told g bytes rx = ap (λ w. last_by (Some w) bytes rx) g.1 ∙ last_single g.0 0 bytes rx g.2.least
      none_by (Part k place gathered) c item told g bytes rx = absurd (cc)
      none_by (Keep k gathered) c item told g bytes rx = rw g.0 refl
      none_by Throw c item told g bytes rx = rw g refl
      none_by (Gather gathered) c item told g bytes rx = ap (λ w. last_by (Some w) bytes rx) g.0 ∙ last_other item.head.kind bytes rx

      by_begun : (o : Option Begun) → get_or coming source None ≡ o → IsWay parcels source (get_or coming source None) (coming_from v.rx source) (begun_of v source) → is_some (last_of source v) ≡ false
      by_begun None none w =
          let way : IsWay parcels source None (coming_from v.rx source) (begun_of v source) = subst (λ (o : Option Begun). IsWay parcels source o (coming_from v.rx source) (begun_of v source)) none w in
          rw way.0 refl
      by_begun (Some b) is w =
          let way : IsWay parcels source (Some b) (coming_from v.rx source) (begun_of v source) = subst (λ (o : Option Begun). IsWay parcels source o (coming_from v.rx source) (begun_of v source)) is w in
          let none = none_by b.way way.0 way.1 (sym (ap part_in is) ∙ e) way.4.way (bytes_come (begun_of v source)) (made_whole source v.rx) in
          rw way.2 (ap is_some none)

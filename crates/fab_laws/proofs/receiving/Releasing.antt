-- Each step keeps what buffers for many messages hold, and what entries handed back.
--     Opens v past m s      of the receives that are posted and closing, of what comes to them, and of the buffers handed back
use Rattle.std.proofs.Common.{◌≡◌, ◌≢◌, ◌≤◌, ◌<◌, ◌+◌, ℕ, Bool, true, false, not, List, [], ◌∷◌, ◌++◌, length, set, get_or, get_or-set_same, slice_get, Option, Some, None, ◌⊎◌, inl, inr, refl, sym, ◌∙◌, ap, subst, arith}
use Rattle.std.specs.Prelude.{find, is_some, slice_index}
use Rattle.std.proofs.lemmas.Bool.{and_parts, cases_eq}
use Rattle.fab_base.specs.declared.items.Item.{Item}
use Rattle.fab_base.specs.declared.operations.Arrival.{Arrival}
use Rattle.fab_base.specs.declared.operations.Coming.{Coming}
use Rattle.fab_base.specs.declared.operations.Coming.TheVariants.{Into, Throw}
use Rattle.fab_base.specs.declared.operations.Receive.{Receive}
use Rattle.fab_base.specs.declared.operations.Written.{Written}
use Rattle.fab_base.specs.declared.script.Conf.{Conf}
use Rattle.fab_base.proofs.Options.{some_there as some_least}
use Rattle.fab_model.specs.Matching.{change_first, remove_first, takes}
use Rattle.fab_model.specs.State.{Receiving, State, coming_from, raise, under_way}
use Rattle.fab_model.specs.Complete.{filled, filling, is_made_by}
use Rattle.fab_model.specs.Receiving.{Posting, draws, goes, may_leave, receive_of, taking, without_claim, without_first}
use Rattle.fab_model.specs.Arrivals.{is_wanted, keeping, seated, seating, shut, stays, used_up}
use Rattle.fab_model.specs.Calls.{Post}
use Rattle.fab_model.specs.Views.{More, View}
use Rattle.fab_model.proofs.Parts.{get_or-set, more_item, some_same}
use Rattle.fab_model.proofs.Grows.{raised as raise_keeps}
use Rattle.fab_laws.specs.Members.{Ahead, In, Never}
use Rattle.fab_laws.specs.Programs.{Deed, Makes, starting}
use Rattle.fab_laws.specs.Matched.{Event, Got, Mark, is_posted, mark_of, mark_at}
use Rattle.fab_laws.specs.MessageLaws.{IsOf}
use Rattle.fab_laws.specs.Claimed.{Handling}
use Rattle.fab_laws.specs.MultiLaws.{BufferHolds, IsComingAt, handed_back, placed, release_of, used_in}
use Rattle.fab_laws.proofs.Counts.{in_split}
use Rattle.fab_laws.proofs.Lists.{Each, always, changed_same, each_in, each_so, found_in, in_back, in_end, in_front, in_map, in_removed, mapped, map_append, never, raise_here}
use Rattle.fab_laws.proofs.matching.Watch.{entry_hands}
use Rattle.fab_laws.proofs.streams.Told.{IsInto, Truly}
use Rattle.fab_laws.proofs.streams.Entries.{told_by}
use Rattle.fab_laws.proofs.receiving.Acts.{Act, Cancels, Claims, Closes, Discards, Draws, Drops, Fills, Gets, Joins, Passes, Plain, Posts, Rests, Seats, Takes, Waits, cancelled_entry, entries_for, entry_for, given, is_into, leaving, let_out, subject, thrown, whole}
use Rattle.fab_laws.proofs.receiving.News.{coming_out, leaves_given, leaves_out}
use Rattle.fab_laws.proofs.receiving.Settling.{Flows, HasItem, SettledAt}
use Rattle.fab_laws.proofs.receiving.Opens.{AreSized, Buffer, Busy, Holds, IsMulti, ahead_mapped, calls, level, placed_more, placed_now, under_way_by}
use Rattle.fab_laws.proofs.receiving.Filling.{Handed, IsReleased, NotGiven, Open, earlier, fill_holds, handed_level, in_shut, level_holds, lets_go, moved_holds, seat_holds}
use Rattle.fab_laws.proofs.receiving.Placing.{Give, Grows, Join, Level, Placing, Rows, Stay, Up, in_parts, placed_got, seat_of, seated_seats, split}

-- ---- words

-- what comes from q to this place of a receive has its place there
abbrev pub HasPlace : List Event → List ℕ → Receive → ℕ → Receive → ℕ → Type 0
HasPlace past tails f q r place = (x : Mark) × In (x, place) (placed (length f.buf) f.call past) × (x.source ≡ q) × (x.place ≡ slice_index tails q) × (length r.buf ≡ length f.buf)

pub record Opens (v : View Item) (past : List Event) (m : List Receive) (s : State) : Type 0 where
  pub now : Open v past m s.rx s.cq.written (λ c. Never)
  pub into : (q : ℕ) (r : Receive) (place : ℕ) → coming_from s.rx q ≡ Some (Into r place) → (f : Receive) → IsMulti m f → r.call ≡ f.call → HasPlace past s.rx.tails f q r place

-- what comes to a receive still comes
abbrev pub SteadyTo : State → Receiving → Type 0
SteadyTo s rx = (q : ℕ) (r : Receive) (place : ℕ) → coming_from s.rx q ≡ Some (Into r place) → (coming_from rx q ≡ Some (Into r place)) × (slice_index rx.tails q ≡ slice_index s.rx.tails q)

-- where as many are whole as before
pub level_steady : (v : View Item) (past : List Event) (h : List Handling) (m : List Receive) (s t : State) (o : Option (Receive × Mark)) → Flows v past h m s t o → t.rx.tails ≡ s.rx.tails → SteadyTo s t.rx
level_steady v past h m s t o flows same q r place e = elim (flows.stays q r place e) [ inl still ↦ still | inr ends ↦ absurd (omega (arith, ends.2, ap (λ (xs : List ℕ). slice_index xs q) same)) ]

-- what comes of one source went to no receive
pub aside_steady : (s t : State) (source : ℕ) → is_into (coming_from s.rx source) ≡ false → t.rx.coming ≡ set s.rx.coming source None → t.rx.tails ≡ raise s.rx.tails source → SteadyTo s t.rx
aside_steady s t source none coming_is tails_are q r place e = elim (cases_eq source q) [
  | inl same ↦ absurd (let f : is_into (coming_from s.rx source) ≡ true = subst (λ (k : ℕ). is_into (coming_from s.rx k) ≡ true) (sym same) (ap is_into e) in cc (f, none))
  | inr differ ↦ (
    ap (λ (xs : List (Option Coming)). get_or xs q None) coming_is ∙ elim (get_or-set s.rx.coming source q None None) [ inl kept ↦ kept | inr now ↦ absurd (differ now.0) ] ∙ e,
    ap (λ (xs : List ℕ). slice_index xs q) tails_are ∙ elim (get_or-set s.rx.tails source q (slice_index s.rx.tails source + 1) 0) [ inl kept ↦ kept | inr now ↦ absurd (differ now.0) ],
  )
]

-- ---- what every step has in common

module _ (v : View Item) (past es : List Event) (m rs : List Receive) (s t : State) (o : Option (Receive × Mark)) (up : Grows past o es) (does : Rows rs s t o) (one : (f g : Receive) → In f (rs ++ m) → In g (rs ++ m) → f.call ≡ g.call → f ≡ g) (new : (f : Receive) → In f rs → f.call ≡ s.calls)
    (old_calls : (f : Receive) → In f m → f.call < s.calls) (got_before : (c : ℕ) (x : Mark) (last : Bool) → In (Got c x last) past → c < s.calls) (stands : (r : Receive) → In r s.rx.posted → IsOf m r)
    (got_is : (c : ℕ) (y : Mark) (last : Bool) → In (Got c y last) (es ++ past) → In (Got c y last) past ⊎ ((r : Receive) × (o ≡ Some (r, y)) × (r.call ≡ c))) (was : Open v past m s.rx s.cq.written (λ c. Never)) where
  posted_before : (z : Receive) → In z s.rx.posted → z.call < s.calls
  posted_before z i = let is = stands z i in omega (arith, is.call, old_calls is.first is.asked)

  posted_calls : (c : ℕ) → In c (calls s.rx.posted) → c < s.calls
  posted_calls c i = let z = mapped (λ (y : Receive). y.call) c s.rx.posted i in omega (arith, posted_before z.0 z.1, z.2)

  -- a receive for many messages is none that is given one as its only message
  not_single : (f r : Receive) → IsMulti (rs ++ m) f → In r (rs ++ m) → r.call ≡ f.call → r.least ≡ None → Never
  not_single f r multi i e none = absurd (let same : r ≡ f = one r f i multi.0 e in let g : None ≡ Some multi.1.0 = sym none ∙ ap (λ (z : Receive). z.least) same ∙ multi.1.1 in cc (g))

  not_single_of : (f r : Receive) → IsMulti (rs ++ m) f → IsOf m r → r.call ≡ f.call → r.least ≡ None → Never
  not_single_of f r multi of e none = not_single f of.first multi (in_back of.first rs m of.asked) (sym of.call ∙ e) (sym of.least ∙ none)

  none_single : ((r : Receive) (y : Mark) → o ≡ Some (r, y) → r.least ≡ None) → (f : Receive) → IsMulti (rs ++ m) f → NotGiven o f.call
  none_single least f multi = go does
    where
      go : Rows rs s t o → NotGiven o f.call
      go (Stay back single) r y is e = let k = single r y is in not_single f r multi (in_front r rs m k.1) e k.0
      go (Join g made zero_used joined none) r y is e = absurd (let k : None ≡ Some (r, y) = sym none ∙ is in cc (k))
      go (Give g y whose there each seen) r z is e =
          let p : (g, y) ≡ (r, z) = some_same (g, y) (r, z) (sym whose ∙ is) in
          let same : g ≡ r = ap (λ (q : Receive × Mark). q.0) p in
          not_single_of f g multi (stands g there) (ap (λ (q : Receive). q.call) same ∙ e) (ap (λ (q : Receive). q.least) same ∙ least r z is)

  -- a receive that was asked for and is not posted is given none
  free : (c : ℕ) → (In c (calls s.rx.posted) → Never) → ((f : Receive) × In f m × (f.call ≡ c)) → NotGiven o c
  free c off (g, asked, number) = go does
    where
      go : Rows rs s t o → NotGiven o c
      go (Stay back single) r y is e = let k = single r y is in absurd (omega (arith, new r k.1, e, old_calls g asked, number))
      go (Join k made zero_used joined none) r y is e = absurd (let l : None ≡ Some (r, y) = sym none ∙ is in cc (l))
      go (Give k y whose there each seen) r z is e =
          let p : (k, y) ≡ (r, z) = some_same (k, y) (r, z) (sym whose ∙ is) in
          off (subst (λ (d : ℕ). In d (calls s.rx.posted)) (ap (λ (q : Receive × Mark). q.0.call) p ∙ e) (in_map (λ (q : Receive). q.call) k s.rx.posted there))

  -- a buffer that was handed back
  back_old : (rx : Receiving) → ((q : ℕ) → slice_index s.rx.tails q ≤ slice_index rx.tails q) → ((c : ℕ) → In c (calls rx.posted) → In c (calls s.rx.posted) ⊎ (c ≡ s.calls)) → (w : Written) (c : ℕ) (buf : List ℕ) → In w s.cq.written → w.call ≡ Some c → handed_back w.entry ≡ Some buf
      → Handed v (es ++ past) (rs ++ m) rx.tails rx.posted c w buf
  back_old rx more posted w c buf i call hands =
      let h = was.back w c buf i call hands in
      handed_level v past es m rs o s.calls up one new old_calls got_before s.rx.tails rx.tails s.rx.posted rx.posted c w buf more
      (λ j. elim (posted c j) [ inl k ↦ h.off k | inr e ↦ absurd (omega (arith, old_calls h.known.0 h.known.1, h.known.2, e)) ]) (free c h.off h.known) h

  ends_old : (rx : Receiving) (ws : List Written) → ((w : Written) → In w s.cq.written → In w ws) → ((c : ℕ) → In c (calls s.rx.closing) → In c (calls rx.closing)) → (f : Receive) (y : Mark) → IsMulti (rs ++ m) f → In (Got f.call y true) past → IsReleased ws f.call ⊎ In f.call (calls rx.closing)
  ends_old rx ws kept shut f y multi i = elim (was.ends f y (earlier v past es m rs o s.calls up one new old_calls got_before f multi (got_before f.call y true i)) i) [
    | inl rel ↦ inl (rel.0, rel.1, rel.2, kept (release_of f.call rel.0 rel.1 rel.2) rel.3)
    | inr j ↦ inr (shut f.call j)
  ]

  still_comes : (rx : Receiving) → SteadyTo s rx → (c : ℕ) (x : Mark) (p : ℕ) → IsComingAt s.rx c x p → IsComingAt rx c x p
  still_comes rx steady c x p (r, comes, number, here) = let k = steady x.source r p comes in (r, k.0, number, here ∙ sym k.1)

  still_busy : (rx : Receiving) → SteadyTo s rx → (c : ℕ) → Busy s.rx c → Busy rx c
  still_busy rx steady c (q, r, place, comes, number) = (q, r, place, (steady q r place comes).0, number)

  -- ---- nothing for many messages is given, and none is let go

  quiet : (rx : Receiving) (ws : List Written) → ((q : ℕ) → slice_index s.rx.tails q ≤ slice_index rx.tails q) → ((w : Written) → In w s.cq.written → In w ws) → ((f : Receive) → IsMulti (rs ++ m) f → NotGiven o f.call)
      → ((z : Receive) → In z rx.posted → In z s.rx.posted ⊎ In z rs) → ((q r : Receive) → Ahead q r rx.posted → q.call ≡ r.call → Never) → rx.closing ≡ s.rx.closing → SteadyTo s rx
      → ((w : Written) (c : ℕ) (buf : List ℕ) → In w ws → w.call ≡ Some c → handed_back w.entry ≡ Some buf → In w s.cq.written ⊎ Handed v (es ++ past) (rs ++ m) rx.tails rx.posted c w buf) → Open v (es ++ past) (rs ++ m) rx ws (λ c. Never)
  quiet rx ws more kept none from apart same steady back = record {
    holds = subst (λ (cs : List Receive). Holds v rx.tails (λ c x p. IsComingAt rx c x p) (es ++ past) (rs ++ m) rx.posted cs) (sym same)
        (level_holds v past es m rs o s.calls up one new old_calls got_before s.rx.tails rx.tails more (λ c x p. IsComingAt s.rx c x p) (λ c x p. IsComingAt rx c x p) s.rx.posted s.rx.closing posted_before was.holds rx.posted none from
        (λ c d a. (let w = ahead_mapped (λ (z : Receive). z.call) rx.posted c d a in λ e. apart w.0 w.1 w.2 (w.3 ∙ e ∙ sym w.4)))
        (λ f multi x p c. still_comes rx steady f.call x p c));
    busy = λ c i. elim (was.busy c (subst (λ (cs : List Receive). In c (calls cs)) same i)) [ inl b ↦ inl (still_busy rx steady c b) | inr n ↦ inr n ];
    back = λ w c buf i call hands. elim (back w c buf i call hands) [
      | inl old ↦ back_old rx more posted w c buf old call hands
      | inr now ↦ now
    ];
    ends = λ f y multi i. elim (got_is f.call y true i) [
      | inl old ↦ ends_old rx ws kept (λ c j. subst (λ (cs : List Receive). In c (calls cs)) (sym same) j) f y multi old
      | inr now ↦ never (none f multi now.0 y now.1 now.2)
    ];
  }
    where
      posted : (c : ℕ) → In c (calls rx.posted) → In c (calls s.rx.posted) ⊎ (c ≡ s.calls)
      posted c i =
          let z = mapped (λ (y : Receive). y.call) c rx.posted i in
          elim (from z.0 z.1) [ inl old ↦ inl (subst (λ (d : ℕ). In d (calls s.rx.posted)) (sym z.2) (in_map (λ (y : Receive). y.call) z.0 s.rx.posted old)) | inr made ↦ inr (z.2 ∙ new z.0 made) ]

  -- ---- a receive that is posted takes a message

  module _ (test : Receive → Bool) (r : Receive) (x : Mark) (found : find test s.rx.posted ≡ Some r) (is : o ≡ Some (r, x)) (apart : (q z : Receive) → Ahead q z s.rx.posted → q.call ≡ z.call → Never) (placing : Placing v past m s)
      (flag : (c : ℕ) (y : Mark) (last : Bool) → In (Got c y last) es → last ≡ not (is_posted c t)) (seen : is_posted r.call t ≡ stays x.head.total r) where
    r_there : In r s.rx.posted
    r_there = (found_in test s.rx.posted r found).0

    used : (f : Receive) → IsMulti m f → r.call ≡ f.call → (length r.buf ≡ length f.buf) × (r.used ≡ used_in (length f.buf) f.call past)
    used f (i, (least, multi)) e = placing.sized f least (seat_of r) i multi (in_map seat_of r s.rx.posted r_there) e

    -- it got its last message where it does not stay
    got : stays x.head.total r ≡ false → (least : ℕ) → r.least ≡ Some least → In (Got r.call x true) (es ++ past)
    got goes least multi = go up
      where
        go : Grows past o es → In (Got r.call x true) (es ++ past)
        go (Level closing used places single) = absurd (let e : None ≡ Some least = sym (single r x is) ∙ multi in cc (e))
        go (Up q y last rest es_is dull whose used places) =
            let p : (q, y) ≡ (r, x) = some_same (q, y) (r, x) (sym whose ∙ is) in
            let i : In (Got r.call x last) es = subst (λ (z : Receive × Mark). In (Got z.0.call z.1 last) es) p (subst (λ (zs : List Event). In (Got q.call y last) zs) (sym es_is) (inl refl)) in
            let l : last ≡ true = flag r.call x last i ∙ ap not (seen ∙ goes) in
            in_front (Got r.call x true) es past (subst (λ (b : Bool). In (Got r.call x b) es) l i)

    shut_now : stays x.head.total r ≡ false → (least : ℕ) → r.least ≡ Some least → In r.call (calls (s.rx.closing ++ shut x.head.total r))
    shut_now goes least multi = subst (In r.call) (sym (map_append (λ (z : Receive). z.call) s.rx.closing (shut x.head.total r))) (in_back r.call (calls s.rx.closing) (calls (shut x.head.total r))
        (subst (λ (n : Option ℕ). In r.call (calls (let xs : List Receive = elim n [ None ↦ [] | Some _ ↦ elim (stays x.head.total r) [ true ↦ [] | false ↦ used_up x.head.total r ∷ [] ] ] in xs))) (sym multi)
        (subst (λ (b : Bool). In r.call (calls (let xs : List Receive = elim b [ true ↦ [] | false ↦ used_up x.head.total r ∷ [] ] in xs))) (sym goes) (inl refl))))

    still_shut : (c : ℕ) → In c (calls s.rx.closing) → In c (calls (s.rx.closing ++ shut x.head.total r))
    still_shut c i = subst (In c) (sym (map_append (λ (z : Receive). z.call) s.rx.closing (shut x.head.total r))) (in_front c (calls s.rx.closing) (calls (shut x.head.total r)) i)

    -- the receives posted are of those before
    seated_posted : (c : ℕ) → In c (calls (seated test x.head.total r s.rx.posted)) → In c (calls s.rx.posted) ⊎ (c ≡ s.calls)
    seated_posted c i =
        let z = mapped (λ (y : Receive). y.call) c (seated test x.head.total r s.rx.posted) i in
        inl (elim (seated_seats s.rx.posted apart test r found x.head.total z.0 z.1) [
          | inl old ↦ subst (λ (d : ℕ). In d (calls s.rx.posted)) (sym z.2) (in_map (λ (y : Receive). y.call) z.0 s.rx.posted old.0)
          | inr now ↦ subst (λ (d : ℕ). In d (calls s.rx.posted)) (sym (z.2 ∙ ap (λ (y : Receive). y.call) now)) (in_map (λ (y : Receive). y.call) r s.rx.posted r_there)
        ])

    ends_seated : (rx : Receiving) (ws : List Written) → ((w : Written) → In w s.cq.written → In w ws) → calls rx.closing ≡ calls (s.rx.closing ++ shut x.head.total r) → (f : Receive) (y : Mark) → IsMulti (rs ++ m) f → In (Got f.call y true) (es ++ past) → IsReleased ws f.call ⊎ In f.call (calls rx.closing)
    ends_seated rx ws kept same f y multi i = elim (in_split (Got f.call y true) es past i) [
      | inl fresh ↦ elim (got_is f.call y true i) [
        | inl old ↦ before old
        | inr (q, e, number) ↦ (
            let p : (r, x) ≡ (q, y) = some_same (r, x) (q, y) (sym is ∙ e) in
            let mine : r.call ≡ f.call = ap (λ (z : Receive × Mark). z.0.call) p ∙ number in
            let of = stands r r_there in
            let first : of.first ≡ f = one of.first f (in_back of.first rs m of.asked) multi.0 (sym of.call ∙ mine) in
            let gone : stays x.head.total r ≡ false = sym seen ∙ ap (λ (c : ℕ). is_posted c t) mine ∙ unposted (is_posted f.call t) (flag f.call y true fresh) in
            inr (subst (In f.call) (sym same) (subst (λ (c : ℕ). In c (calls (s.rx.closing ++ shut x.head.total r))) mine (shut_now gone multi.1.0 (of.least ∙ ap (λ (z : Receive). z.least) first ∙ multi.1.1)))))
      ]
      | inr old ↦ before old
    ]
      where
        before : In (Got f.call y true) past → IsReleased ws f.call ⊎ In f.call (calls rx.closing)
        before old = ends_old rx ws kept (λ c j. subst (In c) (sym same) (still_shut c j)) f y multi old

        unposted : (b : Bool) → true ≡ not b → b ≡ false
        unposted true e = absurd (cc (e))
        unposted false e = refl

    seats : (tails : List ℕ) → ((q : ℕ) → slice_index s.rx.tails q ≤ slice_index tails q) → (comes : ℕ → Mark → ℕ → Type 0) → ((f : Receive) → IsMulti (rs ++ m) f → (y : Mark) (p : ℕ) → IsComingAt s.rx f.call y p → comes f.call y p) → comes r.call x r.used
        → Holds v tails comes (es ++ past) (rs ++ m) (seated test x.head.total r s.rx.posted) (s.rx.closing ++ shut x.head.total r)
    seats tails more comes moves given = seat_holds v past es m rs o s.calls up one new old_calls got_before s.rx.tails tails more (λ c y p. IsComingAt s.rx c y p) comes s.rx.posted s.rx.closing posted_before was.holds test r x found is (stands r r_there) apart used got moves given

    -- its bytes are still to come
    seat_open : (rx : Receiving) (ws : List Written) → ((q : ℕ) → slice_index s.rx.tails q ≤ slice_index rx.tails q) → ((w : Written) → In w s.cq.written → In w ws) → ((w : Written) → In w ws → In w s.cq.written ⊎ (handed_back w.entry ≡ None))
        → rx.posted ≡ seated test x.head.total r s.rx.posted → rx.closing ≡ s.rx.closing ++ shut x.head.total r → SteadyTo s rx → IsComingAt rx r.call x r.used → Open v (es ++ past) (rs ++ m) rx ws (λ c. Never)
    seat_open rx ws more kept plain posted closing steady comes = record {
      holds = subst (λ (ps : List Receive). Holds v rx.tails (λ c y p. IsComingAt rx c y p) (es ++ past) (rs ++ m) ps rx.closing) (sym posted)
          (subst (λ (cs : List Receive). Holds v rx.tails (λ c y p. IsComingAt rx c y p) (es ++ past) (rs ++ m) (seated test x.head.total r s.rx.posted) cs) (sym closing)
          (seats rx.tails more (λ c y p. IsComingAt rx c y p) (λ f multi y p c. still_comes rx steady f.call y p c) comes));
      busy = λ c i. elim (in_shut x.head.total r s.rx.closing c (subst (λ (cs : List Receive). In c (calls cs)) closing i)) [
        | inl old ↦ elim (was.busy c old) [ inl b ↦ inl (still_busy rx steady c b) | inr n ↦ inr n ]
        | inr now ↦ inl (x.source, comes.0, r.used, comes.1, comes.2 ∙ sym now.0)
      ];
      back = λ w c buf i call hands. elim (plain w i) [
        | inl old ↦ back_old rx more (λ d j. seated_posted d (subst (λ (ps : List Receive). In d (calls ps)) posted j)) w c buf old call hands
        | inr none ↦ absurd (let e : None ≡ Some buf = sym none ∙ hands in cc (e))
      ];
      ends = λ f y multi i. ends_seated rx ws kept (ap calls closing) f y multi i;
    }

    -- what comes, and what is to be written
    abbrev Meanwhile : ℕ → Mark → ℕ → Type 0
    Meanwhile c y p = IsComingAt s.rx c y p ⊎ ((r.call ≡ c) × ((x.source ≡ y.source) × (x.place ≡ y.place) × (r.used ≡ p)))

    -- its bytes are written at once
    fill_open : (rx : Receiving) (ws : List Written) (item : Item) → ((q : ℕ) → slice_index s.rx.tails q ≤ slice_index rx.tails q) → ((w : Written) → In w s.cq.written → In w ws) → ((w : Written) → In w ws → In w s.cq.written ⊎ (handed_back w.entry ≡ None))
        → rx.posted ≡ change_first (is_made_by r.call) (filled r.used item.bytes) (seated test x.head.total r s.rx.posted) → rx.closing ≡ change_first (is_made_by r.call) (filled r.used item.bytes) (s.rx.closing ++ shut x.head.total r)
        → SteadyTo s rx → (least : ℕ) → r.least ≡ Some least → ((f : Receive) → IsMulti (rs ++ m) f → AreSized v (es ++ past) f) → slice_get (v.ready x.source) x.place ≡ Some item → x.place < slice_index rx.tails x.source → Open v (es ++ past) (rs ++ m) rx ws (λ c. c ≡ r.call)
    fill_open rx ws item more kept plain posted closing steady least multi sized at whole = record {
      holds = subst (λ (ps : List Receive). Holds v rx.tails (λ c y p. IsComingAt rx c y p) (es ++ past) (rs ++ m) ps rx.closing) (sym posted)
          (subst (λ (cs : List Receive). Holds v rx.tails (λ c y p. IsComingAt rx c y p) (es ++ past) (rs ++ m) (change_first (is_made_by r.call) (filled r.used item.bytes) (seated test x.head.total r s.rx.posted)) cs) (sym closing)
          (fill_holds v rx.tails (λ c y p. Meanwhile c y p) (λ c y p. IsComingAt rx c y p) (es ++ past) (rs ++ m) (seated test x.head.total r s.rx.posted) (s.rx.closing ++ shut x.head.total r)
          (seats rx.tails more (λ c y p. Meanwhile c y p) (λ f multi y p c. inl c) (inr (refl, (refl, refl, refl)))) r x r.used item sized there at whole
          (λ c y p k. elim k [ inl comes ↦ inl (still_comes rx steady c y p comes) | inr mine ↦ inr mine ])));
      busy = λ c i. elim (in_shut x.head.total r s.rx.closing c (subst (In c) (ap calls closing ∙ filled_calls (s.rx.closing ++ shut x.head.total r)) i)) [
        | inl old ↦ elim (was.busy c old) [ inl b ↦ inl (still_busy rx steady c b) | inr n ↦ never n ]
        | inr now ↦ inr now.0
      ];
      back = λ w c buf i call hands. elim (plain w i) [
        | inl old ↦ back_old rx more (λ d j. seated_posted d (subst (In d) (ap calls posted ∙ filled_calls (seated test x.head.total r s.rx.posted)) j)) w c buf old call hands
        | inr none ↦ absurd (let e : None ≡ Some buf = sym none ∙ hands in cc (e))
      ];
      ends = λ f y multi i. ends_seated rx ws kept (ap calls closing ∙ filled_calls (s.rx.closing ++ shut x.head.total r)) f y multi i;
    }
      where
        filled_calls : (xs : List Receive) → calls (change_first (is_made_by r.call) (filled r.used item.bytes) xs) ≡ calls xs
        filled_calls xs = changed_same (λ (z : Receive). z.call) (is_made_by r.call) (filled r.used item.bytes) xs (λ z. refl)

        there : (f : Receive) → IsMulti (rs ++ m) f → r.call ≡ f.call → In (x, r.used) (placed (length f.buf) f.call (es ++ past))
        there f multi_f e =
            let u = used f (earlier v past es m rs o s.calls up one new old_calls got_before f multi_f (omega (arith, posted_before r r_there, e))) e in
            subst (λ (p : ℕ). In {X = Mark × ℕ} (x, p) (placed (length f.buf) f.call (es ++ past))) (sym u.1) (placed_now past o es up (length f.buf) f.call r x least is multi e).0

  -- ---- the rest of a message is whole

  module _ (source : ℕ) (r : Receive) (place : ℕ) (item : Item) (none : o ≡ None) (from : coming_from s.rx source ≡ Some (Into r place)) (into : IsInto m r place) (at : slice_get (v.ready source) (slice_index s.rx.tails source) ≡ Some item) (within : source < length s.rx.tails)
      (has : (f : Receive) → IsMulti m f → r.call ≡ f.call → HasPlace past s.rx.tails f source r place) (sized : (f : Receive) → IsMulti (rs ++ m) f → AreSized v (es ++ past) f) (got_came : (c : ℕ) (y : Mark) (last : Bool) → In (Got c y last) past → HasItem v y) (ws : List Written) (kept : (w : Written) → In w s.cq.written → In w ws)
      (plain : (w : Written) → In w ws → In w s.cq.written ⊎ (handed_back w.entry ≡ None)) (apart : (q z : Receive) → Ahead q z s.rx.posted → q.call ≡ z.call → Never) where
    not_given : (c : ℕ) → NotGiven o c
    not_given c q y e same = absurd (let f : None ≡ Some (q, y) = sym none ∙ e in cc (f))

    more : (q : ℕ) → slice_index s.rx.tails q ≤ slice_index (raise s.rx.tails source) q
    more q = raise_keeps s.rx.tails source q

    abbrev whole_rx : List Receive → List Receive → Receiving
    whole_rx ps cs = record (whole source s.rx) { posted = ps; closing = cs }

    -- what comes of another source, and what came of this one
    elsewhere : (ps cs : List Receive) (q : ℕ) → source ≢ q → (coming_from (whole_rx ps cs) q ≡ coming_from s.rx q) × (slice_index (whole_rx ps cs).tails q ≡ slice_index s.rx.tails q)
    elsewhere ps cs q differ = (
      elim (get_or-set s.rx.coming source q None None) [ inl same ↦ same | inr now ↦ absurd (differ now.0) ],
      elim (get_or-set s.rx.tails source q (slice_index s.rx.tails source + 1) 0) [ inl same ↦ same | inr now ↦ absurd (differ now.0) ],
    )

    came : (q : Receive) (p : ℕ) → coming_from s.rx source ≡ Some (Into q p) → (r ≡ q) × (place ≡ p)
    came q p e = let f : Some (Into r place) ≡ Some (Into q p) = sym from ∙ e in (cc (f), cc (f))

    comes_on : (ps cs : List Receive) (c : ℕ) (y : Mark) (p : ℕ) → IsComingAt s.rx c y p → IsComingAt (whole_rx ps cs) c y p ⊎ ((r.call ≡ c) × ((source ≡ y.source) × (slice_index s.rx.tails source ≡ y.place) × (place ≡ p)))
    comes_on ps cs c y p (q, comes, number, here) = elim (cases_eq source y.source) [
      | inl same ↦ (
          let k = came q p (subst (λ (i : ℕ). coming_from s.rx i ≡ Some (Into q p)) (sym same) comes) in
          inr (ap (λ (z : Receive). z.call) k.0 ∙ number, (same, ap (slice_index s.rx.tails) same ∙ sym here, k.1)))
      | inr differ ↦ (let e = elsewhere ps cs y.source differ in inl (q, e.0 ∙ comes, number, here ∙ sym e.1))
    ]

    busy_on : (ps cs : List Receive) (c : ℕ) → Busy s.rx c → Busy (whole_rx ps cs) c ⊎ (c ≡ r.call)
    busy_on ps cs c (i, q, p, comes, number) = elim (cases_eq source i) [
      | inl same ↦ (let k = came q p (subst (λ (j : ℕ). coming_from s.rx j ≡ Some (Into q p)) (sym same) comes) in inr (sym number ∙ ap (λ (z : Receive). z.call) (sym k.0)))
      | inr differ ↦ inl (i, q, p, (elsewhere ps cs i differ).0 ∙ comes, number)
    ]

    ahead_calls : (c d : ℕ) → Ahead c d (calls s.rx.posted) → c ≡ d → Never
    ahead_calls c d a e = let w = ahead_mapped (λ (z : Receive). z.call) s.rx.posted c d a in apart w.0 w.1 w.2 (w.3 ∙ e ∙ sym w.4)

    -- nothing is given, and it still comes
    before : Holds v (raise s.rx.tails source) (λ c y p. IsComingAt s.rx c y p) (es ++ past) (rs ++ m) s.rx.posted s.rx.closing
    before = level_holds v past es m rs o s.calls up one new old_calls got_before s.rx.tails (raise s.rx.tails source) more (λ c y p. IsComingAt s.rx c y p) (λ c y p. IsComingAt s.rx c y p) s.rx.posted s.rx.closing posted_before was.holds s.rx.posted
        (λ f multi. not_given f.call) (λ z i. inl i) ahead_calls (λ f multi x p c. c)

    rest : (ps cs : List Receive) → calls ps ≡ calls s.rx.posted → calls cs ≡ calls s.rx.closing → Holds v (raise s.rx.tails source) (λ c y p. IsComingAt (whole_rx ps cs) c y p) (es ++ past) (rs ++ m) ps cs → Open v (es ++ past) (rs ++ m) (whole_rx ps cs) ws (λ c. c ≡ r.call)
    rest ps cs same shut holds = record {
      holds = holds;
      busy = λ c i. elim (was.busy c (subst (In c) shut i)) [ inl b ↦ busy_on ps cs c b | inr n ↦ never n ];
      back = λ w c buf i call hands. elim (plain w i) [
        | inl old ↦ back_old (whole_rx ps cs) more (λ d j. inl (subst (In d) same j)) w c buf old call hands
        | inr nothing ↦ absurd (let e : None ≡ Some buf = sym nothing ∙ hands in cc (e))
      ];
      ends = λ f y multi i. elim (got_is f.call y true i) [
        | inl old ↦ ends_old (whole_rx ps cs) ws kept (λ c j. subst (In c) (sym shut) j) f y multi old
        | inr now ↦ never (not_given f.call now.0 y now.1 now.2)
      ];
    }

    filled_calls : (xs : List Receive) → calls (change_first (is_made_by r.call) (filled place item.bytes) xs) ≡ calls xs
    filled_calls xs = changed_same (λ (z : Receive). z.call) (is_made_by r.call) (filled place item.bytes) xs (λ z. refl)

    -- the mark of the item
    abbrev mark : Mark
    mark = mark_at source (slice_index s.rx.tails source) item

    has_now : (f : Receive) → IsMulti (rs ++ m) f → r.call ≡ f.call → In (mark, place) (placed (length f.buf) f.call (es ++ past))
    has_now f multi e =
        let mine : IsMulti m f = earlier v past es m rs o s.calls up one new old_calls got_before f multi (omega (arith, old_calls into.0.first into.0.asked, into.0.call, e)) in
        let k = has f mine e in
        placed_more past o es up (length f.buf) f.call (mark, place) (subst (λ (y : Mark). In {X = Mark × ℕ} (y, place) (placed (length f.buf) f.call past)) (is_mark f k.0 k.1 k.2 k.3) k.1)
      where
        is_mark : (f : Receive) (y : Mark) → In (y, place) (placed (length f.buf) f.call past) → y.source ≡ source → y.place ≡ slice_index s.rx.tails source → y ≡ mark
        is_mark f y i here number =
            let g = placed_got (length f.buf) f.call y place past i in
            let has = got_came g.0 y g.1 g.2 in
            let there : slice_get (v.ready source) (slice_index s.rx.tails source) ≡ Some has.0 = subst (λ (k : ℕ). slice_get (v.ready source) k ≡ Some has.0) number (subst (λ (q : ℕ). slice_get (v.ready q) y.place ≡ Some has.0) here has.1) in
            let same : has.0 ≡ item = some_same has.0 item (sym there ∙ at) in
            let head : y.head ≡ item.head = sym has.2 ∙ ap (λ (z : Item). z.head) same in
            λ j. record { source = here j; place = number j; head = head j }

    filling_by : (n : Option ℕ) → r.least ≡ n → Open v (es ++ past) (rs ++ m) (whole_rx (let xs : List Receive = elim n [ None ↦ s.rx.posted | Some _ ↦ change_first (is_made_by r.call) (filled place item.bytes) s.rx.posted ] in xs) (let xs : List Receive = elim n [ None ↦ s.rx.closing | Some _ ↦ change_first (is_made_by r.call) (filled place item.bytes) s.rx.closing ] in xs)) ws (λ c. c ≡ r.call)
    filling_by None single = rest s.rx.posted s.rx.closing refl refl (moved_holds v (raise s.rx.tails source) (λ c y p. IsComingAt s.rx c y p) (λ c y p. IsComingAt (whole_rx s.rx.posted s.rx.closing) c y p) (es ++ past) (rs ++ m) s.rx.posted s.rx.closing before
        (λ f multi y p c. elim (comes_on s.rx.posted s.rx.closing f.call y p c) [ inl comes ↦ comes | inr mine ↦ never (not_single_of f r multi into.0 mine.0 single) ]))
    filling_by (Some least) multi =
        let ps : List Receive = change_first (is_made_by r.call) (filled place item.bytes) s.rx.posted in
        let cs : List Receive = change_first (is_made_by r.call) (filled place item.bytes) s.rx.closing in
        rest ps cs (filled_calls s.rx.posted) (filled_calls s.rx.closing)
        (fill_holds v (raise s.rx.tails source) (λ c y p. IsComingAt s.rx c y p) (λ c y p. IsComingAt (whole_rx ps cs) c y p) (es ++ past) (rs ++ m) s.rx.posted s.rx.closing before r mark place item sized has_now at (omega (arith, raise_here s.rx.tails source within)) (λ c y p k. comes_on ps cs c y p k))

-- ---- each act

later : (v : View Item) (past : List Event) (m : List Receive) (rx : Receiving) (ws : List Written) (k : ℕ) → Open v past m rx ws (λ c. Never) → Open v past m rx ws (λ c. c ≡ k)
later v past m rx ws k was = record { holds = was.holds; busy = λ c i. elim (was.busy c i) [ inl b ↦ inl b | inr n ↦ never n ]; back = was.back; ends = was.ends }

-- a receive that is no multi-receive leaves the buffers of others
given_single : (r : Receive) (place : ℕ) (y : Arrival) (rx : Receiving) → r.least ≡ None → ((given r place y rx).posted ≡ rx.posted) × ((given r place y rx).closing ≡ rx.closing)
given_single r place y rx single = go y.bytes
  where
    go : (b : Option (List ℕ)) → (let x : Receiving = elim b [ None ↦ goes y.source (Into r place) rx | Some bytes ↦ filling r place bytes rx ] in (x.posted ≡ rx.posted) × (x.closing ≡ rx.closing))
    go None = (refl, refl)
    go (Some bytes) = (
      ap (λ (n : Option ℕ). let xs : List Receive = elim n [ None ↦ rx.posted | Some _ ↦ change_first (is_made_by r.call) (filled place bytes) rx.posted ] in xs) single,
      ap (λ (n : Option ℕ). let xs : List Receive = elim n [ None ↦ rx.closing | Some _ ↦ change_first (is_made_by r.call) (filled place bytes) rx.closing ] in xs) single,
    )

pub thrown_same : (y : Arrival) (rx : Receiving) → ((thrown y rx).posted ≡ rx.posted) × ((thrown y rx).closing ≡ rx.closing) × ((thrown y rx).tails ≡ rx.tails)
thrown_same y rx = go y.bytes
  where
    go : (b : Option (List ℕ)) → (let x : Receiving = elim b [ None ↦ goes y.source Throw rx | Some bytes ↦ rx ] in (x.posted ≡ rx.posted) × (x.closing ≡ rx.closing) × (x.tails ≡ rx.tails))
    go None = (refl, refl, refl)
    go (Some bytes) = (refl, refl, refl)

abbrev HandsNone : Written → Type 0
HandsNone w = handed_back w.entry ≡ None

entries_hand : (r : Receive) (place : ℕ) (y : Arrival) → Each HandsNone (entries_for r place y)
entries_hand r place y = go y.bytes
  where
    go : (b : Option (List ℕ)) → Each HandsNone (let ws : List Written = elim b [ None ↦ [] | Some bytes ↦ entry_for r place y.source y.head bytes ∷ [] ] in ws)
    go None = always
    go (Some bytes) = (entry_hands r place y.source y.head bytes, always)

plain_hand : (ws : List Written) → Each Plain ws → Each HandsNone ws
plain_hand ws each = each_so Plain HandsNone ws (λ w p. p.1) each

module _ (v : View Item) (past es : List Event) (h : List Handling) (m rs : List Receive) (s t : State) (one : (f g : Receive) → In f (rs ++ m) → In g (rs ++ m) → f.call ≡ g.call → f ≡ g) (new : (f : Receive) → In f rs → f.call ≡ s.calls)
    (old_calls : (f : Receive) → In f m → f.call < s.calls) (got_before : (c : ℕ) (x : Mark) (last : Bool) → In (Got c x last) past → c < s.calls) (stands : (r : Receive) → In r s.rx.posted → IsOf m r)
    (got_came : (c : ℕ) (y : Mark) (last : Bool) → In (Got c y last) past → HasItem v y) (flag : (c : ℕ) (y : Mark) (last : Bool) → In (Got c y last) es → last ≡ not (is_posted c t))
    (coming : (q : ℕ) (r : Receive) (place : ℕ) → coming_from s.rx q ≡ Some (Into r place) → IsInto m r place) (apart : (q r : Receive) → Ahead q r s.rx.posted → q.call ≡ r.call → Never) (apart_now : (q r : Receive) → Ahead q r t.rx.posted → q.call ≡ r.call → Never)
    (placing : Placing v past m s) (sized : (f : Receive) → IsMulti (rs ++ m) f → AreSized v (es ++ past) f) (room : (source k : ℕ) (item : Item) → slice_get (v.ready source) k ≡ Some item → (source < length s.rx.tails) × (source < length s.rx.coming))
    (truly : (y : Arrival) → In y s.rx.unexpected → Truly (told_by v past) s.rx.tails y) (opens : Opens v past m s) where
  abbrev GotIs : Option (Receive × Mark) → Type 0
  GotIs o = (c : ℕ) (y : Mark) (last : Bool) → In (Got c y last) (es ++ past) → In (Got c y last) past ⊎ ((r : Receive) × (o ≡ Some (r, y)) × (r.call ≡ c))

  abbrev Next : Type 0
  Next = Open v (es ++ past) (rs ++ m) t.rx t.cq.written (λ c. Never)

  abbrev WritesPlain : List Written → Type 0
  WritesPlain ws = (w : Written) → In w ws → In w s.cq.written ⊎ HandsNone w

  writes : (ws more : List Written) → ws ≡ s.cq.written ++ more → Each HandsNone more → WritesPlain ws
  writes ws more is each w i = elim (in_split w s.cq.written more (subst (In w) is i)) [ inl old ↦ inl old | inr fresh ↦ inr (each_in HandsNone more w each fresh) ]

  module _ (o : Option (Receive × Mark)) (up : Grows past o es) (does : Rows rs s t o) (flows : Flows v past h (rs ++ m) s t o) (got_is : GotIs o) where
    still : ((r : Receive) (y : Mark) → o ≡ Some (r, y) → r.least ≡ None) → ((z : Receive) → In z t.rx.posted → In z s.rx.posted ⊎ In z rs) → t.rx.closing ≡ s.rx.closing → SteadyTo s t.rx
        → ((w : Written) (c : ℕ) (buf : List ℕ) → In w t.cq.written → w.call ≡ Some c → handed_back w.entry ≡ Some buf → In w s.cq.written ⊎ Handed v (es ++ past) (rs ++ m) t.rx.tails t.rx.posted c w buf) → Next
    still least from same steady back = quiet v past es m rs s t o up does one new old_calls got_before stands got_is opens.now t.rx t.cq.written flows.tails flows.written
        (none_single v past es m rs s t o up does one new old_calls got_before stands got_is opens.now least) from apart_now same steady back

    -- the lists are as they were
    same_lists : ((r : Receive) (y : Mark) → o ≡ Some (r, y) → r.least ≡ None) → t.rx.posted ≡ s.rx.posted → t.rx.closing ≡ s.rx.closing → SteadyTo s t.rx → WritesPlain t.cq.written → Next
    same_lists least posted same steady plain = still least (λ z i. inl (subst (In z) posted i)) same steady
        (λ w c buf i call hands. elim (plain w i) [ inl old ↦ inl old | inr none ↦ absurd (let e : None ≡ Some buf = sym none ∙ hands in cc (e)) ])

    -- what comes to a receive for many messages has its place
    next_into : (q : ℕ) (r : Receive) (place : ℕ) → coming_from t.rx q ≡ Some (Into r place) → (f : Receive) → IsMulti (rs ++ m) f → r.call ≡ f.call → HasPlace (es ++ past) t.rx.tails f q r place
    next_into q r place e f multi number = elim (flows.starts q r place e) [
      | inl old ↦ (
          let is = coming q r place old.0 in
          let mine : IsMulti m f = earlier v past es m rs o s.calls up one new old_calls got_before f multi (omega (arith, old_calls is.0.first is.0.asked, is.0.call, number)) in
          let k = opens.into q r place old.0 f mine number in
          (k.0, placed_more past o es up (length f.buf) f.call (k.0, place) k.1, k.2, k.3 ∙ sym old.1, k.4))
      | inr fresh ↦ (
          let x = mark_at q (slice_index t.rx.tails q) fresh.0 in
          (x, subst (λ (p : ℕ). In {X = Mark × ℕ} (x, p) (placed (length f.buf) f.call (es ++ past))) (sym (sits fresh.0 (flows.given r x fresh.2) ∙ (spot x fresh.2 does).1)) (at x fresh.2 does), refl, refl, (spot x fresh.2 does).0))
    ]
      where
        at : (x : Mark) → o ≡ Some (r, x) → Rows rs s t o → In (x, used_in (length f.buf) f.call past) (placed (length f.buf) f.call (es ++ past))
        at x is (Stay back single) = let k = single r x is in never (not_single v past es m rs s t o up does one new old_calls got_before stands got_is opens.now f r multi (in_front r rs m k.1) number k.0)
        at x is (Join g made zero_used joined none) = absurd (let k : None ≡ Some (r, x) = sym none ∙ is in cc (k))
        at x is (Give g y whose here each seen) =
            let p : (g, y) ≡ (r, x) = some_same (g, y) (r, x) (sym whose ∙ is) in
            let of = stands r (subst (λ (z : Receive × Mark). In z.0 s.rx.posted) p here) in
            let first : of.first ≡ f = one of.first f (in_back of.first rs m of.asked) multi.0 (sym of.call ∙ number) in
            (placed_now past o es up (length f.buf) f.call r x multi.1.0 is (of.least ∙ ap (λ (z : Receive). z.least) first ∙ multi.1.1) number).0

        spot : (x : Mark) → o ≡ Some (r, x) → Rows rs s t o → (length r.buf ≡ length f.buf) × (r.used ≡ used_in (length f.buf) f.call past)
        spot x is (Stay back single) = let k = single r x is in never (not_single v past es m rs s t o up does one new old_calls got_before stands got_is opens.now f r multi (in_front r rs m k.1) number k.0)
        spot x is (Join g made zero_used joined none) = absurd (let k : None ≡ Some (r, x) = sym none ∙ is in cc (k))
        spot x is (Give g y whose here each seen) =
            let p : (g, y) ≡ (r, x) = some_same (g, y) (r, x) (sym whose ∙ is) in
            let i : In r s.rx.posted = subst (λ (z : Receive × Mark). In z.0 s.rx.posted) p here in
            let of = stands r i in
            let mine : IsMulti m f = earlier v past es m rs o s.calls up one new old_calls got_before f multi (omega (arith, old_calls of.first of.asked, of.call, number)) in
            placing.sized f mine.1.0 (seat_of r) mine.0 mine.1.1 (in_map seat_of r s.rx.posted i) number

        -- it comes to the place that the receive gives away next
        sits : (item : Item) → SettledAt v (rs ++ m) t r.call (mark_at q (slice_index t.rx.tails q) item) r.used → place ≡ r.used
        sits item (inl (g, comes, same, here)) = (let k : Some (Into r place) ≡ Some (Into g r.used) = sym e ∙ comes in cc (k))
        sits item (inr (w, i, (y, same, source, k, head, where_at))) = absurd (omega (arith, subst (λ (j : ℕ). y.k < slice_index t.rx.tails j) source y.whole, k))

  -- the receive is still posted exactly where it stays
  seen_of : (r : Receive) (x : Mark) → In r s.rx.posted → Rows rs s t (Some (r, x)) → is_posted r.call t ≡ stays x.head.total r
  seen_of r x i (Stay back single) = let k = single r x refl in let is = stands r i in absurd (omega (arith, new r k.1, is.call, old_calls is.first is.asked))
  seen_of r x i (Join g made zero_used joined none) = absurd (cc (none))
  seen_of r x i (Give g y whose there each seen) = let p : (g, y) ≡ (r, x) = some_same (g, y) (r, x) (sym whose) in subst (λ (z : Receive × Mark). is_posted z.0.call t ≡ stays z.1.head.total z.0) p seen

  -- ---- a receive draws a message that waits

  module _ (r : Receive) (y : Arrival) (found : find (draws s.rx.unexpected) s.rx.posted ≡ Some r) (first : find (takes r.want) s.rx.unexpected ≡ Some y) (up : Grows past (Some (r, mark_of y)) es) (does : Rows rs s t (Some (r, mark_of y))) (flows : Flows v past h (rs ++ m) s t (Some (r, mark_of y))) (got_is : GotIs (Some (r, mark_of y))) where
    abbrev drawing : Receiving
    drawing = without_first r.want (seating y.head.total r s.rx.unexpected s.rx)

    least : (n : ℕ) × (r.least ≡ Some n)
    least = some_least r.least (and_parts (is_some r.least) _ (found_in (draws s.rx.unexpected) s.rx.posted r found).1).0

    waits : Truly (told_by v past) s.rx.tails y
    waits = truly y (found_in (takes r.want) s.rx.unexpected y first).0

    like : (rx : Receiving) → t.rx.coming ≡ rx.coming → t.rx.tails ≡ rx.tails → t.rx.tails ≡ s.rx.tails → SteadyTo s rx
    like rx coming_is tails_are level q g place e =
        let k = level_steady v past h (rs ++ m) s t (Some (r, mark_of y)) flows level q g place e in
        (ap (λ (xs : List (Option Coming)). get_or xs q None) (sym coming_is) ∙ k.0, ap (λ (xs : List ℕ). slice_index xs q) (sym tails_are) ∙ k.1)

    drawn : (b : Option (List ℕ)) → y.bytes ≡ b → (let rx : Receiving = elim b [ None ↦ goes y.source (Into r r.used) drawing | Some bytes ↦ filling r r.used bytes drawing ] in
        let ws : List Written = s.cq.written ++ (let zs : List Written = elim b [ None ↦ [] | Some bytes ↦ entry_for r r.used y.source y.head bytes ∷ [] ] in zs) in
        t.rx.coming ≡ rx.coming → t.rx.tails ≡ rx.tails → Open v (es ++ past) (rs ++ m) rx ws (λ c. c ≡ r.call))
    drawn None e coming_is tails_are =
        let rx : Receiving = goes y.source (Into r r.used) drawing in
        let w = waits.1 e in
        later v (es ++ past) (rs ++ m) rx (s.cq.written ++ []) r.call
        (seat_open v past es m rs s t (Some (r, mark_of y)) up does one new old_calls got_before stands got_is opens.now (draws s.rx.unexpected) r (mark_of y) found refl apart placing flag (seen_of r (mark_of y) (found_in (draws s.rx.unexpected) s.rx.posted r found).0 does)
        rx (s.cq.written ++ []) (λ q. omega arith) (λ z i. in_front z s.cq.written [] i) (writes (s.cq.written ++ []) [] refl always) refl refl (like rx coming_is tails_are tails_are)
        (r, get_or-set_same s.rx.coming y.source (Some (Into r r.used)) None (room y.source y.place w.1.0 w.1.1.0).1, refl, w.0))
    drawn (Some bytes) e coming_is tails_are =
        let w = waits.0 bytes e in
        subst (λ (bs : List ℕ). Open v (es ++ past) (rs ++ m) (filling r r.used bs drawing) (s.cq.written ++ entry_for r r.used y.source y.head bs ∷ []) (λ c. c ≡ r.call)) w.3
        (by_least r.least least.1 w.0 w.1.0 w.2)
      where
        by_least : (n : Option ℕ) → n ≡ Some least.0 → (item : Item) → slice_get (v.ready y.source) y.place ≡ Some item → y.place < slice_index s.rx.tails y.source
            → Open v (es ++ past) (rs ++ m) (record drawing {
              posted = elim n [ None ↦ drawing.posted | Some _ ↦ change_first (is_made_by r.call) (filled r.used item.bytes) drawing.posted ];
              closing = elim n [ None ↦ drawing.closing | Some _ ↦ change_first (is_made_by r.call) (filled r.used item.bytes) drawing.closing ];
            }) (s.cq.written ++ entry_for r r.used y.source y.head item.bytes ∷ []) (λ c. c ≡ r.call)
        by_least None f item at whole_now = absurd (cc (f))
        by_least (Some k) f item at whole_now =
            let rx : Receiving = record drawing { posted = change_first (is_made_by r.call) (filled r.used item.bytes) drawing.posted; closing = change_first (is_made_by r.call) (filled r.used item.bytes) drawing.closing } in
            let ws : List Written = s.cq.written ++ entry_for r r.used y.source y.head item.bytes ∷ [] in
            fill_open v past es m rs s t (Some (r, mark_of y)) up does one new old_calls got_before stands got_is opens.now (draws s.rx.unexpected) r (mark_of y) found refl apart placing flag (seen_of r (mark_of y) (found_in (draws s.rx.unexpected) s.rx.posted r found).0 does)
            rx ws item (λ q. omega arith) (λ z i. in_front z s.cq.written (entry_for r r.used y.source y.head item.bytes ∷ []) i) (writes ws (entry_for r r.used y.source y.head item.bytes ∷ []) refl (entry_hands r r.used y.source y.head item.bytes, always)) refl refl
            (like rx coming_is tails_are tails_are) least.0 least.1 sized at whole_now

  -- ---- a receive is cancelled

  module _ (test : Receive → Bool) (r : Receive) (found : find (may_leave s.rx test) s.rx.posted ≡ Some r) where
    idle : Busy s.rx r.call → Never
    idle b = absurd (
        let leaves = (and_parts (test r) (not (under_way s.rx r.call)) (found_in (may_leave s.rx test) s.rx.posted r found).1).1 in
        let busy : not (under_way s.rx r.call) ≡ false = ap not (under_way_by s.rx r.call b) in
        cc (leaves, busy))

    gone : (z : Receive) → In z (remove_first (may_leave s.rx test) s.rx.posted) → z.call ≡ r.call → Never
    gone z i = (in_parts s.rx.posted apart (may_leave s.rx test) r found z (subst (In z) (split s.rx.posted apart (may_leave s.rx test) r found).removed i)).1

    cancelled : Handed v past m s.rx.tails [] r.call (cancelled_entry r) r.buf
    cancelled = record {
      off = λ i. i;
      known = (let is = stands r (found_in (may_leave s.rx test) s.rx.posted r found).0 in (is.first, is.asked, sym is.call));
      holds = λ f multi e. (
          let b = opens.now.holds.posted f r multi (found_in (may_leave s.rx test) s.rx.posted r found).0 (sym e) in
          (b.long, λ x p i. elim (b.parts x p i) [ inl comes ↦ never (idle (x.source, comes.0, p, comes.1, comes.2 ∙ e)) | inr has ↦ has ], λ k le. b.rest k le));
      release = λ f multi e ctx used is. absurd (cc (is));
    }

  -- ---- all acts

  pub next_open : (x : Deed) (did : Act v s x t) → ((p : Posting) → x ≡ Makes (Some (Post p)) → t.calls ≡ s.calls + 1 → In (receive_of s p) rs)
      → Grows past (subject v s x t did) es → Rows rs s t (subject v s x t did) → Flows v past h (rs ++ m) s t (subject v s x t did) → GotIs (subject v s x t did) → Next
  unfolding keeping
  next_open x (Rests no_head idle_now) made up does flows got_is = same_lists None up does flows got_is (λ r y e. absurd (cc (e))) (ap (λ (z : Receiving). z.posted) idle_now.rx) (ap (λ (z : Receiving). z.closing) idle_now.rx)
      (level_steady v past h (rs ++ m) s t None flows (ap (λ (z : Receiving). z.tails) idle_now.rx)) (writes t.cq.written idle_now.more idle_now.written (plain_hand idle_now.more idle_now.plain))
  next_open x (Posts p is calls_now rx written) made up does flows got_is = still None up does flows got_is (λ r y e. absurd (cc (e)))
      (λ z i. elim (in_end z (receive_of s p) s.rx.posted (subst (In z) (ap (λ (z : Receiving). z.posted) rx) i)) [ inl old ↦ inl old | inr e ↦ inr (subst (λ (k : Receive). In k rs) (sym e) (made p is calls_now)) ])
      (ap (λ (z : Receiving). z.closing) rx) (level_steady v past h (rs ++ m) s t None flows (ap (λ (z : Receiving). z.tails) rx)) (λ w c buf i call hands. inl (subst (In w) written i))
  next_open x (Gets p y is calls_now single found rx written) made up does flows got_is =
      let r : Receive = receive_of s p in
      let before_it : Receiving = without_first r.want s.rx in
      let g = given_single r 0 y before_it single in
      same_lists (Some (r, mark_of y)) up does flows got_is (λ q z e. subst (λ (k : Receive × Mark). k.0.least ≡ None) (some_same (r, mark_of y) (q, z) e) single) (ap (λ (z : Receiving). z.posted) rx ∙ g.0) (ap (λ (z : Receiving). z.closing) rx ∙ g.1)
      (level_steady v past h (rs ++ m) s t (Some (r, mark_of y)) flows (ap (λ (z : Receiving). z.tails) rx ∙ (leaves_given r 0 y before_it).tails)) (writes t.cq.written (entries_for r 0 y) written (entries_hand r 0 y))
  next_open x (Claims source tag ignore ctx y w is calls_now found rx written plain) made up does flows got_is = same_lists None up does flows got_is (λ r z e. absurd (cc (e))) (ap (λ (z : Receiving). z.posted) rx) (ap (λ (z : Receiving). z.closing) rx)
      (level_steady v past h (rs ++ m) s t None flows (ap (λ (z : Receiving). z.tails) rx)) (writes t.cq.written (w ∷ []) written (plain.1, always))
  next_open x (Discards source tag ignore ctx y w is calls_now found rx written plain) made up does flows got_is =
      let k = thrown_same y _ in
      same_lists None up does flows got_is (λ r z e. absurd (cc (e))) (ap (λ (z : Receiving). z.posted) rx ∙ k.0) (ap (λ (z : Receiving). z.closing) rx ∙ k.1) (level_steady v past h (rs ++ m) s t None flows (ap (λ (z : Receiving). z.tails) rx ∙ k.2)) (writes t.cq.written (w ∷ []) written (plain.1, always))
  next_open x (Takes buf ctx y is calls_now found rx written) made up does flows got_is =
      let r : Receive = taking s buf ctx in
      let before_it : Receiving = without_claim ctx s.rx in
      let g = given_single r 0 y before_it refl in
      same_lists (Some (r, mark_of y)) up does flows got_is (λ q z e. subst (λ (k : Receive × Mark). k.0.least ≡ None) (some_same (r, mark_of y) (q, z) e) refl) (ap (λ (z : Receiving). z.posted) rx ∙ g.0) (ap (λ (z : Receiving). z.closing) rx ∙ g.1)
      (level_steady v past h (rs ++ m) s t (Some (r, mark_of y)) flows (ap (λ (z : Receiving). z.tails) rx ∙ (leaves_given r 0 y before_it).tails)) (writes t.cq.written (entries_for r 0 y) written (entries_hand r 0 y))
  next_open x (Drops ctx y w is calls_now found rx written plain) made up does flows got_is =
      let k = thrown_same y _ in
      same_lists None up does flows got_is (λ r z e. absurd (cc (e))) (ap (λ (z : Receiving). z.posted) rx ∙ k.0) (ap (λ (z : Receiving). z.closing) rx ∙ k.1) (level_steady v past h (rs ++ m) s t None flows (ap (λ (z : Receiving). z.tails) rx ∙ k.2)) (writes t.cq.written (w ∷ []) written (plain.1, always))
  next_open x (Cancels c test r is which calls_now found rx written) made up does flows got_is = still None up does flows got_is (λ q y e. absurd (cc (e)))
      (λ z i. inl (in_removed (may_leave s.rx test) s.rx.posted z (subst (In z) (ap (λ (z : Receiving). z.posted) rx) i))) (ap (λ (z : Receiving). z.closing) rx) (level_steady v past h (rs ++ m) s t None flows (ap (λ (z : Receiving). z.tails) rx))
      (λ w d buf i call hands. elim (in_end w (cancelled_entry r) s.cq.written (subst (In w) written i)) [
        | inl old ↦ inl old
        | inr e ↦ inr (
            let number : r.call ≡ d = some_same r.call d (ap (λ (z : Written). z.call) (sym e) ∙ call) in
            let bytes : r.buf ≡ buf = some_same r.buf buf (ap (λ (z : Written). handed_back z.entry) (sym e) ∙ hands) in
            subst (λ (z : Written). Handed v (es ++ past) (rs ++ m) t.rx.tails t.rx.posted d z buf) (sym e)
            (subst (λ (k : ℕ). Handed v (es ++ past) (rs ++ m) t.rx.tails t.rx.posted k (cancelled_entry r) buf) number
            (subst (λ (xs : List ℕ). Handed v (es ++ past) (rs ++ m) t.rx.tails t.rx.posted r.call (cancelled_entry r) xs) bytes
            (handed_level v past es m rs None s.calls up one new old_calls got_before s.rx.tails t.rx.tails [] t.rx.posted r.call (cancelled_entry r) r.buf flows.tails
            (λ j. (let z = mapped (λ (k : Receive). k.call) r.call t.rx.posted j in gone test r found z.0 (subst (In z.0) (ap (λ (z : Receiving). z.posted) rx) z.1) (sym z.2)))
            (λ q y g same. absurd (cc (g))) (cancelled test r found)))))
      ])
  next_open x (Seats source item r is arrives message found rx written) made up does flows got_is =
      let y : Mark = record { source = source; place = slice_index s.rx.heads source; head = item.head } in
      let there_r = (found_in (is_wanted source item.head) s.rx.posted r found).0 in
      seat_open v past es m rs s t (Some (r, y)) up does one new old_calls got_before stands got_is opens.now (is_wanted source item.head) r y found refl apart placing flag (seen_of r y there_r does)
      t.rx t.cq.written flows.tails flows.written (λ w i. inl (subst (In w) written i)) (ap (λ (z : Receiving). z.posted) rx) (ap (λ (z : Receiving). z.closing) rx) (level_steady v past h (rs ++ m) s t (Some (r, y)) flows (ap (λ (z : Receiving). z.tails) rx))
      (r, ap (λ (z : Receiving). coming_from z source) rx ∙ get_or-set_same s.rx.coming source (Some (Into r r.used)) None (room source (slice_index s.rx.heads source) item arrives.at).1, refl, arrives.level ∙ sym (ap (λ (z : Receiving). slice_index z.tails source) rx))
  next_open x (Waits source item is arrives message found rx written) made up does flows got_is = same_lists None up does flows got_is (λ r y e. absurd (cc (e))) (ap (λ (z : Receiving). z.posted) rx) (ap (λ (z : Receiving). z.closing) rx)
      (level_steady v past h (rs ++ m) s t None flows (ap (λ (z : Receiving). z.tails) rx)) (λ w i. inl (subst (In w) written i))
  next_open x (Passes source item c is arrives other no_into rx written) made up does flows got_is = same_lists None up does flows got_is (λ r y e. absurd (cc (e))) (ap (λ (z : Receiving). z.posted) rx) (ap (λ (z : Receiving). z.closing) rx)
      (level_steady v past h (rs ++ m) s t None flows (ap (λ (z : Receiving). z.tails) rx)) (λ w i. inl (subst (In w) written i))
  next_open x (Draws r y is found first mid is_mid rx written) made up does flows got_is =
      let m_now : Receiving = given r r.used y (without_first r.want (seating y.head.total r s.rx.unexpected s.rx)) in
      let ws : List Written = s.cq.written ++ entries_for r r.used y in
      let l = least r y found first up does flows got_is in
      let at_mid : Open v (es ++ past) (rs ++ m) mid ws (λ c. c ≡ r.call) = subst (λ (z : Receiving). Open v (es ++ past) (rs ++ m) z ws (λ c. c ≡ r.call)) (sym is_mid) (drawn r y found first up does flows got_is y.bytes refl
      (ap (λ (z : Receiving). z.coming) rx ∙ coming_out (leaving r mid) mid ∙ ap (λ (z : Receiving). z.coming) is_mid) (ap (λ (z : Receiving). z.tails) rx ∙ (leaves_out (leaving r mid) mid).tails ∙ ap (λ (z : Receiving). z.tails) is_mid)) in
      subst (λ (z : Receiving). Open v (es ++ past) (rs ++ m) z t.cq.written (λ c. Never)) (sym rx)
      (subst (λ (zs : List Written). Open v (es ++ past) (rs ++ m) (let_out (leaving r mid) mid) zs (λ c. Never)) (sym written)
      (lets_go v (es ++ past) (rs ++ m) mid ws r (λ none i. absurd (let e : None ≡ Some l.0 = sym none ∙ l.1 in cc (e))) at_mid))
  next_open x (Fills source item r place is ends from mid is_mid rx written) made up does flows got_is =
      let entry : Written = entry_for r place source item.head item.bytes in
      let ws : List Written = s.cq.written ++ entry ∷ [] in
      let into_r = coming source r place from in
      let at_mid : Open v (es ++ past) (rs ++ m) mid ws (λ c. c ≡ r.call) = subst (λ (z : Receiving). Open v (es ++ past) (rs ++ m) z ws (λ c. c ≡ r.call)) (sym is_mid)
      (filling_by v past es m rs s t None up does one new old_calls got_before stands got_is opens.now source r place item refl from into_r ends.at (room source (slice_index s.rx.tails source) item ends.at).0
      (λ f multi e. opens.into source r place from f multi e) sized got_came ws (λ w i. in_front w s.cq.written (entry ∷ []) i) (writes ws (entry ∷ []) refl (entry_hands r place source item.head item.bytes, always)) apart r.least refl) in
      subst (λ (z : Receiving). Open v (es ++ past) (rs ++ m) z t.cq.written (λ c. Never)) (sym rx)
      (subst (λ (zs : List Written). Open v (es ++ past) (rs ++ m) (let_out (leaving r mid) mid) zs (λ c. Never)) (sym written)
      (lets_go v (es ++ past) (rs ++ m) mid ws r (λ none i. (let f = at_mid.holds.known r.call i in not_single_of v past es m rs s t None up does one new old_calls got_before stands got_is opens.now f.0 r f.1 into_r.0 (sym f.2) none)) at_mid))
  next_open x (Joins source item is ends from rx written) made up does flows got_is = same_lists None up does flows got_is (λ r y e. absurd (cc (e))) (ap (λ (z : Receiving). z.posted) rx) (ap (λ (z : Receiving). z.closing) rx)
      (aside_steady s t source (ap is_into from) (ap (λ (z : Receiving). z.coming) rx) (ap (λ (z : Receiving). z.tails) rx)) (λ w i. inl (subst (In w) written i))
  next_open x (Closes source item more_ws is ends no_into no_keep rx written plain) made up does flows got_is = same_lists None up does flows got_is (λ r y e. absurd (cc (e))) (ap (λ (z : Receiving). z.posted) rx) (ap (λ (z : Receiving). z.closing) rx)
      (aside_steady s t source no_into (ap (λ (z : Receiving). z.coming) rx) (ap (λ (z : Receiving). z.tails) rx)) (writes t.cq.written more_ws written (plain_hand more_ws plain))

  pub next_opens : (x : Deed) (did : Act v s x t) → ((p : Posting) → x ≡ Makes (Some (Post p)) → t.calls ≡ s.calls + 1 → In (receive_of s p) rs)
      → Grows past (subject v s x t did) es → Rows rs s t (subject v s x t did) → Flows v past h (rs ++ m) s t (subject v s x t did) → GotIs (subject v s x t did) → Opens v (es ++ past) (rs ++ m) t
  next_opens x did made up does flows got_is = record {
    now = next_open x did made up does flows got_is;
    into = λ q r place e f multi number. next_into (subject v s x t did) up does flows got_is q r place e f multi number;
  }

-- ---- where more is seen, and at the opening

module _ (v w : View Item) (more : More v w) where
  holds_seen : (past : List Event) (tails : List ℕ) (f : Receive) (buf : List ℕ) → BufferHolds past v.ready tails f buf → BufferHolds past w.ready tails f buf
  holds_seen past tails f buf b = (b.0, λ x p i. (let has = b.1 x p i in (has.0, more_item v w x.source x.place has.0 more has.1, has.2, has.3)), b.2)

  buffer_seen : (tails : List ℕ) (comes : Mark → ℕ → Type 0) (past : List Event) (f : Receive) (buf : List ℕ) → Buffer v tails comes past f buf → Buffer w tails comes past f buf
  buffer_seen tails comes past f buf b = record {
    long = b.long;
    parts = λ x p i. elim (b.parts x p i) [ inl c ↦ inl c | inr has ↦ inr (has.0, more_item v w x.source x.place has.0 more has.1, has.2, has.3) ];
    rest = b.rest;
  }

  pub opens_seen : (past : List Event) (m : List Receive) (s : State) → Opens v past m s → Opens w past m s
  opens_seen past m s opens = record {
    now = record {
      holds = record {
        posted = λ f r multi i e. buffer_seen s.rx.tails (λ x p. IsComingAt s.rx f.call x p) past f r.buf (opens.now.holds.posted f r multi i e);
        closing = λ f r multi i e. (let c = opens.now.holds.closing f r multi i e in (buffer_seen s.rx.tails (λ x p. IsComingAt s.rx f.call x p) past f r.buf c.0, c.1));
        apart = opens.now.holds.apart;
        shut_apart = opens.now.holds.shut_apart;
        cross = opens.now.holds.cross;
        known = opens.now.holds.known;
      };
      busy = opens.now.busy;
      back = λ e c buf i call hands. (
          let k = opens.now.back e c buf i call hands in
          record { off = k.off; known = k.known; holds = λ f multi same. holds_seen past s.rx.tails f buf (k.holds f multi same); release = k.release });
      ends = opens.now.ends;
    };
    into = opens.into;
  }

pub fresh_opens : (conf : Conf) (av : List (Option ℕ)) (v : View Item) → Opens v [] [] (starting conf av)
fresh_opens conf av v = record {
  now = record {
    holds = record {
      posted = λ f r multi i e. never i;
      closing = λ f r multi i e. never i;
      apart = λ c d a. never a;
      shut_apart = λ c d a. never a;
      cross = λ c i j. never i;
      known = λ c i. never i;
    };
    busy = λ c i. never i;
    back = λ w c buf i call hands. never i;
    ends = λ f x multi i. never i;
  };
  into = λ q r place e f multi number. never multi.0;
}

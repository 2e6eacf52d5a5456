-- What a step makes of the buffers of receives for many messages, in parts: a receive takes a message, its bytes are written, the receive is let go.
--     Open v past m rx ws late      what is posted and closing, what comes, and which buffers entries handed back
--     level_holds, seat_holds, fill_holds, lets_go
use Rattle.std.proofs.Common.{◌≡◌, ◌≢◌, ◌≤◌, ◌<◌, ◌+◌, ◌-◌, ℕ, min, Bool, true, false, List, [], ◌∷◌, ◌++◌, length, slice_get, Option, Some, None, ◌⊎◌, inl, inr, refl, sym, ◌∙◌, ap, ap₂, subst, arith, append-nil}
use Rattle.std.specs.Prelude.{find, slice_index, ◌==◌}
use Rattle.std.proofs.lemmas.Bool.{cases_eq, eq-eqb, eqb-true}
use Rattle.fab_base.specs.declared.entries.Entry.TheVariants.{Released}
use Rattle.fab_base.specs.declared.entries.Taken.TheVariants.{Success}
use Rattle.fab_base.specs.declared.items.Item.{Item}
use Rattle.fab_base.specs.declared.operations.Receive.{Receive}
use Rattle.fab_base.specs.declared.operations.Written.{Written}
use Rattle.fab_model.specs.Matching.{change_first, remove_first}
use Rattle.fab_model.specs.State.{Receiving, under_way}
use Rattle.fab_model.specs.Complete.{filled, is_made_by}
use Rattle.fab_model.specs.Arrivals.{seated, shut, stays, used_up}
use Rattle.fab_model.specs.Views.{View}
use Rattle.fab_model.proofs.Parts.{some_same}
use Rattle.fab_laws.specs.Members.{Ahead, In, Never}
use Rattle.fab_laws.specs.Matched.{Event, Got, Mark}
use Rattle.fab_laws.specs.MessageLaws.{IsOf}
use Rattle.fab_laws.specs.MultiLaws.{BufferHolds, IsComingAt, handed_back, placed, release_of, used_in}
use Rattle.fab_laws.proofs.Counts.{in_split}
use Rattle.fab_laws.proofs.Lists.{ahead_end, changed_same, found_in, in_back, in_end, in_front, in_map, in_removed, mapped, map_append, never, none_passes}
use Rattle.fab_laws.proofs.receiving.Acts.{freed, leaving, let_out}
use Rattle.fab_laws.proofs.receiving.Opens.{AreSized, Buffer, Busy, Holds, IsMulti, Spent, buffer_fills, buffer_grows, buffer_new, busy_of, calls, changed_how, gone_from, level, placed_now, removed_ahead, removed_in, under_way_by}
use Rattle.fab_laws.proofs.receiving.Placing.{Grows, none_placed, seated_goes, seated_seats}

-- ---- words

-- the buffer that an entry of this call handed back
pub record Handed (v : View Item) (past : List Event) (m : List Receive) (tails : List ℕ) (ps : List Receive) (c : ℕ) (w : Written) (buf : List ℕ) : Type 0 where
  pub off : In c (calls ps) → Never
  pub known : (f : Receive) × In f m × (f.call ≡ c)
  pub holds : (f : Receive) → IsMulti m f → f.call ≡ c → BufferHolds past v.ready tails f buf
  pub release : (f : Receive) → IsMulti m f → f.call ≡ c → (ctx used : ℕ) → w.entry ≡ Success (Released ctx used buf) → (ctx ≡ f.ctx) × (used ≡ used_in (length f.buf) f.call past) × ((x : Mark) × In (Got f.call x true) past)

abbrev pub IsReleased : List Written → ℕ → Type 0
IsReleased ws call = (ctx : ℕ) × (used : ℕ) × (buf : List ℕ) × In (release_of call ctx used buf) ws

-- something comes to each receive that is closing, but for one that is late to be let go
pub record Open (v : View Item) (past : List Event) (m : List Receive) (rx : Receiving) (ws : List Written) (late : ℕ → Type 0) : Type 0 where
  pub holds : Holds v rx.tails (λ c x p. IsComingAt rx c x p) past m rx.posted rx.closing
  pub busy : (c : ℕ) → In c (calls rx.closing) → Busy rx c ⊎ late c
  pub back : (w : Written) (c : ℕ) (buf : List ℕ) → In w ws → w.call ≡ Some c → handed_back w.entry ≡ Some buf → Handed v past m rx.tails rx.posted c w buf
  pub ends : (f : Receive) (x : Mark) → IsMulti m f → In (Got f.call x true) past → IsReleased ws f.call ⊎ In f.call (calls rx.closing)

-- ---- a receive is let go

kept_from : (c d : ℕ) (xs : List Receive) → c ≢ d → In c (calls xs) → In c (calls (remove_first (is_made_by d) xs))
kept_from c d [] differ i = never i
kept_from c d (x ∷ xs) differ i = go (x.call == d) refl i (λ j. kept_from c d xs differ j)
  where
    go : (b : Bool) → (x.call == d) ≡ b → In c (calls (x ∷ xs)) → (In c (calls xs) → In c (calls (remove_first (is_made_by d) xs))) → In c (calls (let ys : List Receive = elim b [ true ↦ xs | false ↦ x ∷ remove_first (is_made_by d) xs ] in ys))
    go true e (inl same) more = absurd (differ (same ∙ eqb-true x.call d e))
    go true e (inr j) more = j
    go false e (inl same) more = inl same
    go false e (inr j) more = inr (more j)

module _ (v : View Item) (past : List Event) (m : List Receive) (rx : Receiving) (ws : List Written) (r : Receive) (single : r.least ≡ None → In r.call (calls rx.closing) → Never) (was : Open v past m rx ws (λ c. c ≡ r.call)) where
  abbrev After : Option Receive → Type 0
  After k = Open v past m (let_out k rx) (ws ++ freed k) (λ c. Never)

  none_late : (In r.call (calls rx.closing) → Busy rx r.call) → After None
  none_late busy = record {
    holds = was.holds;
    busy = λ c i. elim (was.busy c i) [ inl b ↦ inl b | inr e ↦ inl (subst (Busy rx) (sym e) (busy (subst (λ (d : ℕ). In d (calls rx.closing)) e i))) ];
    back = λ w c buf i. was.back w c buf (subst (In w) (append-nil ws) i);
    ends = λ f x i g. elim (was.ends f x i g) [ inl rel ↦ inl (rel.0, rel.1, rel.2, in_front (release_of f.call rel.0 rel.1 rel.2) ws [] rel.3) | inr j ↦ inr j ];
  }

  module _ (k : Receive) (found : find (is_made_by r.call) rx.closing ≡ Some k) (idle : under_way rx r.call ≡ false) where
    there : In k rx.closing
    there = (found_in (is_made_by r.call) rx.closing k found).0

    number : k.call ≡ r.call
    number = eqb-true k.call r.call (found_in (is_made_by r.call) rx.closing k found).1

    not_busy : Busy rx k.call → Never
    not_busy b = absurd (let e : under_way rx r.call ≡ true = subst (λ (c : ℕ). under_way rx c ≡ true) number (under_way_by rx k.call b) in cc (e, idle))

    handed : Handed v past m rx.tails rx.posted k.call (release_of k.call k.ctx k.used k.buf) k.buf
    handed = record {
      off = λ i. was.holds.cross k.call i (in_map (λ (z : Receive). z.call) k rx.closing there);
      known = (let f = was.holds.known k.call (in_map (λ (z : Receive). z.call) k rx.closing there) in (f.0, f.1.0, f.2));
      holds = λ f multi e. (
          let b = (was.holds.closing f k multi there (sym e)).0 in
          (b.long, λ x p i. elim (b.parts x p i) [ inl comes ↦ never (not_busy (x.source, comes.0, p, comes.1, comes.2 ∙ e)) | inr has ↦ has ], λ i le. b.rest i le));
      release = λ f multi e ctx used is. (
          let s = (was.holds.closing f k multi there (sym e)).1 in
          let c : k.ctx ≡ ctx = cc (is) in
          let u : k.used ≡ used = cc (is) in
          (sym c ∙ s.ctx, sym u ∙ s.used, s.last));
    }

    lets : After (Some k)
    lets = record {
      holds = record {
        posted = was.holds.posted;
        closing = λ f z multi i e. was.holds.closing f z multi (in_removed (is_made_by k.call) rx.closing z i) e;
        apart = was.holds.apart;
        shut_apart = λ c d a. was.holds.shut_apart c d (removed_ahead (λ (z : Receive). z.call) (is_made_by k.call) rx.closing c d a);
        cross = λ c i j. was.holds.cross c i (removed_in (λ (z : Receive). z.call) (is_made_by k.call) rx.closing c j);
        known = λ c i. was.holds.known c (removed_in (λ (z : Receive). z.call) (is_made_by k.call) rx.closing c i);
      };
      busy = λ c i. elim (was.busy c (removed_in (λ (z : Receive). z.call) (is_made_by k.call) rx.closing c i)) [
        | inl b ↦ inl b
        | inr e ↦ never (gone_from k.call rx.closing was.holds.shut_apart (subst (λ (d : ℕ). In d (calls (remove_first (is_made_by k.call) rx.closing))) (e ∙ sym number) i))
      ];
      back = λ w c buf i call hands. elim (in_end w (release_of k.call k.ctx k.used k.buf) ws i) [
        | inl old ↦ was.back w c buf old call hands
        | inr e ↦ (
            let d : Some k.call ≡ Some c = ap (λ (z : Written). z.call) (sym e) ∙ call in
            let b : Some k.buf ≡ Some buf = ap (λ (z : Written). handed_back z.entry) (sym e) ∙ hands in
            subst (λ (z : Written). Handed v past m rx.tails rx.posted c z buf) (sym e)
            (subst (λ (n : ℕ). Handed v past m rx.tails rx.posted n (release_of k.call k.ctx k.used k.buf) buf) (some_same k.call c d)
            (subst (λ (xs : List ℕ). Handed v past m rx.tails rx.posted k.call (release_of k.call k.ctx k.used k.buf) xs) (some_same k.buf buf b) handed)))
      ];
      ends = λ f x multi g. elim (was.ends f x multi g) [
        | inl rel ↦ inl (rel.0, rel.1, rel.2, in_front (release_of f.call rel.0 rel.1 rel.2) ws (freed (Some k)) rel.3)
        | inr j ↦ elim (cases_eq f.call k.call) [
          | inl same ↦ inl (k.ctx, k.used, k.buf, in_back (release_of f.call k.ctx k.used k.buf) ws (freed (Some k)) (inl (ap (λ (c : ℕ). release_of c k.ctx k.used k.buf) same)))
          | inr differ ↦ inr (kept_from f.call k.call rx.closing differ j)
        ]
      ];
    }

  pub lets_go : After (leaving r rx)
  lets_go = by_least r.least refl
    where
      by_way : (k : Receive) → find (is_made_by r.call) rx.closing ≡ Some k → (b : Bool) → under_way rx r.call ≡ b → After (elim b [ true ↦ None | false ↦ Some k ])
      by_way k found true busy = none_late (λ i. busy_of rx r.call busy)
      by_way k found false idle = lets k found idle

      by_find : (k : Option Receive) → find (is_made_by r.call) rx.closing ≡ k → After (elim k [ None ↦ None | Some k ↦ elim (under_way rx r.call) [ true ↦ None | false ↦ Some k ] ])
      by_find None none = none_late (λ i.
          let z = mapped (λ (z : Receive). z.call) r.call rx.closing i in
          absurd (let e : is_made_by r.call z.0 ≡ false = none_passes (is_made_by r.call) rx.closing z.0 none z.1 in let t : (z.0.call == r.call) ≡ true = eq-eqb z.0.call r.call (sym z.2) in cc (e, t)))
      by_find (Some k) found = by_way k found (under_way rx r.call) refl

      by_least : (n : Option ℕ) → r.least ≡ n → After (elim n [ None ↦ None | Some _ ↦ elim (find (is_made_by r.call) rx.closing) [ None ↦ None | Some k ↦ elim (under_way rx r.call) [ true ↦ None | false ↦ Some k ] ] ])
      by_least None e = none_late (λ i. never (single e i))
      by_least (Some n) e = by_find (find (is_made_by r.call) rx.closing) refl

-- ---- who is shut where a receive takes a message of this length

pub shut_is : (total : ℕ) (r z : Receive) → In z (shut total r) → (z ≡ used_up total r) × ((stays total r ≡ false) × ((least : ℕ) × (r.least ≡ Some least)))
shut_is total r z i = by_least r.least refl i
  where
    by_stays : (b : Bool) → stays total r ≡ b → (least : ℕ) → r.least ≡ Some least → In z (let xs : List Receive = elim b [ true ↦ [] | false ↦ used_up total r ∷ [] ] in xs) → (z ≡ used_up total r) × ((stays total r ≡ false) × ((n : ℕ) × (r.least ≡ Some n)))
    by_stays true e least l j = never j
    by_stays false e least l (inl same) = (same, (e, (least, l)))
    by_stays false e least l (inr j) = never j

    by_least : (n : Option ℕ) → r.least ≡ n → In z (let xs : List Receive = elim n [ None ↦ [] | Some _ ↦ elim (stays total r) [ true ↦ [] | false ↦ used_up total r ∷ [] ] ] in xs) → (z ≡ used_up total r) × ((stays total r ≡ false) × ((k : ℕ) × (r.least ≡ Some k)))
    by_least None e j = never j
    by_least (Some least) e j = by_stays (stays total r) refl least e j

pub in_shut : (total : ℕ) (r : Receive) (cs : List Receive) (c : ℕ) → In c (calls (cs ++ shut total r)) → In c (calls cs) ⊎ ((c ≡ r.call) × ((stays total r ≡ false) × ((least : ℕ) × (r.least ≡ Some least))))
in_shut total r cs c i =
    let z = mapped (λ (y : Receive). y.call) c (cs ++ shut total r) i in
    elim (in_split z.0 cs (shut total r) z.1) [
      | inl old ↦ inl (subst (λ (d : ℕ). In d (calls cs)) (sym z.2) (in_map (λ (y : Receive). y.call) z.0 cs old))
      | inr fresh ↦ (let k = shut_is total r z.0 fresh in inr (z.2 ∙ ap (λ (y : Receive). y.call) k.0, k.1))
    ]

-- ---- more is remembered

-- the step gives no message to a receive of this call
abbrev pub NotGiven : Option (Receive × Mark) → ℕ → Type 0
NotGiven o c = (r : Receive) (x : Mark) → o ≡ Some (r, x) → r.call ≡ c → Never

module _ (v : View Item) (past es : List Event) (m rs : List Receive) (o : Option (Receive × Mark)) (number : ℕ) (up : Grows past o es)
    (one : (f g : Receive) → In f (rs ++ m) → In g (rs ++ m) → f.call ≡ g.call → f ≡ g) (new : (f : Receive) → In f rs → f.call ≡ number) (old_calls : (f : Receive) → In f m → f.call < number)
    (got_before : (c : ℕ) (x : Mark) (last : Bool) → In (Got c x last) past → c < number) where
  -- a receive with an earlier number was asked for before
  pub earlier : (f : Receive) → IsMulti (rs ++ m) f → f.call < number → IsMulti m f
  earlier f (i, least) lt = elim (in_split f rs m i) [ inl made ↦ absurd (omega (arith, new f made, lt)) | inr j ↦ (j, least) ]

  -- a buffer that was handed back stays as it was
  pub handed_level : (tails tails' : List ℕ) (ps ps' : List Receive) (c : ℕ) (w : Written) (buf : List ℕ) → ((q : ℕ) → slice_index tails q ≤ slice_index tails' q) → (In c (calls ps') → Never) → NotGiven o c → Handed v past m tails ps c w buf → Handed v (es ++ past) (rs ++ m) tails' ps' c w buf
  handed_level tails tails' ps ps' c w buf more off none h = record {
    off = off;
    known = (h.known.0, in_back h.known.0 rs m h.known.1, h.known.2);
    holds = λ f multi e. (
        let b = h.holds f (mine f multi e) e in
        let l = level past o es up (length f.buf) f.call (λ r x is same. none r x is (same ∙ e)) in
        (b.0, λ x p i. (let has = b.1 x p (subst (In {X = Mark × ℕ} (x, p)) l.1 i) in (has.0, has.1, omega (arith, has.2, more x.source), has.3)), λ k le. b.2 k (omega (arith, le, l.0))));
    release = λ f multi e ctx used is. (
        let b = h.release f (mine f multi e) e ctx used is in
        let l = level past o es up (length f.buf) f.call (λ r x is same. none r x is (same ∙ e)) in
        (b.0, b.1 ∙ sym l.0, (b.2.0, in_back (Got f.call b.2.0 true) es past b.2.1)));
  }
    where
      mine : (f : Receive) → IsMulti (rs ++ m) f → f.call ≡ c → IsMulti m f
      mine f multi e = earlier f multi (omega (arith, old_calls h.known.0 h.known.1, h.known.2, e))

  module _ (tails tails' : List ℕ) (more : (q : ℕ) → slice_index tails q ≤ slice_index tails' q) (comes comes' : ℕ → Mark → ℕ → Type 0) (ps cs : List Receive) (before : (z : Receive) → In z ps → z.call < number) (holds : Holds v tails comes past m ps cs) where
    shut_before : (z : Receive) → In z cs → z.call < number
    shut_before z i = let f = holds.known z.call (in_map (λ (y : Receive). y.call) z cs i) in omega (arith, old_calls f.0 f.1.0, f.2)

    -- a receive that is given nothing
    grown : (f : Receive) → IsMulti (rs ++ m) f → (buf : List ℕ) → NotGiven o f.call → ((x : Mark) (p : ℕ) → comes f.call x p → comes' f.call x p) → Buffer v tails (comes f.call) past f buf → Buffer v tails' (comes' f.call) (es ++ past) f buf
    grown f multi buf none stays b = buffer_grows v tails tails' (comes f.call) (comes' f.call) past es o f buf up more stays (λ r x is same. never (none r x is same)) b

    spent : (f z : Receive) → NotGiven o f.call → Spent past f z → Spent (es ++ past) f z
    spent f z none s = record { ctx = s.ctx; used = s.used ∙ sym (level past o es up (length f.buf) f.call none).0; last = (s.last.0, in_back (Got f.call s.last.0 true) es past s.last.1) }

    known_more : (c : ℕ) → In c (calls cs) → (f : Receive) × IsMulti (rs ++ m) f × (f.call ≡ c)
    known_more c i = let f = holds.known c i in (f.0, (in_back f.0 rs m f.1.0, f.1.1), f.2)

    -- nothing for many messages is given
    pub level_holds : (ps' : List Receive) → ((f : Receive) → IsMulti (rs ++ m) f → NotGiven o f.call) → ((z : Receive) → In z ps' → In z ps ⊎ In z rs) → ((c d : ℕ) → Ahead c d (calls ps') → c ≡ d → Never)
        → ((f : Receive) → IsMulti (rs ++ m) f → (x : Mark) (p : ℕ) → comes f.call x p → comes' f.call x p) → Holds v tails' comes' (es ++ past) (rs ++ m) ps' cs
    level_holds ps' none from apart stays = record {
      posted = λ f z multi i e. elim (from z i) [
        | inl old ↦ grown f multi z.buf (none f multi) (stays f multi) (holds.posted f z (earlier f multi (omega (arith, before z old, e))) old e)
        | inr made ↦ (
            let same : z ≡ f = one z f (in_front z rs m made) multi.0 e in
            subst (λ (y : Receive). Buffer v tails' (comes' f.call) (es ++ past) f y.buf) (sym same)
            (buffer_new v tails' (comes' f.call) (es ++ past) f ((level past o es up (length f.buf) f.call (none f multi)).1 ∙ none_placed (length f.buf) f.call past (λ c x last l. omega (arith, got_before c x last l, new z made, e)))))
      ];
      closing = λ f z multi i e. (
          let c = holds.closing f z (earlier f multi (omega (arith, shut_before z i, e))) i e in
          (grown f multi z.buf (none f multi) (stays f multi) c.0, spent f z (none f multi) c.1));
      apart = apart;
      shut_apart = holds.shut_apart;
      cross = λ c i j. (
          let z = mapped (λ (y : Receive). y.call) c ps' i in
          elim (from z.0 z.1) [
            | inl old ↦ holds.cross c (subst (λ (d : ℕ). In d (calls ps)) (sym z.2) (in_map (λ (y : Receive). y.call) z.0 ps old)) j
            | inr made ↦ (let f = holds.known c j in absurd (omega (arith, old_calls f.0 f.1.0, f.2, new z.0 made, z.2)))
          ]);
      known = known_more;
    }

    -- the first posted receive that passes takes a message
    module _ (test : Receive → Bool) (r : Receive) (x : Mark) (found : find test ps ≡ Some r) (is : o ≡ Some (r, x)) (of : IsOf m r) (apart : (q z : Receive) → Ahead q z ps → q.call ≡ z.call → Never)
        (used : (f : Receive) → IsMulti m f → r.call ≡ f.call → (length r.buf ≡ length f.buf) × (r.used ≡ used_in (length f.buf) f.call past)) (got : stays x.head.total r ≡ false → (least : ℕ) → r.least ≡ Some least → In (Got r.call x true) (es ++ past)) where
      r_there : In r ps
      r_there = (found_in test ps r found).0

      not_other : (c : ℕ) → (c ≡ r.call → Never) → NotGiven o c
      not_other c other q y e same = other (sym same ∙ ap (λ (z : Receive × Mark). z.0.call) (some_same (q, y) (r, x) (sym e ∙ is)))

      -- so the receive that takes the message stands in no list of those shut before
      r_open : In r.call (calls cs) → Never
      r_open i = holds.cross r.call (in_map (λ (y : Receive). y.call) r ps r_there) i

      pub seat_holds : ((f : Receive) → IsMulti (rs ++ m) f → (y : Mark) (p : ℕ) → comes f.call y p → comes' f.call y p) → comes' r.call x r.used → Holds v tails' comes' (es ++ past) (rs ++ m) (seated test x.head.total r ps) (cs ++ shut x.head.total r)
      seat_holds moves given = record {
        posted = λ f z multi i e. elim (seated_seats ps apart test r found x.head.total z i) [
          | inl old ↦ grown f multi z.buf (not_other f.call (λ same. old.1 (e ∙ same))) (moves f multi) (holds.posted f z (earlier f multi (omega (arith, before z old.0, e))) old.0 e)
          | inr same ↦ subst (λ (y : Receive). Buffer v tails' (comes' f.call) (es ++ past) f y.buf) (sym same) (taken f multi (ap (λ (y : Receive). y.call) (sym same) ∙ e))
        ];
        closing = λ f z multi i e. elim (in_split z cs (shut x.head.total r) i) [
          | inl old ↦ (
              let none : NotGiven o f.call = not_other f.call (λ same. r_open (subst (λ (c : ℕ). In c (calls cs)) (e ∙ same) (in_map (λ (y : Receive). y.call) z cs old))) in
              let c = holds.closing f z (earlier f multi (omega (arith, shut_before z old, e))) old e in
              (grown f multi z.buf none (moves f multi) c.0, spent f z none c.1))
          | inr now ↦ (
              let k = shut_is x.head.total r z now in
              let mine : r.call ≡ f.call = ap (λ (y : Receive). y.call) (sym k.0) ∙ e in
              subst (λ (y : Receive). Buffer v tails' (comes' f.call) (es ++ past) f y.buf × Spent (es ++ past) f y) (sym k.0) (taken f multi mine, last f multi mine k.1.0 k.1.1.0 k.1.1.1))
        ];
        apart = λ c d a same. holds.apart c d (seated_ahead (stays x.head.total r) c d a) same;
        shut_apart = λ c d a same. shut_ahead c d a same;
        cross = λ c i j. (
            let z = mapped (λ (y : Receive). y.call) c (seated test x.head.total r ps) i in
            elim (in_shut x.head.total r cs c j) [
              | inl old ↦ elim (seated_seats ps apart test r found x.head.total z.0 z.1) [
                | inl was ↦ holds.cross c (subst (λ (d : ℕ). In d (calls ps)) (sym z.2) (in_map (λ (y : Receive). y.call) z.0 ps was.0)) old
                | inr now ↦ r_open (subst (λ (d : ℕ). In d (calls cs)) (z.2 ∙ ap (λ (y : Receive). y.call) now) old)
              ]
              | inr now ↦ seated_goes ps apart test r found x.head.total now.1.0 z.0 z.1 (sym z.2 ∙ now.0)
            ]);
        known = λ c i. elim (in_shut x.head.total r cs c i) [
          | inl old ↦ known_more c old
          | inr now ↦ (of.first, (in_back of.first rs m of.asked, (now.1.1.0, sym of.least ∙ now.1.1.1)), sym of.call ∙ sym now.0)
        ];
      }
        where
          mine_before : (f : Receive) → IsMulti (rs ++ m) f → r.call ≡ f.call → IsMulti m f
          mine_before f multi e = earlier f multi (omega (arith, before r r_there, e))

          taken : (f : Receive) → IsMulti (rs ++ m) f → r.call ≡ f.call → Buffer v tails' (comes' f.call) (es ++ past) f r.buf
          taken f multi e = buffer_grows v tails tails' (comes f.call) (comes' f.call) past es o f r.buf up more (moves f multi) (λ q y g same.
              let p : (r, x) ≡ (q, y) = some_same (r, x) (q, y) (sym is ∙ g) in
              subst (λ (k : ℕ). comes' f.call y k) (used f (mine_before f multi e) e).1 (subst (λ (c : ℕ). comes' c y r.used) e (subst (λ (z : Receive × Mark). comes' r.call z.1 r.used) p given)))
              (holds.posted f r (mine_before f multi e) r_there e)

          last : (f : Receive) → IsMulti (rs ++ m) f → r.call ≡ f.call → stays x.head.total r ≡ false → (least : ℕ) → r.least ≡ Some least → Spent (es ++ past) f (used_up x.head.total r)
          last f multi e shuts least l =
              let u = used f (mine_before f multi e) e in
              let same : of.first ≡ f = one of.first f (in_back of.first rs m of.asked) multi.0 (sym of.call ∙ e) in
              record {
                ctx = of.ctx ∙ ap (λ (z : Receive). z.ctx) same;
                used = ap₂ (λ (n k : ℕ). k + min x.head.total (n - k)) u.0 u.1 ∙ sym (placed_now past o es up (length f.buf) f.call r x least is l e).1;
                last = (x, subst (λ (c : ℕ). In (Got c x true) (es ++ past)) e (got shuts least l));
              }

          seated_ahead : (b : Bool) (c d : ℕ) → Ahead c d (calls (let zs : List Receive = elim b [ true ↦ change_first test (used_up x.head.total) ps | false ↦ remove_first test ps ] in zs)) → Ahead c d (calls ps)
          seated_ahead true c d a = subst (Ahead c d) (changed_same (λ (z : Receive). z.call) test (used_up x.head.total) ps (λ z. refl)) a
          seated_ahead false c d a = removed_ahead (λ (z : Receive). z.call) test ps c d a

          shut_ahead : (c d : ℕ) → Ahead c d (calls (cs ++ shut x.head.total r)) → c ≡ d → Never
          shut_ahead c d a same = by_least r.least a
            where
              by_stays : (b : Bool) → Ahead c d (calls (cs ++ (let xs : List Receive = elim b [ true ↦ [] | false ↦ used_up x.head.total r ∷ [] ] in xs))) → Never
              by_stays true a = holds.shut_apart c d (subst (λ (zs : List Receive). Ahead c d (calls zs)) (append-nil cs) a) same
              by_stays false a = elim (ahead_end c d r.call (calls cs) (subst (Ahead c d) (map_append (λ (z : Receive). z.call) cs (used_up x.head.total r ∷ [])) a)) [
                | inl b ↦ holds.shut_apart c d b same
                | inr (i, e) ↦ r_open (subst (λ (k : ℕ). In k (calls cs)) (same ∙ e) i)
              ]

              by_least : (n : Option ℕ) → Ahead c d (calls (cs ++ (let xs : List Receive = elim n [ None ↦ [] | Some _ ↦ elim (stays x.head.total r) [ true ↦ [] | false ↦ used_up x.head.total r ∷ [] ] ] in xs))) → Never
              by_least None a = holds.shut_apart c d (subst (λ (zs : List Receive). Ahead c d (calls zs)) (append-nil cs) a) same
              by_least (Some n) a = by_stays (stays x.head.total r) a

-- ---- bytes are written

module _ (v : View Item) (tails : List ℕ) (comes comes' : ℕ → Mark → ℕ → Type 0) (past : List Event) (m ps cs : List Receive) (holds : Holds v tails comes past m ps cs) where
  -- what comes elsewhere alone changes
  pub moved_holds : ((f : Receive) → IsMulti m f → (x : Mark) (p : ℕ) → comes f.call x p → comes' f.call x p) → Holds v tails comes' past m ps cs
  moved_holds stays = record {
    posted = λ f z multi i e. moved f multi z.buf (holds.posted f z multi i e);
    closing = λ f z multi i e. (let c = holds.closing f z multi i e in (moved f multi z.buf c.0, c.1));
    apart = holds.apart;
    shut_apart = holds.shut_apart;
    cross = holds.cross;
    known = holds.known;
  }
    where
      moved : (f : Receive) → IsMulti m f → (buf : List ℕ) → Buffer v tails (comes f.call) past f buf → Buffer v tails (comes' f.call) past f buf
      moved f multi buf b = record { long = b.long; parts = λ x p i. elim (b.parts x p i) [ inl c ↦ inl (stays f multi x p c) | inr has ↦ inr has ]; rest = b.rest }

  module _ (r : Receive) (x : Mark) (place : ℕ) (item : Item) (sized : (f : Receive) → IsMulti m f → AreSized v past f) (there : (f : Receive) → IsMulti m f → r.call ≡ f.call → In (x, place) (placed (length f.buf) f.call past))
      (at : slice_get (v.ready x.source) x.place ≡ Some item) (whole : x.place < slice_index tails x.source)
      (moves : (c : ℕ) (y : Mark) (q : ℕ) → comes c y q → comes' c y q ⊎ ((r.call ≡ c) × ((x.source ≡ y.source) × (x.place ≡ y.place) × (place ≡ q)))) where
    fills : (f : Receive) → IsMulti m f → r.call ≡ f.call → (buf : List ℕ) → Buffer v tails (comes f.call) past f buf → Buffer v tails (comes' f.call) past f (filled place item.bytes (record r { buf = buf })).buf
    fills f multi e buf b = buffer_fills v tails (comes f.call) (comes' f.call) past f buf x place item (sized f multi) (there f multi e) at whole (λ y q c. elim (moves f.call y q c) [ inl k ↦ inl k | inr k ↦ inr k.1 ]) b

    others : (f : Receive) → IsMulti m f → (r.call ≡ f.call → Never) → (buf : List ℕ) → Buffer v tails (comes f.call) past f buf → Buffer v tails (comes' f.call) past f buf
    others f multi other buf b = record { long = b.long; parts = λ y q i. elim (b.parts y q i) [ inl c ↦ elim (moves f.call y q c) [ inl k ↦ inl k | inr k ↦ never (other k.0) ] | inr has ↦ inr has ]; rest = b.rest }

    -- a receive whose buffer is not what is written
    same_calls : (xs : List Receive) → calls (change_first (is_made_by r.call) (filled place item.bytes) xs) ≡ calls xs
    same_calls xs = changed_same (λ (z : Receive). z.call) (is_made_by r.call) (filled place item.bytes) xs (λ z. refl)

    pub fill_holds : Holds v tails comes' past m (change_first (is_made_by r.call) (filled place item.bytes) ps) (change_first (is_made_by r.call) (filled place item.bytes) cs)
    fill_holds = record {
      posted = λ f z multi i e. elim (changed_how r.call (filled place item.bytes) ps holds.apart z i) [
        | inl (old, other) ↦ others f multi (λ same. other (e ∙ sym same)) z.buf (holds.posted f z multi old e)
        | inr (y, old, number, is) ↦ (
            let mine : y.call ≡ f.call = ap (λ (k : Receive). k.call) (sym is) ∙ e in
            subst (λ (k : Receive). Buffer v tails (comes' f.call) past f k.buf) (sym is) (fills f multi (sym number ∙ mine) y.buf (holds.posted f y multi old mine)))
      ];
      closing = λ f z multi i e. elim (changed_how r.call (filled place item.bytes) cs holds.shut_apart z i) [
        | inl (old, other) ↦ (let c = holds.closing f z multi old e in (others f multi (λ same. other (e ∙ sym same)) z.buf c.0, c.1))
        | inr (y, old, number, is) ↦ (
            let mine : y.call ≡ f.call = ap (λ (k : Receive). k.call) (sym is) ∙ e in
            let c = holds.closing f y multi old mine in
            subst (λ (k : Receive). Buffer v tails (comes' f.call) past f k.buf × Spent past f k) (sym is) (fills f multi (sym number ∙ mine) y.buf c.0, record { ctx = c.1.ctx; used = c.1.used; last = c.1.last }))
      ];
      apart = λ c d a. holds.apart c d (subst (Ahead c d) (same_calls ps) a);
      shut_apart = λ c d a. holds.shut_apart c d (subst (Ahead c d) (same_calls cs) a);
      cross = λ c i j. holds.cross c (subst (In c) (same_calls ps) i) (subst (In c) (same_calls cs) j);
      known = λ c i. holds.known c (subst (In c) (same_calls cs) i);
    }

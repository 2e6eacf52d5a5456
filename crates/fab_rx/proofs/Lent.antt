-- The buffer that is lent is that of the multi-receive which stands under the id.
use Rattle.std.proofs.Common.{◌≡◌, ℕ, ◌==◌, Bool, true, false, ◌||◌, List, [], ◌∷◌, ◌++◌, map, Option, Some, None, refl, sym, ap, ◌∙◌}
use Rattle.std.specs.Prelude.{find, is_some, IsSomeAnd}
use Rattle.std.specs.List.{AllZip, list_any}
use Rattle.std.proofs.lemmas.Bool.{eqb-true, eq-eqb}
use Rattle.std.proofs.lemmas.List.Folds.{list_any-append}
use Rattle.fab_base.specs.declared.items.Want.{Want}
use Rattle.fab_base.specs.declared.items.Sign.{Sign}
use Rattle.fab_base.specs.declared.operations.Receive.{Receive}
use Rattle.fab_model.specs.Complete.{is_made_by}
use Rattle.fab_match.specs.Matcher.{has_id}
use Rattle.fab_rx.specs.declared.stored.Waiting.{Waiting}
use Rattle.fab_rx.specs.declared.stored.Parcel.{Parcel}
use Rattle.fab_rx.specs.declared.stored.Begun.{Begun}
use Rattle.fab_rx.specs.Table.{Cells, at}
use Rattle.fab_rx.specs.Arriving.{Arriving, call_in, open_under}
use Rattle.fab_rx.specs.Stored.{IsKept, Sits, multi_of, waiting_of}
use Rattle.fab_rx.specs.Homes.{AreMulti, IsHome, Rests}
use Rattle.fab_rx.specs.Sharing.{multi_at, multi_in}
use Rattle.fab_rx.proofs.Known.{call_of_home}
use Rattle.fab_rx.proofs.Taking.{is_multi}

-- what is known of a receive by its id
record Stands (homes : ℕ → Option ℕ) (calls : ℕ → ℕ) (seats : Cells Waiting) (id : ℕ) (r : Receive) : Type 0 where
  pub seat : at seats id ≡ Some (waiting_of r)
  pub home : is_some r.least ≡ true → homes r.call ≡ Some id
  pub call : is_some r.least ≡ true → calls id ≡ r.call
  pub homeless : r.least ≡ None → homes r.call ≡ None

any_ids : {X : Type 0} (id : ℕ) (xs : List (ℕ × X)) → list_any (λ k. k == id) (map (λ p. p.0) xs) ≡ has_id id xs
any_ids id [] = refl
any_ids id (x ∷ xs) = ap (λ b. (x.0 == id) || b) (any_ids id xs)

any_both : {X Y : Type 0} (id : ℕ) (xs : List (ℕ × X)) (ys : List (ℕ × Y)) → (list_any (λ k. k == id) (map (λ p. p.0) xs) || list_any (λ k. k == id) (map (λ p. p.0) ys)) ≡ (has_id id xs || has_id id ys)
any_both id xs ys = rw (any_ids id xs, any_ids id ys) refl

module _ (ps : List (ℕ × Want)) (us : List (ℕ × Sign)) (room : ℕ) (seats : Cells Waiting) (parcels : Cells Parcel) (coming : List (Option Begun)) (v : Arriving) (kept : IsKept ps us room seats parcels coming v)
    (cs : List (ℕ × ℕ)) (m : AreMulti ps cs seats coming v.rx.posted v.rx.closing v.rx.coming v.next v.multis v.most) (id : ℕ) where
  abbrev Stand : ℕ → Receive → Type 0
  Stand = Stands m.homes m.calls seats

  posted_stands : (p : ℕ × Want) (r : Receive) → Sits seats p r → IsHome m.homes m.calls p r → Stand p.0 r
  posted_stands p r s h = record { seat = s.seat; home = λ some. by r.least refl some; call = h.call; homeless = λ none. h.home ∙ rw none refl }
    where
      by : (o : Option ℕ) → r.least ≡ o → is_some r.least ≡ true → m.homes r.call ≡ Some p.0
      by None e some = absurd (let no : false ≡ true = rw e at some in cc)
      by (Some least) e some = h.home ∙ rw e refl

  closing_stands : (xs : List (ℕ × ℕ)) (rs : List Receive) → AllZip (Rests m.homes m.calls seats) xs rs → AllZip Stand (map (λ p. p.0) xs) rs
  closing_stands [] [] t = tt
  closing_stands [] (r ∷ rs) t = absurd t
  closing_stands (x ∷ xs) [] t = absurd t
  closing_stands (x ∷ xs) (r ∷ rs) t =
      (record { seat = t.0.seat; home = λ some. t.0.home; call = λ some. t.0.call; homeless = λ none. absurd (let no : false ≡ true = rw none at t.0.multi in cc) }, closing_stands xs rs t.1)

  both_stand : (xs : List (ℕ × Want)) (rs : List Receive) → AllZip (Sits seats) xs rs → AllZip (IsHome m.homes m.calls) xs rs → AllZip Stand (map (λ p. p.0) xs ++ map (λ p. p.0) cs) (rs ++ v.rx.closing)
  both_stand [] [] t h = closing_stands cs v.rx.closing m.closing_rest
  both_stand [] (r ∷ rs) t h = absurd t
  both_stand (x ∷ xs) [] t h = absurd t
  both_stand (x ∷ xs) (r ∷ rs) t h = (posted_stands x r t.0 h.0, both_stand xs rs t.1 h.1)

  all_stand : AllZip Stand (map (λ p. p.0) ps ++ map (λ p. p.0) cs) (v.rx.posted ++ v.rx.closing)
  all_stand = both_stand ps v.rx.posted kept.receives m.posted_home

  -- a receive whose call is the last one under the id is a multi-receive, and stands there
  same_id : (k : ℕ) (r : Receive) → Stand k r → m.homes r.call ≡ Some id → (is_some r.least ≡ true) × (k ≡ id)
  same_id k r s home = by r.least refl
    where
      by : (o : Option ℕ) → r.least ≡ o → (is_some r.least ≡ true) × (k ≡ id)
      by None e = absurd (let no : None ≡ Some id = sym (s.homeless e) ∙ home in cc)
      by (Some least) e =
          let some : is_some r.least ≡ true = rw e refl in
          let both : Some k ≡ Some id = sym (s.home some) ∙ home in
          (some, cc)

  there : (k : ℕ) (r : Receive) → Stand k r → m.homes r.call ≡ Some id → (at seats id ≡ Some (waiting_of r)) × (is_some r.least ≡ true)
  there k r s home = let is = same_id k r s home in (ap (at seats) (sym is.1) ∙ s.seat, is.0)

  -- ---- none stands there

  module _ (none : multi_at seats id ≡ None) where
    no_receive : (call : ℕ) → m.homes call ≡ Some id → (xs : List ℕ) (rs : List Receive) → AllZip Stand xs rs → find (is_made_by call) rs ≡ None
    no_receive call home [] [] t = refl
    no_receive call home [] (r ∷ rs) t = absurd t
    no_receive call home (x ∷ xs) [] t = absurd t
    no_receive call home (x ∷ xs) (r ∷ rs) t = by (r.call == call) refl (no_receive call home xs rs t.1)
      where
        by : (b : Bool) → (r.call == call) ≡ b → find (is_made_by call) rs ≡ None → find (is_made_by call) (r ∷ rs) ≡ None
        by false e rest = rw e rest
        by true e rest =
            let is = there x r t.0 (ap m.homes (eqb-true r.call call e) ∙ home) in
            let empty : multi_of r ≡ None = sym (ap multi_in is.0) ∙ none in
            let some : is_some (multi_of r) ≡ true = by_least r.least refl is.1 in
            absurd (let no : false ≡ true = sym (ap is_some empty) ∙ some in cc)
          where
            by_least : (o : Option ℕ) → r.least ≡ o → is_some r.least ≡ true → is_some (multi_of r) ≡ true
            by_least None e some = absurd (let no : false ≡ true = rw e at some in cc)
            by_least (Some least) e some = rw e refl

    pub none_open : open_under id v ≡ None
    none_open = by (call_in v.multis id) refl
      where
        by : (o : Option ℕ) → call_in v.multis id ≡ o → open_under id v ≡ None
        by None e = rw e refl
        by (Some call) e = rw e (no_receive call (m.ids call ∙ m.back id call e) (map (λ p. p.0) ps ++ map (λ p. p.0) cs) (v.rx.posted ++ v.rx.closing) all_stand)

  -- ---- one stands there

  module _ (w : Waiting) (here : at seats id ≡ Some w) (multi : is_some w.multi ≡ true) where
    stored_as : (r : Receive) → at seats id ≡ Some (waiting_of r) → w ≡ waiting_of r
    stored_as r is = let both : Some w ≡ Some (waiting_of r) = sym here ∙ is in cc

    known : (k : ℕ) (r : Receive) → Stand k r → k ≡ id → (m.homes r.call ≡ Some id) × (m.calls id ≡ r.call)
    known k r s same =
        let is = stored_as r (ap (at seats) (sym same) ∙ s.seat) in
        let some : is_some r.least ≡ true = is_multi r (ap (λ (x : Waiting). is_some x.multi) (sym is) ∙ multi) in
        (s.home some ∙ ap (λ j. Some j) same, ap m.calls (sym same) ∙ s.call some)

    scan : (call : ℕ) → m.homes call ≡ Some id → m.calls id ≡ call → (xs : List ℕ) (rs : List Receive) → AllZip Stand xs rs → list_any (λ k. k == id) xs ≡ true → IsSomeAnd (find (is_made_by call) rs) (λ r. r.buf ≡ w.seat.buf)
    scan call home is [] [] t has = absurd (cc)
    scan call home is [] (r ∷ rs) t has = absurd t
    scan call home is (x ∷ xs) [] t has = absurd t
    scan call home is (x ∷ xs) (r ∷ rs) t has = by (r.call == call) refl (x == id) refl (λ more. scan call home is xs rs t.1 more)
      where
        by : (b : Bool) → (r.call == call) ≡ b → (d : Bool) → (x == id) ≡ d → (list_any (λ k. k == id) xs ≡ true → IsSomeAnd (find (is_made_by call) rs) (λ r. r.buf ≡ w.seat.buf)) → IsSomeAnd (find (is_made_by call) (r ∷ rs)) (λ r. r.buf ≡ w.seat.buf)
        by true e d f rest =
            let stored = stored_as r (there x r t.0 (ap m.homes (eqb-true r.call call e) ∙ home)).0 in
            rw e (sym (ap (λ (y : Waiting). y.seat.buf) stored))
        by false e true f rest =
            let same : r.call ≡ call = sym (known x r t.0 (eqb-true x id f)).1 ∙ is in
            absurd (let no : true ≡ false = sym (eq-eqb r.call call same) ∙ e in cc)
        by false e false f rest = rw e (rest (rw f at has))

    first : (xs : List ℕ) (rs : List Receive) → AllZip Stand xs rs → list_any (λ k. k == id) xs ≡ true → (call : ℕ) × (m.homes call ≡ Some id) × (m.calls id ≡ call)
    first [] [] t has = absurd (cc)
    first [] (r ∷ rs) t has = absurd t
    first (x ∷ xs) [] t has = absurd t
    first (x ∷ xs) (r ∷ rs) t has = by (x == id) refl (λ more. first xs rs t.1 more)
      where
        by : (b : Bool) → (x == id) ≡ b → (list_any (λ k. k == id) xs ≡ true → (call : ℕ) × (m.homes call ≡ Some id) × (m.calls id ≡ call)) → (call : ℕ) × (m.homes call ≡ Some id) × (m.calls id ≡ call)
        by true e rest = let is = known x r t.0 (eqb-true x id e) in (r.call, is.0, is.1)
        by false e rest = rest (rw e at has)

    pub lent : (has_id id ps || has_id id cs) ≡ true → IsSomeAnd (open_under id v) (λ r. r.buf ≡ w.seat.buf)
    lent has =
        let xs = map (λ p. p.0) ps ++ map (λ p. p.0) cs in
        let any : list_any (λ k. k == id) xs ≡ true = list_any-append (λ k. k == id) (map (λ p. p.0) ps) (map (λ p. p.0) cs) ∙ any_both id ps cs ∙ has in
        let c = first xs (v.rx.posted ++ v.rx.closing) all_stand any in
        let last : call_in v.multis id ≡ Some c.0 = call_of_home ps cs seats coming v.rx.posted v.rx.closing v.rx.coming v.next v.multis v.most m id c.0 c.1 c.2 in
        rw last (scan c.0 c.1 c.2 xs (v.rx.posted ++ v.rx.closing) all_stand any)

  -- where no id is there, none is open
  module _ (lacks : (has_id id ps || has_id id cs) ≡ false) where
    lacking : (call : ℕ) → m.homes call ≡ Some id → (xs : List ℕ) (rs : List Receive) → AllZip Stand xs rs → list_any (λ k. k == id) xs ≡ false → find (is_made_by call) rs ≡ None
    lacking call home [] [] t none = refl
    lacking call home [] (r ∷ rs) t none = absurd t
    lacking call home (x ∷ xs) [] t none = absurd t
    lacking call home (x ∷ xs) (r ∷ rs) t none = by (r.call == call) refl (x == id) refl (λ rest. lacking call home xs rs t.1 rest)
      where
        by : (b : Bool) → (r.call == call) ≡ b → (d : Bool) → (x == id) ≡ d → (list_any (λ k. k == id) xs ≡ false → find (is_made_by call) rs ≡ None) → find (is_made_by call) (r ∷ rs) ≡ None
        by true e d f rest =
            let is = same_id x r t.0 (ap m.homes (eqb-true r.call call e) ∙ home) in
            absurd (let no : true ≡ false = rw (eq-eqb x id is.1) at none in cc)
        by false e false f rest = rw e (rest (rw f at none))
        by false e true f rest = absurd (let no : true ≡ false = rw f at none in cc)

    pub none_stands : open_under id v ≡ None
    none_stands = by (call_in v.multis id) refl
      where
        any : list_any (λ k. k == id) (map (λ p. p.0) ps ++ map (λ p. p.0) cs) ≡ false
        any = list_any-append (λ k. k == id) (map (λ p. p.0) ps) (map (λ p. p.0) cs) ∙ any_both id ps cs ∙ lacks

        by : (o : Option ℕ) → call_in v.multis id ≡ o → open_under id v ≡ None
        by None e = rw e refl
        by (Some call) e = rw e (lacking call (m.ids call ∙ m.back id call e) (map (λ p. p.0) ps ++ map (λ p. p.0) cs) (v.rx.posted ++ v.rx.closing) all_stand any)

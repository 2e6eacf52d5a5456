-- What is known of multi-receives stays true, whatever happens.
use Rattle.std.proofs.Common.{◌≡◌, ◌≢◌, ◌⊎◌, inl, inr, ℕ, zero, suc, ◌+◌, ◌<◌, ◌≤◌, ◌==◌, Bool, true, false, ◌||◌, List, [], ◌∷◌, ◌++◌, length, Option, Some, None, get_or, set, refl, sym, ap, subst, ◌∙◌, arith, length-append, length-set}
use Rattle.std.specs.Prelude.{is_some, unwrap_or}
use Rattle.std.specs.Option.{option_map}
use Rattle.std.specs.List.{AllZip, AllByRecursion, list_any}
use Rattle.std.proofs.lemmas.Bool.{eqb-true, eq-eqb, ne_eqb}
use Rattle.std.proofs.lemmas.List.{get_or-set_other, get_or-set_same}
use Rattle.fab_base.specs.declared.items.Kind.{Kind}
use Rattle.fab_base.specs.declared.items.Kind.TheVariants.{Msg, TagMsg, WriteReq, ReadReq, AtomicReq, Reply}
use Rattle.fab_base.specs.declared.items.Want.{Want}
use Rattle.fab_base.specs.declared.operations.Receive.{Receive}
use Rattle.fab_base.specs.declared.operations.Coming.{Coming}
use Rattle.fab_base.specs.declared.operations.Coming.TheVariants.{Into as IntoReceive}
use Rattle.fab_model.specs.Matching.{remove_first}
use Rattle.fab_model.specs.State.{is_into}
use Rattle.fab_model.specs.Arrivals.{way_of}
use Rattle.fab_match.specs.Matcher.{has_id}
use Rattle.fab_rx.specs.declared.stored.Waiting.{Waiting}
use Rattle.fab_rx.specs.declared.stored.Way.{Way}
use Rattle.fab_rx.specs.declared.stored.Way.TheVariants.{Into, Part, Keep, Throw, Gather}
use Rattle.fab_rx.specs.declared.stored.Begun.{Begun}
use Rattle.fab_rx.specs.Table.{Cells, at}
use Rattle.fab_rx.specs.Stored.{IsKeptAs, IsKeptWay, Sits, turned, waiting_of}
use Rattle.fab_rx.specs.Arriving.{call_in, id_in}
use Rattle.fab_rx.specs.Numbers.{AreBelow, GoesElsewhere, IsNumbered}
use Rattle.fab_rx.specs.Leaving.{is_meant_at, may_leave_at}
use Rattle.fab_model.proofs.Firsts.{remove_first-none}
use Rattle.fab_base.specs.declared.operations.Arrival.{Arrival}
use Rattle.fab_base.proofs.Lists.{some_within as id_within}
use Rattle.fab_base.proofs.Numbers.{numbers_differ as eqb-false}
use Rattle.fab_rx.specs.Homes.{AreMulti, GoesHome, GoesHomeBy, IsFed, IsHome, IsPart, Rests, is_fed_by, is_part_of, no_pairs}
use Rattle.fab_rx.proofs.Tying.{same_or, retied, retied_but, tied_fresh, tied_push}
use Rattle.fab_rx.proofs.Keeping.{apart, at_other}
use Rattle.fab_rx.proofs.Apart.{apart_fewer, apart_join, apart_push, apart_rest, not_claimed}
use Rattle.fab_rx.proofs.Parting.{stored_where_kept}

-- ---- lists

-- where two lists agree, as far as a test goes, it passes in both or in none
pub any_alike : {A B : Type 0} → (f : Option A → Bool) (g : Option B → Bool) (xs : List (Option A)) (ys : List (Option B)) → length xs ≡ length ys → ((k : ℕ) → f (get_or xs k None) ≡ g (get_or ys k None)) → list_any f xs ≡ list_any g ys
any_alike f g [] [] long same = refl
any_alike f g [] (y ∷ ys) long same = absurd (omega arith)
any_alike f g (x ∷ xs) [] long same = absurd (omega arith)
any_alike f g (x ∷ xs) (y ∷ ys) long same = rw (same 0, any_alike f g xs ys (omega arith) (λ k. same (suc k))) refl

pub any_at : {A : Type 0} → (f : Option A → Bool) (xs : List (Option A)) (s : ℕ) → f None ≡ false → f (get_or xs s None) ≡ true → list_any f xs ≡ true
any_at f [] s none e = absurd (let no : true ≡ false = sym e ∙ none in cc)
any_at f (x ∷ xs) zero none e = rw e refl
any_at f (x ∷ xs) (suc s) none e = by (f x) refl (any_at f xs s none e)
  where
    by : (b : Bool) → f x ≡ b → list_any f xs ≡ true → list_any f (x ∷ xs) ≡ true
    by true is more = rw is refl
    by false is more = rw is more

-- a test that passed still does where it passes at the place that changed, or did not pass there
pub any_set : {A : Type 0} → (f : Option A → Bool) (xs : List (Option A)) (s : ℕ) (x : Option A) → (f (get_or xs s None) ≡ true → f x ≡ true) → list_any f xs ≡ true → list_any f (set xs s x) ≡ true
any_set f [] s x stays e = e
any_set f (y ∷ xs) zero x stays e = by (f y) refl
  where
    or_true : (b : Bool) → (b || true) ≡ true
    or_true true = refl
    or_true false = refl

    by : (b : Bool) → f y ≡ b → list_any f (x ∷ xs) ≡ true
    by true is = rw (stays is) refl
    by false is = let rest : list_any f xs ≡ true = rw is at e in rw rest (or_true (f x))
any_set f (y ∷ xs) (suc s) x stays e = by (f y) refl (λ rest. any_set f xs s x stays rest)
  where
    by : (b : Bool) → f y ≡ b → (list_any f xs ≡ true → list_any f (set xs s x) ≡ true) → list_any f (y ∷ set xs s x) ≡ true
    by true is more = rw is refl
    by false is more = let rest : list_any f xs ≡ true = rw is at e in rw is (more rest)

pub all_set : (xs : List (Option Begun)) (s : ℕ) (b : Option Begun) (cs : List (ℕ × ℕ)) → ((id : ℕ) → is_fed_by id (get_or xs s None) ≡ true → is_fed_by id b ≡ true) → AllByRecursion (IsFed xs) cs → AllByRecursion (IsFed (set xs s b)) cs
all_set xs s b [] stays a = tt
all_set xs s b (c ∷ cs) stays a = (any_set (is_fed_by c.0) xs s b (stays c.0) a.0, all_set xs s b cs stays a.1)

-- ---- what goes to a receive stays where the seats of multi-receives do

pub part_at : (homes : ℕ → Option ℕ) (calls : ℕ → ℕ) (seats others : Cells Waiting) (id : ℕ) (r : Receive) → at others id ≡ at seats id → IsPart homes calls seats id r → IsPart homes calls others id r
part_at homes calls seats others id r same p = record { multi = p.multi; home = p.home; call = p.call; there = p.there; seat = same ∙ p.seat; shared = p.shared; ctx = p.ctx; long = p.long }

home_by_at : (homes : ℕ → Option ℕ) (calls : ℕ → ℕ) (seats others : Cells Waiting) (way : Way) (c : Option Coming) → ((id : ℕ) (w : Waiting) → is_part_of id way ≡ true → at seats id ≡ Some w → is_some w.multi ≡ true → at others id ≡ at seats id) → GoesHomeBy homes calls seats way c → GoesHomeBy homes calls others way c
home_by_at homes calls seats others (Into seat) c same g = g
home_by_at homes calls seats others (Part id place bytes) c same g = (g.0, g.1, part_at homes calls seats others id g.0 (same id g.2.there (eq-eqb id id refl) g.2.seat g.2.shared) g.2)
home_by_at homes calls seats others (Keep id bytes) c same g = g
home_by_at homes calls seats others Throw c same g = g
home_by_at homes calls seats others (Gather bytes) c same g = g

pub home_at : (homes : ℕ → Option ℕ) (calls : ℕ → ℕ) (seats others : Cells Waiting) (b : Option Begun) (c : Option Coming) → ((id : ℕ) (w : Waiting) → is_fed_by id b ≡ true → at seats id ≡ Some w → is_some w.multi ≡ true → at others id ≡ at seats id)
    → GoesHome homes calls seats b c → GoesHome homes calls others b c
home_at homes calls seats others None c same g = g
home_at homes calls seats others (Some b) c same g = home_by_at homes calls seats others b.way c same g

-- the multi-receive under an id is another one, with the same context and as long a buffer
pub record IsLike (w x : Waiting) : Type 0 where
  pub shared : is_some w.multi ≡ true → is_some x.multi ≡ true
  pub ctx : x.seat.ctx ≡ w.seat.ctx
  pub long : length x.seat.buf ≡ length w.seat.buf

pub like_itself : (w : Waiting) → IsLike w w
like_itself w = record { shared = λ is. is; ctx = refl; long = refl }

pub part_like : (homes : ℕ → Option ℕ) (calls : ℕ → ℕ) (seats others : Cells Waiting) (id : ℕ) (r : Receive) → ((w : Waiting) → at seats id ≡ Some w → (x : Waiting) × (at others id ≡ Some x) × IsLike w x) → IsPart homes calls seats id r → IsPart homes calls others id r
part_like homes calls seats others id r like p =
    let now = like p.there p.seat in
    record { multi = p.multi; home = p.home; call = p.call; there = now.0; seat = now.1; shared = now.2.shared p.shared; ctx = now.2.ctx ∙ p.ctx; long = now.2.long ∙ p.long }

home_by_like : (homes : ℕ → Option ℕ) (calls : ℕ → ℕ) (seats others : Cells Waiting) (way : Way) (c : Option Coming) → ((id : ℕ) (w : Waiting) → is_part_of id way ≡ true → at seats id ≡ Some w → (x : Waiting) × (at others id ≡ Some x) × IsLike w x) → GoesHomeBy homes calls seats way c → GoesHomeBy homes calls others way c
home_by_like homes calls seats others (Into seat) c like g = g
home_by_like homes calls seats others (Part id place bytes) c like g = (g.0, g.1, part_like homes calls seats others id g.0 (λ w there. like id w (eq-eqb id id refl) there) g.2)
home_by_like homes calls seats others (Keep id bytes) c like g = g
home_by_like homes calls seats others Throw c like g = g
home_by_like homes calls seats others (Gather bytes) c like g = g

pub home_like : (homes : ℕ → Option ℕ) (calls : ℕ → ℕ) (seats others : Cells Waiting) (b : Option Begun) (c : Option Coming) → ((id : ℕ) (w : Waiting) → is_fed_by id b ≡ true → at seats id ≡ Some w → (x : Waiting) × (at others id ≡ Some x) × IsLike w x) → GoesHome homes calls seats b c → GoesHome homes calls others b c
home_like homes calls seats others None c like g = g
home_like homes calls seats others (Some b) c like g = home_by_like homes calls seats others b.way c like g

pub rests_at : (homes : ℕ → Option ℕ) (calls : ℕ → ℕ) (seats others : Cells Waiting) (c : ℕ × ℕ) (r : Receive) → at others c.0 ≡ at seats c.0 → Rests homes calls seats c r → Rests homes calls others c r
rests_at homes calls seats others c r same t = record { seat = same ∙ t.seat; ctx = t.ctx; multi = t.multi; home = t.home; call = t.call; fit = t.fit }

-- ---- an item goes to a posted receive exactly where it goes to its id

pub no_into : (call : ℕ) (kind : Kind) → is_into call (Some (way_of kind)) ≡ false
no_into call Msg = refl
no_into call TagMsg = refl
no_into call WriteReq = refl
no_into call ReadReq = refl
no_into call AtomicReq = refl
no_into call Reply = refl

-- the multi-receive that an item goes to is the posted one exactly where their ids are the same
part_same : (homes : ℕ → Option ℕ) (calls : ℕ → ℕ) (seats : Cells Waiting) (p : ℕ × Want) (r q : Receive) (id : ℕ) → Sits seats p r → IsHome homes calls p r → IsPart homes calls seats id q → (q.call == r.call) ≡ (id == p.0)
part_same homes calls seats p r q id sits is part = by r.least refl
  where
    alone : r.least ≡ None → id ≢ p.0
    alone none same =
        let both : Some part.there ≡ Some (waiting_of r) = sym part.seat ∙ ap (at seats) same ∙ sits.seat in
        let equal : part.there ≡ waiting_of r = cc in
        let no : false ≡ true = sym (rw none refl) ∙ sym (ap (λ (w : Waiting). is_some w.multi) equal) ∙ part.shared in
        absurd (cc)

    by : (o : Option ℕ) → r.least ≡ o → (q.call == r.call) ≡ (id == p.0)
    by None none =
        let other : q.call ≢ r.call = λ same. (let no : Some id ≡ None = sym part.home ∙ ap homes same ∙ is.home ∙ rw none refl in absurd (cc)) in
        ne_eqb q.call r.call other ∙ sym (ne_eqb id p.0 (alone none))
    by (Some least) some = by_call (q.call == r.call) refl
      where
        by_call : (b : Bool) → (q.call == r.call) ≡ b → (q.call == r.call) ≡ (id == p.0)
        by_call true e =
            let both : Some id ≡ Some p.0 = sym part.home ∙ ap homes (eqb-true q.call r.call e) ∙ is.home ∙ rw some refl in
            let same : id ≡ p.0 = cc in
            e ∙ sym (eq-eqb id p.0 same)
        by_call false e =
            let other : id ≢ p.0 = λ same. (let equal : q.call ≡ r.call = sym part.call ∙ ap calls same ∙ is.call (rw some refl) in let no : true ≡ false = sym (eq-eqb q.call r.call equal) ∙ e in absurd (cc)) in
            e ∙ sym (ne_eqb id p.0 other)

fed_by_way : (homes : ℕ → Option ℕ) (calls : ℕ → ℕ) (seats : Cells Waiting) (n : ℕ) (rs : List Receive) (p : ℕ × Want) (r : Receive) → Sits seats p r → IsHome homes calls p r → (way : Way) (c : Option Coming) → GoesElsewhere n (r ∷ rs) c → GoesHomeBy homes calls seats way c → is_into r.call c ≡ is_part_of p.0 way
fed_by_way homes calls seats n rs p r sits is (Into seat) c e g =
    let apart : GoesElsewhere n (r ∷ rs) (Some (IntoReceive g.0 0)) = subst (λ (o : Option Coming). GoesElsewhere n (r ∷ rs) o) g.1 e in
    rw g.1 (ne_eqb g.0.call r.call (λ same. (apart.1 g.2).0 (sym same)))
fed_by_way homes calls seats n rs p r sits is (Part id place bytes) c e g = rw g.1 (part_same homes calls seats p r g.0 id sits is g.2)
fed_by_way homes calls seats n rs p r sits is (Keep id bytes) c e g = rw g refl
fed_by_way homes calls seats n rs p r sits is Throw c e g = rw g refl
fed_by_way homes calls seats n rs p r sits is (Gather bytes) c e g = rw g.1 (no_into r.call g.0)

pub fed_same : (homes : ℕ → Option ℕ) (calls : ℕ → ℕ) (seats : Cells Waiting) (n : ℕ) (rs : List Receive) (p : ℕ × Want) (r : Receive) → Sits seats p r → IsHome homes calls p r → (b : Option Begun) (c : Option Coming) → GoesElsewhere n (r ∷ rs) c → GoesHome homes calls seats b c → is_into r.call c ≡ is_fed_by p.0 b
fed_same homes calls seats n rs p r sits is None c e g = rw g refl
fed_same homes calls seats n rs p r sits is (Some b) c e g = fed_by_way homes calls seats n rs p r sits is b.way c e g

pub not_fed : (ctx : Option ℕ) (seats : Cells Waiting) (coming : List (Option Begun)) (id : ℕ) → may_leave_at ctx seats coming id ≡ true → list_any (is_fed_by id) coming ≡ false
not_fed ctx seats coming id may = by (is_meant_at ctx (at seats id)) refl (list_any (is_fed_by id) coming) refl
  where
    by : (a : Bool) → is_meant_at ctx (at seats id) ≡ a → (b : Bool) → list_any (is_fed_by id) coming ≡ b → list_any (is_fed_by id) coming ≡ false
    by a is false fed = fed
    by true is true fed = absurd (let no : false ≡ true = rw (is, fed) at may in cc)
    by false is true fed = absurd (let no : false ≡ true = rw is at may in cc)

-- an item that is kept goes to no multi-receive
pub kept_unfed : (j id : ℕ) (way : Way) → IsKeptWay id way → is_part_of j way ≡ true → ⊥
kept_unfed j id (Into seat) k fed = k
kept_unfed j id (Part n place bytes) k fed = k
kept_unfed j id (Keep n bytes) k fed = absurd (cc)
kept_unfed j id Throw k fed = k
kept_unfed j id (Gather bytes) k fed = k

-- an id that left was there
pub has_without : {X : Type 0} → (id : ℕ) (xs rest : List (ℕ × X)) → rest ≡ remove_first (λ p. p.0 == id) xs → length rest + 1 ≡ length xs → has_id id xs ≡ true
has_without {X} id xs rest are shorter = by (has_id id xs) refl
  where
    by : (b : Bool) → has_id id xs ≡ b → has_id id xs ≡ true
    by true e = e
    by false e = absurd (let same : rest ≡ xs = are ∙ remove_first-none (λ p. p.0 == id) xs e in let long = ap length same in omega arith)

-- ---- what each step makes of it

module _ (ps : List (ℕ × Want)) (cs : List (ℕ × ℕ)) (seats : Cells Waiting) (coming : List (Option Begun)) (posted closing : List Receive) (comes : List (Option Coming)) (next : ℕ) (multis : List (ℕ × ℕ)) (most : ℕ) (m : AreMulti ps cs seats coming posted closing comes next multis most) where
  -- something else comes of a source
  module _ (s : ℕ) (b : Option Begun) (c : Option Coming) (below : s < length coming) (long : length comes ≡ length coming) (new : GoesHome m.homes m.calls seats b c) (stays : (id : ℕ) → is_fed_by id (get_or coming s None) ≡ true → is_fed_by id b ≡ true) where
    pub ways_change : (t : ℕ) → GoesHome m.homes m.calls seats (get_or (set coming s b) t None) (get_or (set comes s c) t None)
    ways_change t = by_source (same_or t s)
      where
        by_source : (t ≡ s) ⊎ (t ≢ s) → GoesHome m.homes m.calls seats (get_or (set coming s b) t None) (get_or (set comes s c) t None)
        by_source (inl same) = rw (same, get_or-set_same coming s b None below, get_or-set_same comes s c None (omega arith)) new
        by_source (inr other) = rw (get_or-set_other coming s t b None other, get_or-set_other comes s t c None other) (m.ways t)

    pub multi_change : (later : ℕ) → next ≤ later → AreMulti ps cs seats (set coming s b) posted closing (set comes s c) later multis most
    multi_change later le = record {
      homes = m.homes;
      calls = m.calls;
      posted_home = m.posted_home;
      closing_rest = m.closing_rest;
      distinct = m.distinct;
      apart = m.apart;
      ways = ways_change;
      live = all_set coming s b cs stays m.live;
      fresh = λ call above. m.fresh call (omega arith);
      plain = m.plain;
      ids = m.ids;
      numbers = m.numbers;
      back = m.back;
      spare = rw length-set m.spare;
    }

  pub multi_later : (later : ℕ) → next ≤ later → AreMulti ps cs seats coming posted closing comes later multis most
  multi_later later le = record {
    homes = m.homes;
    calls = m.calls;
    posted_home = m.posted_home;
    closing_rest = m.closing_rest;
    distinct = m.distinct;
    apart = m.apart;
    ways = m.ways;
    live = m.live;
    fresh = λ call above. m.fresh call (omega arith);
    plain = m.plain;
    ids = m.ids;
    numbers = m.numbers;
    back = m.back;
    spare = m.spare;
  }

  -- a receive leaves, to which no item is under way, and its place is free
  module _ (id : ℕ) (others : Cells Waiting) (is : others.cells ≡ set seats.cells id None) (more : others.spare ≡ seats.spare + 1) (rest : List (ℕ × Want)) (are : rest ≡ remove_first (λ p. p.0 == id) ps) (shorter : length rest + 1 ≡ length ps)
      (after : List Receive) (tied : AllZip (IsHome m.homes m.calls) rest after) (unfed : (s : ℕ) → is_fed_by id (get_or coming s None) ≡ true → ⊥) where
    pub not_closing : has_id id cs ≡ false
    not_closing = not_claimed ps cs id (has_without id ps rest are shorter) m.apart

    pub same_else : (k : ℕ) → k ≢ id → at others k ≡ at seats k
    same_else k other = at_other seats others id None is k other

    abbrev pub multi_gone : AreMulti rest cs others coming after closing comes next multis most
    multi_gone = record {
      homes = m.homes;
      calls = m.calls;
      posted_home = tied;
      closing_rest = retied_but (Rests m.homes m.calls seats) (Rests m.homes m.calls others) id cs closing (λ c r other t. rests_at m.homes m.calls seats others c r (same_else c.0 other) t) not_closing m.closing_rest;
      distinct = rw are (apart_rest (λ p. p.0 == id) no_pairs ps m.distinct);
      apart = rw are (apart_fewer (λ p. p.0 == id) ps cs m.apart);
      ways = λ s. home_at m.homes m.calls seats others (get_or coming s None) (get_or comes s None) (λ k w fed there shared. same_else k (λ same. unfed s (subst (λ (j : ℕ). is_fed_by j (get_or coming s None) ≡ true) same fed))) (m.ways s);
      live = m.live;
      fresh = m.fresh;
      plain = m.plain;
      ids = m.ids;
      numbers = m.numbers;
      back = m.back;
      spare = let spare = m.spare in omega arith;
    }

  -- a receive joins those posted
  module _ (id : ℕ) (want : Want) (empty : at seats id ≡ None) (r : Receive) (others : Cells Waiting) (is : others.cells ≡ set seats.cells id (Some (waiting_of r))) (fewer : others.spare + 1 ≡ seats.spare) (new : has_id id ps ≡ false) where
    pub occupied : (k : ℕ) (w : Waiting) → at seats k ≡ Some w → k ≢ id
    occupied k w there = apart seats id k None empty (λ none. let no : Some w ≡ None = sym there ∙ none in cc)

    same_as : (k : ℕ) → k ≢ id → at others k ≡ at seats k
    same_as k other = at_other seats others id (Some (waiting_of r)) is k other

    unclosed : has_id id cs ≡ false
    unclosed = tied_fresh (Rests m.homes m.calls seats) id cs closing (λ c q t. occupied c.0 (waiting_of q) t.seat) m.closing_rest

    pub multi_join : r.least ≡ None → next ≤ r.call → AreMulti (ps ++ (id, want) ∷ []) cs others coming (posted ++ r ∷ []) closing comes (r.call + 1) multis most
    multi_join single above = record {
      homes = m.homes;
      calls = m.calls;
      posted_home = tied_push (IsHome m.homes m.calls) ps posted (id, want) r m.posted_home (record { home = m.fresh r.call above ∙ rw single refl; call = λ some. absurd (let no : false ≡ true = rw single at some in cc) });
      closing_rest = retied (Rests m.homes m.calls seats) (Rests m.homes m.calls others) cs closing (λ c q t. rests_at m.homes m.calls seats others c q (same_as c.0 (occupied c.0 (waiting_of q) t.seat)) t) m.closing_rest;
      distinct = apart_join no_pairs ps (id, want) refl new m.distinct;
      apart = apart_push ps cs (id, want) unclosed m.apart;
      ways = λ s. home_at m.homes m.calls seats others (get_or coming s None) (get_or comes s None) (λ k w fed there shared. same_as k (occupied k w there)) (m.ways s);
      live = m.live;
      fresh = λ call later. m.fresh call (omega arith);
      plain = m.plain;
      ids = m.ids;
      numbers = m.numbers;
      back = m.back;
      spare = let spare = m.spare in let long = length-append ps ((id, want) ∷ []) in omega arith;
    }

    -- a multi-receive, which is known by its id from now on
    module _ (least : ℕ) (shares : r.least ≡ Some least) (above : next ≤ r.call) (numbers : IsNumbered posted comes next) where
      abbrev homes_then : ℕ → Option ℕ
      homes_then call = elim (call == r.call) [ true ↦ Some id | false ↦ m.homes call ]

      abbrev calls_then : ℕ → ℕ
      calls_then k = elim (k == id) [ true ↦ r.call | false ↦ m.calls k ]

      ids_then : (call : ℕ) → homes_then call ≡ id_in ((id, r.call) ∷ multis) call
      ids_then call = by (call == r.call) refl
        where
          by : (b : Bool) → (call == r.call) ≡ b → homes_then call ≡ id_in ((id, r.call) ∷ multis) call
          by true e = rw (e, eq-eqb r.call call (sym (eqb-true call r.call e)), homes_then) refl
          by false e = rw (e, ne_eqb r.call call (λ same. eqb-false call r.call e (sym same)), homes_then) (m.ids call)

      numbers_then : (k : ℕ) → calls_then k ≡ unwrap_or (call_in ((id, r.call) ∷ multis) k) 0
      numbers_then k = by (k == id) refl
        where
          by : (b : Bool) → (k == id) ≡ b → calls_then k ≡ unwrap_or (call_in ((id, r.call) ∷ multis) k) 0
          by true e = rw (e, eq-eqb id k (sym (eqb-true k id e)), calls_then) refl
          by false e = rw (e, ne_eqb id k (λ same. eqb-false k id e (sym same)), calls_then) (m.numbers k)

      -- the number of its call is new
      back_then : (k call : ℕ) → call_in ((id, r.call) ∷ multis) k ≡ Some call → id_in ((id, r.call) ∷ multis) call ≡ Some k
      back_then k call last = by (id == k) refl
        where
          by : (b : Bool) → (id == k) ≡ b → id_in ((id, r.call) ∷ multis) call ≡ Some k
          by true e =
              let both : Some r.call ≡ Some call = rw e at last in
              let same : r.call ≡ call = cc in
              rw (eq-eqb r.call call same) (ap (λ j. Some j) (eqb-true id k e))
          by false e =
              let known : id_in multis call ≡ Some k = m.back k call (rw e at last) in
              rw (ne_eqb r.call call (λ same. (let no : Some k ≡ None = sym known ∙ sym (m.ids call) ∙ ap m.homes (sym same) ∙ m.fresh r.call above in absurd (cc)))) known

      homes_else : (call : ℕ) → call ≢ r.call → homes_then call ≡ m.homes call
      homes_else call other = rw (ne_eqb call r.call other, homes_then) refl

      calls_else : (k : ℕ) → k ≢ id → calls_then k ≡ m.calls k
      calls_else k other = rw (ne_eqb k id other, calls_then) refl

      -- a multi-receive that was known has another number
      known_else : (call k : ℕ) → m.homes call ≡ Some k → call ≢ r.call
      known_else call k known same = let no : Some k ≡ None = sym known ∙ ap m.homes same ∙ m.fresh r.call above in absurd (cc)

      posted_then : (xs : List (ℕ × Want)) (ys : List Receive) → AllZip (IsHome m.homes m.calls) xs ys → AreBelow next ys → has_id id xs ≡ false → AllZip (IsHome homes_then calls_then) xs ys
      posted_then [] [] t below lacks = tt
      posted_then [] (y ∷ ys) t below lacks = absurd t
      posted_then (x ∷ xs) [] t below lacks = absurd t
      posted_then (x ∷ xs) (y ∷ ys) t below lacks = by (x.0 == id) refl (λ rest. posted_then xs ys t.1 below.1 rest)
        where
          by : (b : Bool) → (x.0 == id) ≡ b → (has_id id xs ≡ false → AllZip (IsHome homes_then calls_then) xs ys) → AllZip (IsHome homes_then calls_then) (x ∷ xs) (y ∷ ys)
          by true e more = absurd (let no : true ≡ false = rw e at lacks in cc)
          by false e more =
              let other : y.call ≢ r.call = λ same. (let lt = below.0 in absurd (omega arith)) in
              (record { home = homes_else y.call other ∙ t.0.home; call = λ some. calls_else x.0 (eqb-false x.0 id e) ∙ t.0.call some }, more (rw e at lacks))

      way_then : (way : Way) (c : Option Coming) → GoesElsewhere next posted c → GoesHomeBy m.homes m.calls seats way c → GoesHomeBy homes_then calls_then others way c
      way_then (Into seat) c e g =
          let elsewhere : GoesElsewhere next posted (Some (IntoReceive g.0 0)) = subst (λ (o : Option Coming). GoesElsewhere next posted o) g.1 e in
          (g.0, g.1, g.2, homes_else g.0.call (λ same. (let lt = elsewhere.0 in absurd (omega arith))) ∙ g.3)
      way_then (Part k place bytes) c e g =
          let p = g.2 in
          let other = occupied k p.there p.seat in
          (g.0, g.1, record { multi = p.multi; home = homes_else g.0.call (known_else g.0.call k p.home) ∙ p.home; call = calls_else k other ∙ p.call; there = p.there; seat = same_as k other ∙ p.seat; shared = p.shared; ctx = p.ctx; long = p.long })
      way_then (Keep k bytes) c e g = g
      way_then Throw c e g = g
      way_then (Gather bytes) c e g = g

      home_then : (b : Option Begun) (c : Option Coming) → GoesElsewhere next posted c → GoesHome m.homes m.calls seats b c → GoesHome homes_then calls_then others b c
      home_then None c e g = g
      home_then (Some b) c e g = way_then b.way c e g

      pub multi_opened : AreMulti (ps ++ (id, want) ∷ []) cs others coming (posted ++ r ∷ []) closing comes (r.call + 1) ((id, r.call) ∷ multis) most
      multi_opened = record {
        homes = homes_then;
        calls = calls_then;
        posted_home = tied_push (IsHome homes_then calls_then) ps posted (id, want) r (posted_then ps posted m.posted_home numbers.below new)
            (record { home = rw (eq-eqb r.call r.call refl, shares, homes_then) refl; call = λ some. rw (eq-eqb id id refl, calls_then) refl });
        closing_rest = retied (Rests m.homes m.calls seats) (Rests homes_then calls_then others) cs closing
            (λ c y t. let other = occupied c.0 (waiting_of y) t.seat in
            record { seat = same_as c.0 other ∙ t.seat; ctx = t.ctx; multi = t.multi; home = homes_else y.call (known_else y.call c.0 t.home) ∙ t.home; call = calls_else c.0 other ∙ t.call; fit = t.fit }) m.closing_rest;
        distinct = apart_join no_pairs ps (id, want) refl new m.distinct;
        apart = apart_push ps cs (id, want) unclosed m.apart;
        ways = λ s. home_then (get_or coming s None) (get_or comes s None) (numbers.into s) (m.ways s);
        live = m.live;
        fresh = λ call later. homes_else call (λ same. absurd (omega arith)) ∙ m.fresh call (omega arith);
        plain = λ alone. absurd (cc);
        ids = ids_then;
        numbers = numbers_then;
        back = back_then;
        spare = let spare = m.spare in let long = length-append ps ((id, want) ∷ []) in omega arith;
      }

  -- what still comes of a message goes elsewhere
  module _ (id : ℕ) (a : Arrival) (partly : a.bytes ≡ None → IsKeptAs id (get_or coming a.source None)) (long : length comes ≡ length coming) (turn : Begun → Begun) (c : Coming) (home : (b : Begun) → IsKeptWay id b.way → GoesHomeBy m.homes m.calls seats (turn b).way (Some c)) (later : ℕ) (le : next ≤ later) where
    multi_by : (o : Option (List ℕ)) → a.bytes ≡ o → AreMulti ps cs seats (turned (option_map turn) o a.source coming) posted closing (turned (λ x. Some c) o a.source comes) later multis most
    multi_by (Some bytes) whole = multi_later later le
    multi_by None none =
        let k = stored_where_kept (get_or coming a.source None) id (partly none) in
        multi_change a.source (option_map turn (get_or coming a.source None)) (Some c) (id_within coming a.source k.0 k.1) long
        (subst (λ (o : Option Begun). GoesHome m.homes m.calls seats (option_map turn o) (Some c)) (sym k.1) (home k.0 k.2))
        (λ j fed. absurd (kept_unfed j id k.0.way k.2 (subst (λ (o : Option Begun). is_fed_by j o ≡ true) k.1 fed))) later le

    pub multi_turned : AreMulti ps cs seats (turned (option_map turn) a.bytes a.source coming) posted closing (turned (λ x. Some c) a.bytes a.source comes) later multis most
    multi_turned = multi_by a.bytes refl

    pub multi_moved : (now : List (Option Begun)) → now ≡ turned (option_map turn) a.bytes a.source coming → AreMulti ps cs seats now posted closing (turned (λ x. Some c) a.bytes a.source comes) later multis most
    multi_moved now is = rw is multi_turned

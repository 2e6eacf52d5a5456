-- How the multi-receives of a peer stay counted, and which bytes are kept with a part.
use Rattle.std.proofs.Common.{◌≡◌, ◌<◌, ◌≤◌, ◌+◌, inl, inr, ℕ, zero, suc, Bool, true, false, ◌&&◌, ◌==◌, List, [], ◌∷◌, ◌++◌, length, length-append, append-nil, Option, Some, None, refl, sym, ap, ◌∙◌, subst, arith}
use Rattle.std.specs.Prelude.{cond, find, count_by, zip, take, drop, slice_get, slice_index_or, Contains}
use Rattle.std.specs.Option.{option_map}
use Rattle.std.proofs.lemmas.Bool.{eq-eqb, eqb-true}
use Rattle.std.proofs.lemmas.List.{take-append-le, take_more}
use Rattle.std.proofs.lemmas.List.Sums.{sum_by-cons, sum_by_push}
use Rattle.std.proofs.lemmas.Option.{slice_get_within, get_or_from_slice_get}
use Rattle.fab_base.specs.declared.entries.Entry.TheVariants.{Sent, Received, Part, Released, Peeked, Read, Wrote, Updated, Fetched, RemoteData}
use Rattle.fab_base.specs.declared.entries.ErrEntry.{ErrEntry}
use Rattle.fab_base.specs.declared.entries.ErrKind.{ErrKind}
use Rattle.fab_base.specs.declared.entries.ErrKind.TheVariants.{Truncated, NoMsg, Canceled, NoKey, Access, Range}
use Rattle.fab_base.specs.declared.entries.Kept.{Kept}
use Rattle.fab_base.specs.declared.entries.Taken.{Taken}
use Rattle.fab_base.specs.declared.entries.Taken.TheVariants.{Success, Failure}
use Rattle.fab_base.specs.declared.operations.Written.{Written}
use Rattle.fab_base.specs.declared.peers.LineResult.{LineResult}
use Rattle.fab_base.specs.declared.peers.LineResult.TheVariants.{Done, Waited}
use Rattle.fab_base.specs.declared.script.Line.{Line}
use Rattle.fab_base.proofs.Bools.{and_false}
use Rattle.fab_base.proofs.Lists.{count_by-append as count_append}
use Rattle.fab_link.specs.Joined.{is_last, grown}
use Rattle.fab_model.specs.Matching.{remove_first}
use Rattle.fab_model.specs.State.{State}
use Rattle.fab_model.specs.Calls.{Call, Transmit, Post, Look, TakeClaimed, DropClaimed, Cancel, CancelFirst, Insert, Remove, Reg, Close, Put, Show, Count}
use Rattle.fab_model.specs.Peers.{is_multi_line, is_release, part_of, unread, multi_buf}
use Rattle.fab_face.specs.Held.{Held, begun_of}
use Rattle.fab_face.specs.Acts.{Act, Did, Took, Posted, Drew, Had, Goes, GoesBy, DoesCall, Ends, Departs, headed, is_first, is_move, is_end_of, has_read, multi_made}
use Rattle.fab_face.specs.Answers.{AllAre, IsSharedBy, IsSharing, multi_of}
use Rattle.fab_peer.specs.Turns.{IsCounted, LentIf, hands_back, waited_back, multis_open, releases_read}
use Rattle.fab_peer.proofs.Paths.{living, goes_split}
use Rattle.fab_face.proofs.Writing.{Adds, adds_none, adds_then, adds_draw, adds_tail, adds_sent, adds_headed, adds_call}

-- ---- lists

cond_one : (b : Bool) → b ≡ true → ◌≡◌ {A = ℕ} (cond b 1 0) 1
cond_one b e = rw e refl

cond_zero : (b : Bool) → b ≡ false → ◌≡◌ {A = ℕ} (cond b 1 0) 0
cond_zero b e = rw e refl

cond_same : (a b : Bool) → a ≡ b → ◌≡◌ {A = ℕ} (cond a 1 0) (cond b 1 0)
cond_same a b e = rw e refl

count_cons : {X : Type 0} (test : X → Bool) (x : X) (xs : List X) → count_by test (x ∷ xs) ≡ cond (test x) 1 0 + count_by test xs
count_cons test x xs = sum_by-cons (λ y. cond (test y) 1 0) x xs

count_more : {X : Type 0} (test : X → Bool) (xs : List X) (y : X) → count_by test (xs ++ y ∷ []) ≡ count_by test xs + cond (test y) 1 0
count_more test xs y = sum_by_push (λ x. cond (test x) 1 0) xs y

-- a line that is done is counted with its result
zip_more : (test : Line × LineResult → Bool) (lines : List Line) (results : List LineResult) (r : LineResult) → count_by test (zip lines results) ≤ count_by test (zip lines (results ++ r ∷ []))
zip_more test [] results r = omega arith
zip_more test (l ∷ ls) [] r = omega arith
zip_more test (l ∷ ls) (x ∷ xs) r = omega (arith, zip_more test ls xs r, count_cons test (l, x) (zip ls xs), count_cons test (l, x) (zip ls (xs ++ r ∷ [])))

zip_one : (test : Line × LineResult → Bool) (lines : List Line) (results : List LineResult) (r : LineResult) (line : Line) → slice_get lines (length results) ≡ Some line → test (line, r) ≡ true
    → count_by test (zip lines results) + 1 ≤ count_by test (zip lines (results ++ r ∷ []))
zip_one test [] [] r line got ok = absurd (cc)
zip_one test [] (x ∷ xs) r line got ok = absurd (cc)
zip_one test (l ∷ ls) [] r line got ok =
    let same : l ≡ line = cc in
    let here = cond_one (test (l, r)) (ap (λ z. test (z, r)) same ∙ ok) in
    omega (arith, here, count_cons test (l, r) (zip ls []))
zip_one test (l ∷ ls) (x ∷ xs) r line got ok = omega (arith, zip_one test ls xs r line got ok, count_cons test (l, x) (zip ls xs), count_cons test (l, x) (zip ls (xs ++ r ∷ [])))

fewer_left : {X : Type 0} (test leaves : X → Bool) (xs : List X) → count_by test (remove_first leaves xs) ≤ count_by test xs
fewer_left test leaves [] = omega arith
fewer_left test leaves (x ∷ xs) = by_leave (leaves x) refl (fewer_left test leaves xs)
  where
    by_leave : (b : Bool) → leaves x ≡ b → count_by test (remove_first leaves xs) ≤ count_by test xs → count_by test (remove_first leaves (x ∷ xs)) ≤ count_by test (x ∷ xs)
    by_leave true is later = rw (is, remove_first) (omega (arith, count_cons test x xs))
    by_leave false is later = rw (is, remove_first) (omega (arith, later, count_cons test x xs, count_cons test x (remove_first leaves xs)))

one_left : {X : Type 0} (test leaves : X → Bool) (xs : List X) (x : X) → find leaves xs ≡ Some x → count_by test xs ≡ cond (test x) 1 0 + count_by test (remove_first leaves xs)
one_left test leaves [] x got = absurd (cc)
one_left test leaves (y ∷ ys) x got = by_leave (leaves y) refl (λ e. one_left test leaves ys x e)
  where
    by_leave : (b : Bool) → leaves y ≡ b → (find leaves ys ≡ Some x → count_by test ys ≡ cond (test x) 1 0 + count_by test (remove_first leaves ys))
        → count_by test (y ∷ ys) ≡ cond (test x) 1 0 + count_by test (remove_first leaves (y ∷ ys))
    by_leave true is later =
        let same : y ≡ x = (let e : Some y ≡ Some x = rw (is, find) at got in cc) in
        rw (is, remove_first) (count_cons test y ys ∙ ap (λ z. cond (test z) 1 0 + count_by test ys) same)
    by_leave false is later =
        let here = later (rw (is, find) at got) in
        rw (is, remove_first) (omega (arith, here, count_cons test y ys, count_cons test y (remove_first leaves ys)))

none_left : {X : Type 0} (leaves : X → Bool) (xs : List X) → ((x : X) → leaves x ≡ false) → remove_first leaves xs ≡ xs
none_left leaves [] none = refl
none_left leaves (x ∷ xs) none = rw (none x, remove_first) (ap (λ ys. x ∷ ys) (none_left leaves xs none))

-- where one passes the test, the first that does is found
found_in : {X : Type 0} (test : X → Bool) (xs : List X) (k : ℕ) (x : X) → k < length xs → slice_index_or xs k x ≡ x → test x ≡ true → (y : X) × (find test xs ≡ Some y) × (test y ≡ true) × Contains xs y
found_in test [] k x within is ok = absurd (omega (arith, within))
found_in {X} test (z ∷ zs) k x within is ok = by_test (test z) refl k within is (λ j under at. found_in test zs j x under at ok)
  where
    by_test : (b : Bool) → test z ≡ b → (j : ℕ) → j < length (z ∷ zs) → slice_index_or (z ∷ zs) j x ≡ x
        → ((i : ℕ) → i < length zs → slice_index_or zs i x ≡ x → (y : X) × (find test zs ≡ Some y) × (test y ≡ true) × Contains zs y)
        → (y : X) × (find test (z ∷ zs) ≡ Some y) × (test y ≡ true) × Contains (z ∷ zs) y
    by_test true e j under at ih = (z, rw (e, find) refl, e, (0, omega arith, refl))
    by_test false e zero under at ih = absurd (let nay : test x ≡ false = ap test (sym at) ∙ e in cc)
    by_test false e (suc j) under at ih =
        let later = ih j (omega (arith, under)) at in
        (later.0, rw (e, find) later.1, later.2, (suc later.3.0, (let l = later.3.1 in omega (arith, l)), later.3.2))

some_in : {X : Type 0} (test : X → Bool) (xs : List X) (k : ℕ) (x : X) → k < length xs → slice_index_or xs k x ≡ x → test x ≡ true → 1 ≤ count_by test xs
some_in test xs k x within is ok =
    let f = found_in test xs k x within is ok in
    let one = cond_one (test f.0) f.2 in
    omega (arith, one, one_left test test xs f.0 f.1)

-- where at most one passes the test, it is the one that is found
only_in : {X : Type 0} (test : X → Bool) (xs : List X) (k : ℕ) (x : X) → k < length xs → slice_index_or xs k x ≡ x → test x ≡ true → count_by test xs ≤ 1 → find test xs ≡ Some x
only_in test [] k x within is ok few = absurd (omega (arith, within))
only_in test (z ∷ zs) k x within is ok few = by_test (test z) refl k within is (λ j under at less. only_in test zs j x under at ok less)
  where
    by_test : (b : Bool) → test z ≡ b → (j : ℕ) → j < length (z ∷ zs) → slice_index_or (z ∷ zs) j x ≡ x
        → ((i : ℕ) → i < length zs → slice_index_or zs i x ≡ x → count_by test zs ≤ 1 → find test zs ≡ Some x) → find test (z ∷ zs) ≡ Some x
    by_test true e zero under at ih = rw (e, find) (ap Some at)
    by_test true e (suc j) under at ih = absurd (omega (arith, cond_one (test z) e, few, count_cons test z zs, some_in test zs j x (omega (arith, under)) at ok))
    by_test false e zero under at ih = absurd (let nay : test x ≡ false = ap test (sym at) ∙ e in cc)
    by_test false e (suc j) under at ih = rw (e, find) (ih j (omega (arith, under)) at (omega (arith, few, count_cons test z zs)))

-- ---- what the machine does

releases_grown : (n : ℕ) (s u : State) (ctx : ℕ) → Adds n s u → s.cq.taken_out ≤ length s.cq.written → releases_read u ctx ≡ releases_read s ctx
releases_grown n s u ctx a within =
    ap (λ t. count_by (is_release ctx) (take t u.cq.written)) a.read ∙ ap (λ ws. count_by (is_release ctx) (take s.cq.taken_out ws)) a.grown
    ∙ ap (count_by (is_release ctx)) (take-append-le s.cq.taken_out s.cq.written a.more within)

module _ (lines : List Line) (results : List LineResult) (kept : List Kept) where
  -- no multi-receive is made, and no entry is read
  pub counted_grown : (n : ℕ) (h k : Held) → Adds n h.state k.state → k.multis ≡ h.multis → IsCounted (living h lines results kept) → IsCounted (living k lines results kept)
  counted_grown n h k a same c = record {
    within = (let l = length_grown in omega (arith, a.read, c.within, l));
    lines_are = λ ctx. (let m : multis_open k ctx ≡ multis_open h ctx = ap (count_by (λ (m : ℕ × ℕ). m.0 == ctx)) same in let o = c.lines_are ctx in let r = releases_grown n h.state k.state ctx a c.within in omega (arith, m, o, r));
    known = λ ctx. c.known ctx ∙ sym (releases_grown n h.state k.state ctx a c.within);
  }
    where
      length_grown : length h.state.cq.written ≤ length k.state.cq.written
      length_grown = let l = ap length a.grown in let m = length-append h.state.cq.written a.more in omega (arith, l, m)

  one_grown : (call : Option Call) (act : Act) (h k : Held) → is_move act ≡ true → Goes call h act k → IsCounted (living h lines results kept) → IsCounted (living k lines results kept)
  one_grown call Did h k is goes c = absurd (cc)
  one_grown call Had h k is goes c = absurd (cc)
  one_grown call Drew h k is (due, room, same) c = counted_grown 2 h k (subst (λ (x : Held). Adds 2 h.state x.state) (sym same) (adds_draw h.state)) (ap (λ (x : Held). x.multis) same) c
  one_grown call (Posted dest f) h k is (in_places, in_sent, next, departs) c = by_last (is_last f.head) departs
    where
      by_last : (b : Bool) → Departs b h dest (f.head.from + f.head.len) k → IsCounted (living k lines results kept)
      by_last true (room, same) = counted_grown 1 h k (subst (λ (x : Held). Adds 1 h.state x.state) (sym same) (adds_sent h.state dest)) (ap (λ (x : Held). x.multis) same) c
      by_last false same = counted_grown 0 h k (subst (λ (x : Held). Adds 0 h.state x.state) (sym same) (adds_none 0 h.state h.state refl)) (ap (λ (x : Held). x.multis) same) c
  one_grown call (Took source f) h k is (in_begun, in_tails, comes, ends) c = by_last (is_last f.head) ends
    where
      first : State
      first = headed (is_first f) h.state source f.head.item

      by_last : (b : Bool) → Ends b h first source (grown (begun_of h source) f) k → IsCounted (living k lines results kept)
      by_last true (one, room, same) =
          let item = grown (begun_of h source) f in
          counted_grown 2 h k
          (subst (λ (x : Held). Adds 2 h.state x.state) (sym same) (adds_then 0 2 h.state first _ (adds_headed (is_first f) h.state source f.head.item) (adds_tail first source item.head item.bytes)))
          (ap (λ (x : Held). x.multis) same) c
      by_last false same = counted_grown 0 h k (subst (λ (x : Held). Adds 0 h.state x.state) (sym same) (adds_headed (is_first f) h.state source f.head.item)) (ap (λ (x : Held). x.multis) same) c

  pub counted_moves : (call : Option Call) (acts : List Act) (h k : Held) → AllAre is_move acts → GoesBy call h acts k → IsCounted (living h lines results kept) → IsCounted (living k lines results kept)
  counted_moves call [] h k are goes c = subst (λ (x : Held). IsCounted (living x lines results kept)) goes c
  counted_moves call (Did ∷ acts) h k are goes c = absurd (cc)
  counted_moves call (Had ∷ acts) h k are goes c = absurd (cc)
  counted_moves call (Took source f ∷ acts) h k are (mid, one, rest) c = counted_moves call acts mid k are rest (one_grown call (Took source f) h mid refl one c)
  counted_moves call (Posted dest f ∷ acts) h k are (mid, one, rest) c = counted_moves call acts mid k are rest (one_grown call (Posted dest f) h mid refl one c)
  counted_moves call (Drew ∷ acts) h k are (mid, one, rest) c = counted_moves call acts mid k are rest (one_grown call Drew h mid refl one c)

  -- ---- what a line does

  -- a line with this result, which is no wait's
  pub counted_noted : (h : Held) (r : LineResult) → ((ctx : ℕ) → waited_back ctx r ≡ false) → IsCounted (living h lines results kept) → IsCounted (living h lines (results ++ r ∷ []) kept)
  counted_noted h r plain c = record {
    within = c.within;
    lines_are = λ ctx. (let o = c.lines_are ctx in let m = zip_more (is_multi_line ctx) lines results r in omega (arith, o, m));
    known = λ ctx. (
        let k = c.known ctx in
        let m = count_more (waited_back ctx) results r in
        let none = cond_zero (waited_back ctx r) (plain ctx) in
        omega (arith, k, m, none));
  }

-- where the call is a multi-receive, the next line is one of its context
abbrev pub MarkedBy : List Line → List LineResult → ℕ → Option ℕ → Type 0
MarkedBy lines results ctx None = Unit {0}
MarkedBy lines results ctx (Some least) = (line : Line) × (slice_get lines (length results) ≡ Some line) × (is_multi_line ctx (line, Done) ≡ true)

abbrev pub IsMarked : List Line → List LineResult → Call → Type 0
IsMarked lines results (Post p) = MarkedBy lines results p.ctx p.least
IsMarked lines results call = Unit {0}

module _ (lines : List Line) (results : List LineResult) (kept : List Kept) where
  made_few : (call : Call) (n ctx : ℕ) → IsMarked lines results call
      → count_by (is_multi_line ctx) (zip lines results) + count_by (λ (m : ℕ × ℕ). m.0 == ctx) (multi_made call n) ≤ count_by (is_multi_line ctx) (zip lines (results ++ Done ∷ []))
  made_few (Post p) n ctx marked = by_least p.least refl marked
    where
      by_ctx : (b : Bool) → (p.ctx == ctx) ≡ b → (line : Line) × (slice_get lines (length results) ≡ Some line) × (is_multi_line p.ctx (line, Done) ≡ true)
          → count_by (is_multi_line ctx) (zip lines results) + count_by (λ (m : ℕ × ℕ). m.0 == ctx) ((p.ctx, n) ∷ []) ≤ count_by (is_multi_line ctx) (zip lines (results ++ Done ∷ []))
      by_ctx true is (line, there, ok) =
          let same : p.ctx ≡ ctx = eqb-true p.ctx ctx is in
          let one = cond_one (p.ctx == ctx) is in
          omega (arith, one, count_cons (λ (m : ℕ × ℕ). m.0 == ctx) (p.ctx, n) [], zip_one (is_multi_line ctx) lines results Done line there (ap (λ c. is_multi_line c (line, Done)) (sym same) ∙ ok))
      by_ctx false is (line, there, ok) =
          let none = cond_zero (p.ctx == ctx) is in
          omega (arith, none, count_cons (λ (m : ℕ × ℕ). m.0 == ctx) (p.ctx, n) [], zip_more (is_multi_line ctx) lines results Done)

      by_least : (o : Option ℕ) → p.least ≡ o → MarkedBy lines results p.ctx o
          → count_by (is_multi_line ctx) (zip lines results) + count_by (λ (m : ℕ × ℕ). m.0 == ctx) (multi_made (Post p) n) ≤ count_by (is_multi_line ctx) (zip lines (results ++ Done ∷ []))
      by_least None is marks = rw (is, multi_made) (omega (arith, zip_more (is_multi_line ctx) lines results Done))
      by_least (Some least) is marks = rw (is, multi_made) (by_ctx (p.ctx == ctx) refl marks)
  made_few (Transmit order) n ctx marked = omega (arith, zip_more (is_multi_line ctx) lines results Done)
  made_few (Look how source tag ignore c) n ctx marked = omega (arith, zip_more (is_multi_line ctx) lines results Done)
  made_few (TakeClaimed buf c) n ctx marked = omega (arith, zip_more (is_multi_line ctx) lines results Done)
  made_few (DropClaimed c) n ctx marked = omega (arith, zip_more (is_multi_line ctx) lines results Done)
  made_few (Cancel c) n ctx marked = omega (arith, zip_more (is_multi_line ctx) lines results Done)
  made_few CancelFirst n ctx marked = omega (arith, zip_more (is_multi_line ctx) lines results Done)
  made_few (Insert name) n ctx marked = omega (arith, zip_more (is_multi_line ctx) lines results Done)
  made_few (Remove index) n ctx marked = omega (arith, zip_more (is_multi_line ctx) lines results Done)
  made_few (Reg key access bytes) n ctx marked = omega (arith, zip_more (is_multi_line ctx) lines results Done)
  made_few (Close key) n ctx marked = omega (arith, zip_more (is_multi_line ctx) lines results Done)
  made_few (Put key at bytes) n ctx marked = omega (arith, zip_more (is_multi_line ctx) lines results Done)
  made_few (Show key) n ctx marked = omega (arith, zip_more (is_multi_line ctx) lines results Done)
  made_few (Count class) n ctx marked = omega (arith, zip_more (is_multi_line ctx) lines results Done)

  -- a call that is Ok, with its line
  counted_did : (call : Call) (h k : Held) → IsMarked lines results call → DoesCall (Some call) h k → IsCounted (living h lines results kept) → IsCounted (living k lines (results ++ Done ∷ []) kept)
  counted_did call h k marked (done, is) c = record {
    within = (let l = ap length a.grown in let m = length-append h.state.cq.written a.more in omega (arith, a.read, c.within, l, m));
    lines_are = λ ctx. (
        let m : multis_open k ctx ≡ count_by (λ (x : ℕ × ℕ). x.0 == ctx) (h.multis ++ multi_made call h.state.calls) = ap (λ (x : Held). count_by (λ (x : ℕ × ℕ). x.0 == ctx) x.multis) is in
        let n = count_append (λ (x : ℕ × ℕ). x.0 == ctx) h.multis (multi_made call h.state.calls) in
        omega (arith, m, n, made_few call h.state.calls ctx marked, c.lines_are ctx, releases_grown 1 h.state k.state ctx a c.within));
    known = λ ctx. (
        let w : count_by (waited_back ctx) (results ++ Done ∷ []) ≡ count_by (waited_back ctx) results + 0 = count_more (waited_back ctx) results Done in
        omega (arith, w, c.known ctx, releases_grown 1 h.state k.state ctx a c.within));
  }
    where
      a : Adds 1 h.state k.state
      a = subst (λ (x : LineResult × State). Adds 1 h.state x.1) done (adds_call h.state call)

  pub counted_call : (call : Call) (before after : List Act) (h k : Held) → IsMarked lines results call → AllAre is_move before → AllAre is_move after → GoesBy (Some call) h (before ++ Did ∷ after) k
      → IsCounted (living h lines results kept) → IsCounted (living k lines (results ++ Done ∷ []) kept)
  counted_call call before after h k marked b f goes c =
      let s = goes_split (Some call) before (Did ∷ after) h k goes in
      counted_moves lines (results ++ Done ∷ []) kept (Some call) after s.2.0 k f s.2.2
      (counted_did call s.0 s.2.0 marked s.2.1 (counted_moves lines results kept (Some call) before h s.0 b s.1 c))

  -- a cancel at the end, which is of no line
  pub counted_final : (before after : List Act) (h k : Held) → AllAre is_move before → AllAre is_move after → GoesBy (Some CancelFirst) h (before ++ Did ∷ after) k
      → IsCounted (living h lines results kept) → IsCounted (living k lines results kept)
  counted_final before after h k b f goes c =
      let s = goes_split (Some CancelFirst) before (Did ∷ after) h k goes in
      let made : s.2.0.multis ≡ s.0.multis ++ [] = ap (λ (x : Held). x.multis) s.2.1.1 in
      counted_moves lines results kept (Some CancelFirst) after s.2.0 k f s.2.2
      (counted_grown lines results kept 1 s.0 s.2.0 (subst (λ (x : LineResult × State). Adds 1 s.0.state x.1) s.2.1.0 (adds_call s.0.state CancelFirst)) (made ∙ append-nil s.0.multis)
      (counted_moves lines results kept (Some CancelFirst) before h s.0 b s.1 c))

  -- a wait takes what was kept
  pub counted_waited : (h : Held) (test : Kept → Bool) (k : Kept) → find test kept ≡ Some k → IsCounted (living h lines results kept) → IsCounted (living h lines (results ++ Waited k ∷ []) (remove_first test kept))
  counted_waited h test k found c = record {
    within = c.within;
    lines_are = λ ctx. (let o = c.lines_are ctx in let m = zip_more (is_multi_line ctx) lines results (Waited k) in omega (arith, o, m));
    known = λ ctx. (
        let w : count_by (waited_back ctx) (results ++ Waited k ∷ []) ≡ count_by (waited_back ctx) results + cond (hands_back ctx k) 1 0 = count_more (waited_back ctx) results (Waited k) in
        omega (arith, w, c.known ctx, one_left (hands_back ctx) test kept k found));
  }

-- ---- what a read does

release_is : (ctx : ℕ) (w : Written) → is_release ctx w ≡ true → (used : ℕ) × (buf : List ℕ) × (w.entry ≡ Success (Released ctx used buf))
release_is ctx w is = by_entry w.entry refl is
  where
    by_entry : (t : Taken) → w.entry ≡ t → is_release ctx (record { call = w.call; entry = t }) ≡ true → (used : ℕ) × (buf : List ℕ) × (w.entry ≡ Success (Released ctx used buf))
    by_entry (Success (Released c used buf)) e ok = (used, buf, e ∙ ap (λ x. Success (Released x used buf)) (eqb-true c ctx ok))
    by_entry (Success (Sent c tagged buf)) e ok = absurd (cc)
    by_entry (Success (Received c source tag imm len buf)) e ok = absurd (cc)
    by_entry (Success (Part c source imm at len)) e ok = absurd (cc)
    by_entry (Success (Peeked c how source tag imm len)) e ok = absurd (cc)
    by_entry (Success (Read c buf)) e ok = absurd (cc)
    by_entry (Success (Wrote c buf)) e ok = absurd (cc)
    by_entry (Success (Updated c)) e ok = absurd (cc)
    by_entry (Success (Fetched c outcome)) e ok = absurd (cc)
    by_entry (Success (RemoteData source imm)) e ok = absurd (cc)
    by_entry (Failure entry) e ok = absurd (cc)

end_is : (w : Written) (call ctx used : ℕ) (buf : List ℕ) (m : ℕ × ℕ) → w.call ≡ Some call → w.entry ≡ Success (Released ctx used buf) → is_end_of w m ≡ ((call == m.1) && true)
end_is w call ctx used buf m is there = rw (is, there) refl

module _ (h : Held) (w : Written) (sharing : IsSharing h) (first : unread h.state.cq ≡ Some w) where
  -- the end of a multi-receive is of one of its context
  reads_open : (ctx : ℕ) → multis_open (has_read w h) ctx + cond (is_release ctx w) 1 0 ≤ multis_open h ctx
  reads_open ctx = by_release (is_release ctx w) refl
    where
      by_release : (b : Bool) → is_release ctx w ≡ b → multis_open (has_read w h) ctx + cond (is_release ctx w) 1 0 ≤ multis_open h ctx
      by_release false is = let none = cond_zero (is_release ctx w) is in omega (arith, none, fewer_left (λ (m : ℕ × ℕ). m.0 == ctx) (is_end_of w) h.multis)
      by_release true is =
          let one = cond_one (is_release ctx w) is in
          let of = release_is ctx w is in
          let end = (sharing.unread h.state.cq.taken_out w (omega arith) first).ends ctx of.0 of.1 of.2 in
          let call = end.0 in
          let here : is_end_of w (ctx, call) ≡ true = end_is w call ctx of.0 of.1 (ctx, call) end.1 of.2 ∙ ap (λ b. b && true) (eq-eqb call call refl) in
          let f = found_in (is_end_of w) h.multis end.2.0 (ctx, call) end.2.1 end.2.2 here in
          let same : call ≡ f.0.1 = eqb-true call f.0.1 (and_true (call == f.0.1) (sym (end_is w call ctx of.0 of.1 f.0 end.1 of.2) ∙ f.2)) in
          let its_ctx : f.0.0 ≡ ctx = sharing.once f.0.0 ctx call (subst (λ c. Contains h.multis (f.0.0, c)) (sym same) f.3) end.2 in
          let counted = cond_one (f.0.0 == ctx) (eq-eqb f.0.0 ctx its_ctx) in
          omega (arith, one, counted, one_left (λ (m : ℕ × ℕ). m.0 == ctx) (is_end_of w) h.multis f.0 f.1)
        where
          and_true : (b : Bool) → (b && true) ≡ true → b ≡ true
          and_true true e = refl
          and_true false e = absurd (cc)

  pub counted_read : (lines : List Line) (results : List LineResult) (kept : List Kept) (k : Kept) → k.entry ≡ w.entry → IsCounted (living h lines results kept) → IsCounted (living (has_read w h) lines results (kept ++ k ∷ []))
  counted_read lines results kept k is c = record {
    within = (let l = slice_get_within h.state.cq.written h.state.cq.taken_out w first in omega (arith, l));
    lines_are = λ ctx. (let o = c.lines_are ctx in let r = reads_open ctx in let n = releases_next ctx in omega (arith, o, r, n));
    known = λ ctx. (
        let m = count_more (hands_back ctx) kept k in
        let same : hands_back ctx k ≡ is_release ctx w = ap (λ t. is_release ctx (record { call = None; entry = t })) is in
        let one = cond_same (hands_back ctx k) (is_release ctx w) same in
        let n = releases_next ctx in
        omega (arith, c.known ctx, m, one, n));
  }
    where
      releases_next : (ctx : ℕ) → releases_read (has_read w h).state ctx ≡ releases_read h.state ctx + cond (is_release ctx w) 1 0
      releases_next ctx =
          let xs = h.state.cq.written in
          let t = h.state.cq.taken_out in
          ap (count_by (is_release ctx)) (take_more xs t w (slice_get_within xs t w first))
          ∙ ap (λ x. count_by (is_release ctx) (take t xs ++ x ∷ [])) (get_or_from_slice_get xs t w w first)
          ∙ count_more (is_release ctx) (take t xs) w

  -- a part ends nothing
  part_stays : (part : ℕ × ℕ × ℕ) → part_of w.entry ≡ Some part → (m : ℕ × ℕ) → is_end_of w m ≡ false
  part_stays part is m = by_entry w.entry refl is
    where
      unread_by : IsSharedBy h w
      unread_by = sharing.unread h.state.cq.taken_out w (omega arith) first

      by_kind : (e : ErrEntry) → w.entry ≡ Failure e → part_of (Failure e) ≡ Some part → (kind : ErrKind) → e.kind ≡ kind → is_end_of w m ≡ false
      by_kind e there some Canceled kind = let none : part_of (Failure e) ≡ None = rw (unread_by.cancels e there kind) refl in absurd (cc)
      by_kind e there some Truncated kind = rw (there, kind) (and_false _)
      by_kind e there some NoMsg kind = rw (there, kind) (and_false _)
      by_kind e there some NoKey kind = rw (there, kind) (and_false _)
      by_kind e there some Access kind = rw (there, kind) (and_false _)
      by_kind e there some Range kind = rw (there, kind) (and_false _)

      by_entry : (t : Taken) → w.entry ≡ t → part_of t ≡ Some part → is_end_of w m ≡ false
      by_entry (Success (Part c source imm at len)) e some = rw e (and_false _)
      by_entry (Success (Released c used buf)) e some = absurd (cc)
      by_entry (Success (Sent c tagged buf)) e some = absurd (cc)
      by_entry (Success (Received c source tag imm len buf)) e some = absurd (cc)
      by_entry (Success (Peeked c how source tag imm len)) e some = absurd (cc)
      by_entry (Success (Read c buf)) e some = absurd (cc)
      by_entry (Success (Wrote c buf)) e some = absurd (cc)
      by_entry (Success (Updated c)) e some = absurd (cc)
      by_entry (Success (Fetched c outcome)) e some = absurd (cc)
      by_entry (Success (RemoteData source imm)) e some = absurd (cc)
      by_entry (Failure entry) e some = by_kind entry e some entry.kind refl

  -- what is lent is the part's own
  pub lent_is : (part : ℕ × ℕ × ℕ) (bytes : Option (List ℕ)) → part_of w.entry ≡ Some part → multis_open h part.0 ≤ 1 → LentIf true (has_read w h) part.0 part.1 part.2 bytes
      → bytes ≡ Some (take part.2 (drop part.1 (multi_buf h.state w.call)))
  lent_is part bytes is few lent = by_bytes bytes lent
    where
      its : (call : ℕ) × (w.call ≡ Some call) × Contains h.multis (part.0, call) × (part.1 + part.2 ≤ length (multi_buf h.state (Some call)))
      its = (sharing.unread h.state.cq.taken_out w (omega arith) first).parts part.0 part.1 part.2 is

      call : ℕ
      call = its.0

      after : Held
      after = has_read w h

      only : multi_of after part.0 ≡ Some call
      only =
          ap (λ ms. option_map (λ (m : ℕ × ℕ). m.1) (find (λ (m : ℕ × ℕ). m.0 == part.0) ms)) (none_left (is_end_of w) h.multis (part_stays part is))
          ∙ ap (option_map (λ (m : ℕ × ℕ). m.1)) (only_in (λ (m : ℕ × ℕ). m.0 == part.0) h.multis its.2.0 (part.0, call) its.2.1 its.2.2 (eq-eqb part.0 part.0 refl) few)

      by_bytes : (o : Option (List ℕ)) → LentIf true after part.0 part.1 part.2 o → o ≡ Some (take part.2 (drop part.1 (multi_buf h.state w.call)))
      by_bytes (Some xs) lends =
          let same : lends.call ≡ call = (let e : Some lends.call ≡ Some call = sym lends.is ∙ only in cc) in
          ap Some (lends.same ∙ ap (λ c. take part.2 (drop part.1 (multi_buf h.state (Some c)))) same ∙ ap (λ c. take part.2 (drop part.1 (multi_buf h.state c))) (sym its.1))
      by_bytes None (inl none) = absurd (let e : None ≡ Some call = sym none ∙ only in cc)
      by_bytes None (inr (other, found, less)) =
          let same : other ≡ call = (let e : Some other ≡ Some call = sym found ∙ only in cc) in
          let long : length (multi_buf h.state (Some other)) ≡ length (multi_buf h.state (Some call)) = ap (λ c. length (multi_buf h.state (Some c))) same in
          absurd (let enough = its.3 in omega (arith, less, long, enough))

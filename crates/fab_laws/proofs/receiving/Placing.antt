-- Where the messages of a buffer for many messages stand: each step keeps that they follow one another.
use Rattle.std.proofs.Common.{◌≡◌, ◌<◌, ◌+◌, ◌-◌, ℕ, min, Bool, true, false, not, List, [], ◌∷◌, ◌++◌, length, map, slice_get, Option, Some, None, ◌⊎◌, inl, inr, refl, sym, ◌∙◌, ap, ap₂, subst, arith}
use Rattle.std.specs.Prelude.{find, nat_lt, slice_index, ◌==◌}
use Rattle.std.proofs.lemmas.Bool.{eq-eqb, eqb-true, ne_eqb}
use Rattle.fab_base.specs.declared.items.Item.{Item}
use Rattle.fab_base.specs.declared.operations.Arrival.{Arrival}
use Rattle.fab_base.specs.declared.operations.Coming.{Coming}
use Rattle.fab_base.specs.declared.operations.Coming.TheVariants.{Into}
use Rattle.fab_base.specs.declared.operations.Receive.{Receive}
use Rattle.fab_model.specs.Matching.{change_first, remove_first}
use Rattle.fab_model.specs.State.{Receiving, State, coming_from}
use Rattle.fab_model.specs.Complete.{fill_multi, filled, filling, is_made_by}
use Rattle.fab_model.specs.Receiving.{Posting, draws, goes, may_leave, receive_of, taking, without_claim, without_first}
use Rattle.fab_model.specs.Arrivals.{is_wanted, keeping, seated, seating, stays, used_up}
use Rattle.fab_model.specs.Calls.{Post, TakeClaimed}
use Rattle.fab_model.specs.Views.{View}
use Rattle.fab_model.proofs.Parts.{some_same}
use Rattle.fab_laws.specs.Members.{Ahead, In, Never}
use Rattle.fab_laws.specs.Programs.{Deed, Makes}
use Rattle.fab_laws.specs.Matched.{Came, Cancelled, Event, Got, Lost, Made, Mark, is_posted, made, mark_of, wish_of}
use Rattle.fab_laws.specs.MessageLaws.{IsOf}
use Rattle.fab_laws.specs.MultiLaws.{placed, used_in}
use Rattle.fab_laws.specs.Claimed.{Handling}
use Rattle.fab_laws.proofs.Lists.{Always, Each, Split, always, any_in, none_any, ahead_in, ahead_map, ahead_middle, changed_same, found_in, in_back, in_end, in_front, in_less, in_map, in_middle, in_removed, mapped, map_append, never, split_at}
use Rattle.fab_laws.proofs.matching.Moves.{Keeps}
use Rattle.fab_laws.proofs.streams.Told.{IsInto}
use Rattle.fab_laws.proofs.receiving.Acts.{Act, Cancels, Claims, Closes, Discards, Draws, Drops, Fills, Gets, Joins, Passes, Posts, Rests, Seats, Takes, Waits, entry_for, given, leaving, let_out, subject, thrown}
use Rattle.fab_laws.proofs.receiving.Pasting.{paste_long}
use Rattle.fab_laws.proofs.receiving.Claiming.{Dull, Freed, Gone, News, Put, Still, Thrown}
use Rattle.fab_laws.proofs.receiving.Settling.{Flows, HasItem, SettledAt, message_more, of_more}

-- ---- the events that give nothing to a receive

module _ (n call : ℕ) (past : List Event) where
  dull_used : (es : List Event) → Each Dull es → used_in n call (es ++ past) ≡ used_in n call past
  dull_used [] dull = refl
  dull_used (Came m ∷ es) dull = dull_used es dull.1
  dull_used (Made w ∷ es) dull = dull_used es dull.1
  dull_used (Got c m last ∷ es) dull = never dull.0
  dull_used (Lost m ∷ es) dull = never dull.0
  dull_used (Cancelled c ∷ es) dull = dull_used es dull.1

  dull_placed : (es : List Event) → Each Dull es → placed n call (es ++ past) ≡ placed n call past
  dull_placed [] dull = refl
  dull_placed (Came m ∷ es) dull = dull_placed es dull.1
  dull_placed (Made w ∷ es) dull = dull_placed es dull.1
  dull_placed (Got c m last ∷ es) dull = never dull.0
  dull_placed (Lost m ∷ es) dull = never dull.0
  dull_placed (Cancelled c ∷ es) dull = dull_placed es dull.1

-- a receive that is made now got nothing before
pub none_before : (n call : ℕ) (past : List Event) → ((c : ℕ) (x : Mark) (last : Bool) → In (Got c x last) past → c < call) → used_in n call past ≡ 0
none_before n call [] below = refl
none_before n call (Came m ∷ past) below = none_before n call past (λ c x last i. below c x last (inr i))
none_before n call (Made w ∷ past) below = none_before n call past (λ c x last i. below c x last (inr i))
none_before n call (Got c m last ∷ past) below =
    let other : (c == call) ≡ false = ne_eqb c call (λ e. absurd (let lt = below c m last (inl refl) in omega (arith, lt, e))) in
    ap (λ (b : Bool). elim b [ true ↦ used_in n call past + min m.head.total (n - used_in n call past) | false ↦ used_in n call past ]) other ∙ none_before n call past (λ d x k i. below d x k (inr i))
none_before n call (Lost m ∷ past) below = none_before n call past (λ c x last i. below c x last (inr i))
none_before n call (Cancelled c ∷ past) below = none_before n call past (λ d x last i. below d x last (inr i))

pub none_placed : (n call : ℕ) (past : List Event) → ((c : ℕ) (x : Mark) (last : Bool) → In (Got c x last) past → c < call) → placed n call past ≡ []
none_placed n call [] below = refl
none_placed n call (Came m ∷ past) below = none_placed n call past (λ c x last i. below c x last (inr i))
none_placed n call (Made w ∷ past) below = none_placed n call past (λ c x last i. below c x last (inr i))
none_placed n call (Got c m last ∷ past) below =
    let other : (c == call) ≡ false = ne_eqb c call (λ e. absurd (let lt = below c m last (inl refl) in omega (arith, lt, e))) in
    ap (λ (b : Bool). let xs : List (Mark × ℕ) = elim b [ true ↦ (m, used_in n call past) ∷ placed n call past | false ↦ placed n call past ] in xs) other ∙ none_placed n call past (λ d x k i. below d x k (inr i))
none_placed n call (Lost m ∷ past) below = none_placed n call past (λ c x last i. below c x last (inr i))
none_placed n call (Cancelled c ∷ past) below = none_placed n call past (λ d x last i. below d x last (inr i))

-- ---- the receives posted, as far as their places go

pub record Seat : Type 0 where
  pub call : ℕ
  pub used : ℕ
  pub long : ℕ

abbrev pub seat_of : Receive → Seat
seat_of r = record { call = r.call; used = r.used; long = length r.buf }

filled_seat : (place : ℕ) (bytes : List ℕ) (r : Receive) → seat_of (filled place bytes r) ≡ seat_of r
filled_seat place bytes r = ap (λ k. let q : Seat = record { call = r.call; used = r.used; long = k } in q) (paste_long r.buf place bytes)

pub fill_seats : (r : Receive) (place : ℕ) (bytes : List ℕ) (xs : List Receive) → map seat_of (fill_multi r place bytes xs) ≡ map seat_of xs
fill_seats r place bytes xs = go r.least
  where
    go : (o : Option ℕ) → map seat_of (let ys : List Receive = elim o [ None ↦ xs | Some _ ↦ change_first (is_made_by r.call) (filled place bytes) xs ] in ys) ≡ map seat_of xs
    go None = refl
    go (Some n) = changed_same seat_of (is_made_by r.call) (filled place bytes) xs (filled_seat place bytes)

pub given_seats : (r : Receive) (place : ℕ) (y : Arrival) (rx : Receiving) → map seat_of (given r place y rx).posted ≡ map seat_of rx.posted
given_seats r place y rx = go y.bytes
  where
    go : (o : Option (List ℕ)) → map seat_of (let x : Receiving = elim o [ None ↦ goes y.source (Into r place) rx | Some bytes ↦ filling r place bytes rx ] in x).posted ≡ map seat_of rx.posted
    go None = refl
    go (Some bytes) = fill_seats r place bytes rx.posted

thrown_seats : (y : Arrival) (rx : Receiving) → map seat_of (thrown y rx).posted ≡ map seat_of rx.posted
thrown_seats y rx = go y.bytes
  where
    go : (o : Option (List ℕ)) → map seat_of (let x : Receiving = elim o [ None ↦ goes y.source Coming.Throw rx | Some bytes ↦ rx ] in x).posted ≡ map seat_of rx.posted
    go None = refl
    go (Some bytes) = refl

out_seats : (o : Option Receive) (rx : Receiving) → (let_out o rx).posted ≡ rx.posted
out_seats None rx = refl
out_seats (Some m) rx = refl

-- at each message that the receive of this call got, it takes no more exactly where fewer than so many bytes are left
abbrev pub ClosesEach : ℕ → ℕ → ℕ → List Event → Type 0
ClosesEach n least call [] = Always
ClosesEach n least call (Came m ∷ past) = ClosesEach n least call past
ClosesEach n least call (Made w ∷ past) = ClosesEach n least call past
ClosesEach n least call (Got c x last ∷ past) = (c ≡ call → last ≡ nat_lt (n - used_in n call (Got c x last ∷ past)) least) × ClosesEach n least call past
ClosesEach n least call (Lost m ∷ past) = ClosesEach n least call past
ClosesEach n least call (Cancelled c ∷ past) = ClosesEach n least call past

module _ (n least call : ℕ) (past : List Event) (closes : ClosesEach n least call past) where
  dull_closes : (es : List Event) → Each Dull es → ClosesEach n least call (es ++ past)
  dull_closes [] dull = closes
  dull_closes (Came m ∷ es) dull = dull_closes es dull.1
  dull_closes (Made w ∷ es) dull = dull_closes es dull.1
  dull_closes (Got c m last ∷ es) dull = never dull.0
  dull_closes (Lost m ∷ es) dull = never dull.0
  dull_closes (Cancelled c ∷ es) dull = dull_closes es dull.1

none_closes : (n least call : ℕ) (past : List Event) → ((c : ℕ) (x : Mark) (last : Bool) → In (Got c x last) past → c < call) → ClosesEach n least call past
none_closes n least call [] below = always
none_closes n least call (Came m ∷ past) below = none_closes n least call past (λ c x last i. below c x last (inr i))
none_closes n least call (Made w ∷ past) below = none_closes n least call past (λ c x last i. below c x last (inr i))
none_closes n least call (Got c m last ∷ past) below = (λ e. absurd (let lt = below c m last (inl refl) in omega (arith, lt, e)), none_closes n least call past (λ d x k i. below d x k (inr i)))
none_closes n least call (Lost m ∷ past) below = none_closes n least call past (λ c x last i. below c x last (inr i))
none_closes n least call (Cancelled c ∷ past) below = none_closes n least call past (λ d x last i. below d x last (inr i))

pub closes_when_full : (n least call : ℕ) (past : List Event) → ClosesEach n least call past → (later before : List Event) (x : Mark) (last : Bool) → past ≡ later ++ Got call x last ∷ before → last ≡ nat_lt (n - used_in n call (Got call x last ∷ before)) least
closes_when_full n least call past closes later before x last is = back later (subst (ClosesEach n least call) is closes)
  where
    rest : (z : Event) (zs : List Event) → ClosesEach n least call (z ∷ zs) → ClosesEach n least call zs
    rest (Came m) zs c = c
    rest (Made w) zs c = c
    rest (Got d m l) zs c = c.1
    rest (Lost m) zs c = c
    rest (Cancelled d) zs c = c

    back : (later : List Event) → ClosesEach n least call (later ++ Got call x last ∷ before) → last ≡ nat_lt (n - used_in n call (Got call x last ∷ before)) least
    back [] c = c.0 refl
    back (z ∷ zs) c = back zs (rest z (zs ++ Got call x last ∷ before) c)

pub record Placing (v : View Item) (past : List Event) (m : List Receive) (s : State) : Type 0 where
  -- what is posted, for many messages, has given away what its messages take
  pub sized : (f : Receive) (least : ℕ) (q : Seat) → In f m → f.least ≡ Some least → In q (map seat_of s.rx.posted) → q.call ≡ f.call → (q.long ≡ length f.buf) × (q.used ≡ used_in (length f.buf) f.call past)
  pub places : (f : Receive) (least : ℕ) (x : Mark) (place : ℕ) → In f m → f.least ≡ Some least → In (x, place) (placed (length f.buf) f.call past) → SettledAt v m s f.call x place
  pub closes : (f : Receive) (least : ℕ) → In f m → f.least ≡ Some least → ClosesEach (length f.buf) least f.call past

-- ---- a receive that takes a message

-- the first that passes is replaced, and no other has its call
module _ (xs : List Receive) (apart : (q r : Receive) → Ahead q r xs → q.call ≡ r.call → Never) (test : Receive → Bool) (r : Receive) (found : find test xs ≡ Some r) where
  pub split : Split test xs r
  split = split_at test xs r found

  one_front : (q : Receive) → In q split.front → q.call ≡ r.call → Never
  one_front q i e = apart q r (subst (λ zs. Ahead q r zs) (sym split.whole) (front_ahead q split.front i)) e
    where
      front_ahead : (q : Receive) (front : List Receive) → In q front → Ahead q r (front ++ r ∷ split.back)
      front_ahead q [] i = never i
      front_ahead q (z ∷ front) (inl e) = inl (e, in_middle r front split.back)
      front_ahead q (z ∷ front) (inr i) = inr (front_ahead q front i)

  one_back : (q : Receive) → In q split.back → q.call ≡ r.call → Never
  one_back q i e = apart r q (subst (λ zs. Ahead r q zs) (sym split.whole) (ahead_middle r q split.front split.back i)) (sym e)

  sides : (q : Receive) (ys zs : List Receive) → In q (ys ++ zs) → In q ys ⊎ In q zs
  sides q [] zs i = inr i
  sides q (y ∷ ys) zs (inl e) = inl (inl e)
  sides q (y ∷ ys) zs (inr i) = elim (sides q ys zs i) [ inl j ↦ inl (inr j) | inr j ↦ inr j ]

  pub in_parts : (q : Receive) → In q (split.front ++ split.back) → In q xs × (q.call ≡ r.call → Never)
  in_parts q i = elim (sides q split.front split.back i) [
    | inl j ↦ (subst (λ zs. In q zs) (sym split.whole) (in_front q split.front (r ∷ split.back) j), one_front q j)
    | inr j ↦ (subst (λ zs. In q zs) (sym split.whole) (in_back q split.front (r ∷ split.back) (inr j)), one_back q j)
  ]

  pub seated_seats : (total : ℕ) (q : Receive) → In q (seated test total r xs) → (In q xs × (q.call ≡ r.call → Never)) ⊎ (q ≡ used_up total r)
  seated_seats total q i = go (stays total r) i
    where
      go : (b : Bool) → In q (let zs : List Receive = elim b [ true ↦ change_first test (used_up total) xs | false ↦ remove_first test xs ] in zs) → (In q xs × (q.call ≡ r.call → Never)) ⊎ (q ≡ used_up total r)
      go true j = elim (in_less q (used_up total r) split.front split.back (subst (In q) (split.changed (used_up total)) j)) [ inl k ↦ inl (in_parts q k) | inr e ↦ inr e ]
      go false j = inl (in_parts q (subst (In q) split.removed j))

  pub seated_stays : (total : ℕ) → stays total r ≡ true → In (used_up total r) (seated test total r xs)
  seated_stays total e = subst (λ (b : Bool). In (used_up total r) (let zs : List Receive = elim b [ true ↦ change_first test (used_up total) xs | false ↦ remove_first test xs ] in zs)) (sym e)
      (subst (In (used_up total r)) (sym (split.changed (used_up total))) (in_middle (used_up total r) split.front split.back))

  pub seated_goes : (total : ℕ) → stays total r ≡ false → (q : Receive) → In q (seated test total r xs) → q.call ≡ r.call → Never
  seated_goes total e q i = (in_parts q (subst (In q) split.removed (subst (λ (b : Bool). In q (let zs : List Receive = elim b [ true ↦ change_first test (used_up total) xs | false ↦ remove_first test xs ] in zs)) e i))).1

-- ---- each step

-- what a step does to the receives posted, and which of them is given a message; rs are the receives that its call makes
pub data Rows (rs : List Receive) (s t : State) (o : Option (Receive × Mark)) : Type 0 where
  Stay : ((q : Seat) → In q (map seat_of t.rx.posted) → In q (map seat_of s.rx.posted)) → ((r : Receive) (x : Mark) → o ≡ Some (r, x) → (r.least ≡ None) × In r rs) → Rows rs s t o
  Join : (f : Receive) → In f rs → f.used ≡ 0 → map seat_of t.rx.posted ≡ map seat_of s.rx.posted ++ seat_of f ∷ [] → o ≡ None → Rows rs s t o
  Give : (r : Receive) (x : Mark) → o ≡ Some (r, x) → In r s.rx.posted
      → ((q : Seat) → In q (map seat_of t.rx.posted) → (In q (map seat_of s.rx.posted) × (q.call ≡ r.call → Never)) ⊎ (q ≡ seat_of (used_up x.head.total r)))
      → (is_posted r.call t ≡ stays x.head.total r) → Rows rs s t o

-- the receives posted have different calls
pub posted_apart : (n : ℕ) (past : List Event) (s : State) → Keeps n past s → (q r : Receive) → Ahead q r s.rx.posted → q.call ≡ r.call → Never
posted_apart n past s keeps q r ahead e =
    let a = ahead_map wish_of q r s.rx.posted ahead in
    let both = ahead_in (wish_of q) (wish_of r) (map wish_of s.rx.posted) a in
    let same : wish_of q ≡ wish_of r = keeps.holds.same_calls (wish_of q) (wish_of r) (keeps.holds.posted_made (wish_of q) both.0) (keeps.holds.posted_made (wish_of r) both.1) e in
    let b = keeps.holds.posted_order (wish_of q) (wish_of r) a in
    let c : Ahead (wish_of r) (wish_of r) (made past) = subst (λ z. Ahead (wish_of r) z (made past)) same b in
    keeps.holds.made_once (wish_of r) (wish_of r) c c

module _ (n : ℕ) (past : List Event) (v : View Item) (s t : State) (x : Deed) (rs : List Receive) (keeps : Keeps n past s) (posted : (p : Posting) → x ≡ Makes (Some (Post p)) → t.calls ≡ s.calls + 1 → In (receive_of s p) rs) (took : (buf : List ℕ) (ctx : ℕ) → x ≡ Makes (Some (TakeClaimed buf ctx)) → t.calls ≡ s.calls + 1 → In (taking s buf ctx) rs) where
  apart : (q r : Receive) → Ahead q r s.rx.posted → q.call ≡ r.call → Never
  apart q r a e = posted_apart n past s keeps q r a e

  stay : (o : Option (Receive × Mark)) → o ≡ None → map seat_of t.rx.posted ≡ map seat_of s.rx.posted → Rows rs s t o
  stay o none e = Stay (λ q i. subst (In q) e i) (λ r y f. absurd (let g : None ≡ Some (r, y) = sym none ∙ f in cc (g)))

  single : (r : Receive) (y : Mark) → r.least ≡ None → In r rs → map seat_of t.rx.posted ≡ map seat_of s.rx.posted → Rows rs s t (Some (r, y))
  single r y least made e = Stay (λ q i. subst (In q) e i) (λ f z g. (let h : (r, y) ≡ (f, z) = some_same (r, y) (f, z) g in subst (λ (p : Receive × Mark). (p.0.least ≡ None) × In p.0 rs) h (least, made)))

  gives : (test : Receive → Bool) (r : Receive) (y : Mark) → find test s.rx.posted ≡ Some r → map seat_of t.rx.posted ≡ map seat_of (seated test y.head.total r s.rx.posted) → Rows rs s t (Some (r, y))
  gives test r y found e = Give r y refl (found_in test s.rx.posted r found).0 (λ q i.
      let m = mapped seat_of q (seated test y.head.total r s.rx.posted) (subst (In q) e i) in
      elim (seated_seats s.rx.posted apart test r found y.head.total m.0 m.1) [
        | inl old ↦ inl (subst (λ (z : Seat). In z (map seat_of s.rx.posted)) (sym m.2) (in_map seat_of m.0 s.rx.posted old.0), λ same. old.1 (ap (λ (z : Seat). z.call) (sym m.2) ∙ same))
        | inr new ↦ inr (m.2 ∙ ap seat_of new)
      ]) (seen (stays y.head.total r) refl)
    where
      seen : (b : Bool) → stays y.head.total r ≡ b → is_posted r.call t ≡ stays y.head.total r
      seen true k =
          let i = in_map seat_of (used_up y.head.total r) (seated test y.head.total r s.rx.posted) (seated_stays s.rx.posted apart test r found y.head.total k) in
          let z = mapped seat_of (seat_of (used_up y.head.total r)) t.rx.posted (subst (In (seat_of (used_up y.head.total r))) (sym e) i) in
          any_in (is_made_by r.call) z.0 t.rx.posted z.1 (eq-eqb z.0.call r.call (ap (λ (c : Seat). c.call) (sym z.2))) ∙ sym k
      seen false k = none_any (is_made_by r.call) t.rx.posted (λ z i c.
          let w = mapped seat_of (seat_of z) (seated test y.head.total r s.rx.posted) (subst (In (seat_of z)) e (in_map seat_of z t.rx.posted i)) in
          seated_goes s.rx.posted apart test r found y.head.total k w.0 w.1 (ap (λ (d : Seat). d.call) (sym w.2) ∙ eqb-true z.call r.call c)) ∙ sym k

  pub rows : (did : Act v s x t) → Rows rs s t (subject v s x t did)
  unfolding keeping
  rows (Rests no_head idle) = stay None refl (ap (λ (z : Receiving). map seat_of z.posted) idle.rx)
  rows (Posts p is calls rx written) = Join (receive_of s p) (posted p is calls) refl (ap (λ (z : Receiving). map seat_of z.posted) rx ∙ map_append seat_of s.rx.posted (receive_of s p ∷ [])) refl
  rows (Gets p y is calls least found rx written) = single (receive_of s p) (mark_of y) least (posted p is calls) (ap (λ (z : Receiving). map seat_of z.posted) rx ∙ given_seats (receive_of s p) 0 y (without_first (receive_of s p).want s.rx))
  rows (Claims source tag ignore ctx y w is calls found rx written plain) = stay None refl (ap (λ (z : Receiving). map seat_of z.posted) rx)
  rows (Discards source tag ignore ctx y w is calls found rx written plain) = stay None refl (ap (λ (z : Receiving). map seat_of z.posted) rx ∙ thrown_seats y _)
  rows (Takes buf ctx y is calls found rx written) = single (taking s buf ctx) (mark_of y) refl (took buf ctx is calls) (ap (λ (z : Receiving). map seat_of z.posted) rx ∙ given_seats (taking s buf ctx) 0 y (without_claim ctx s.rx))
  rows (Drops ctx y w is calls found rx written plain) = stay None refl (ap (λ (z : Receiving). map seat_of z.posted) rx ∙ thrown_seats y _)
  rows (Cancels c test r is which calls found rx written) = Stay (λ q i.
      let m = mapped seat_of q (remove_first (may_leave s.rx test) s.rx.posted) (subst (In q) (ap (λ (z : Receiving). map seat_of z.posted) rx) i) in
      subst (λ (z : Seat). In z (map seat_of s.rx.posted)) (sym m.2) (in_map seat_of m.0 s.rx.posted (in_removed (may_leave s.rx test) s.rx.posted m.0 m.1))) (λ r y f. absurd (cc (f)))
  rows (Seats source item r is arrives message found rx written) = gives (is_wanted source item.head) r (record { source = source; place = slice_index s.rx.heads source; head = item.head }) found (ap (λ (z : Receiving). map seat_of z.posted) rx)
  rows (Waits source item is arrives message found rx written) = stay None refl (ap (λ (z : Receiving). map seat_of z.posted) rx)
  rows (Passes source item c is arrives other no_into rx written) = stay None refl (ap (λ (z : Receiving). map seat_of z.posted) rx)
  rows (Draws r y is found first mid is_mid rx written) = gives (draws s.rx.unexpected) r (mark_of y) found
      (ap (λ (z : Receiving). map seat_of z.posted) rx ∙ ap (map seat_of) (out_seats (leaving r mid) mid) ∙ ap (λ (z : Receiving). map seat_of z.posted) is_mid ∙ given_seats r r.used y (without_first r.want (seating y.head.total r s.rx.unexpected s.rx)))
  rows (Fills source item r place is ends from mid is_mid rx written) = stay None refl
      (ap (λ (z : Receiving). map seat_of z.posted) rx ∙ ap (map seat_of) (out_seats (leaving r mid) mid) ∙ ap (λ (z : Receiving). map seat_of z.posted) is_mid ∙ fill_seats r place item.bytes s.rx.posted)
  rows (Joins source item is ends from rx written) = stay None refl (ap (λ (z : Receiving). map seat_of z.posted) rx)
  rows (Closes source item more is ends no_into no_keep rx written plain) = stay None refl (ap (λ (z : Receiving). map seat_of z.posted) rx)

-- ---- what the histories say after a step

-- nothing for many messages is given, or this receive is given this message
pub data Grows (past : List Event) (o : Option (Receive × Mark)) (es : List Event) : Type 0 where
  Level : ((n least call : ℕ) → ClosesEach n least call past → ClosesEach n least call (es ++ past)) → ((n call : ℕ) → used_in n call (es ++ past) ≡ used_in n call past) → ((n call : ℕ) → placed n call (es ++ past) ≡ placed n call past) → ((r : Receive) (x : Mark) → o ≡ Some (r, x) → r.least ≡ None) → Grows past o es
  Up : (r : Receive) (x : Mark) (last : Bool) (rest : List Event) → es ≡ Got r.call x last ∷ rest → Each Dull rest → o ≡ Some (r, x)
      → ((n call : ℕ) → used_in n call (es ++ past) ≡ elim (r.call == call) [ true ↦ used_in n call past + min x.head.total (n - used_in n call past) | false ↦ used_in n call past ])
      → ((n call : ℕ) → placed n call (es ++ past) ≡ (let xs : List (Mark × ℕ) = elim (r.call == call) [ true ↦ (x, used_in n call past) ∷ placed n call past | false ↦ placed n call past ] in xs)) → Grows past o es

no_one : (o : Option (Receive × Mark)) → o ≡ None → (r : Receive) (x : Mark) → o ≡ Some (r, x) → r.least ≡ None
no_one o none r x e = absurd (let f : None ≡ Some (r, x) = sym none ∙ e in cc (f))

pub grows : (past : List Event) (o : Option (Receive × Mark)) (before after : List (ℕ × Mark)) (es : List Event) (hs : List Handling) → News past o before after es hs → Grows past o es
grows past o before after es hs (Still whose dull none same) = Level (λ n least call c. dull_closes n least call past c es dull) (λ n call. dull_used n call past es dull) (λ n call. dull_placed n call past es dull) (no_one o whose)
grows past o before after es hs (Gone r x last rest whose fresh is dull none same) = Up r x last rest is dull whose
    (λ n call. ap (λ (zs : List Event). used_in n call (zs ++ past)) is ∙ ap (λ (u : ℕ). elim (r.call == call) [ true ↦ u + min x.head.total (n - u) | false ↦ u ]) (dull_used n call past rest dull))
    (λ n call. ap (λ (zs : List Event). placed n call (zs ++ past)) is ∙ ap₂ (λ (u : ℕ) (ps : List (Mark × ℕ)). let xs : List (Mark × ℕ) = elim (r.call == call) [ true ↦ (x, u) ∷ ps | false ↦ ps ] in xs) (dull_used n call past rest dull) (dull_placed n call past rest dull))
grows past o before after es hs (Put ctx x rest whose fresh is dull one more) =
    Level (λ n least c k. subst (λ (zs : List Event). ClosesEach n least c (zs ++ past)) (sym is) (dull_closes n least c past k rest dull)) (λ n call. ap (λ (zs : List Event). used_in n call (zs ++ past)) is ∙ dull_used n call past rest dull) (λ n call. ap (λ (zs : List Event). placed n call (zs ++ past)) is ∙ dull_placed n call past rest dull) (no_one o whose)
grows past o before after es hs (Thrown call x rest whose fresh is dull one same) =
    Level (λ n least c k. subst (λ (zs : List Event). ClosesEach n least c (zs ++ past)) (sym is) (dull_closes n least c past k rest dull)) (λ n c. ap (λ (zs : List Event). used_in n c (zs ++ past)) is ∙ dull_used n c past rest dull) (λ n c. ap (λ (zs : List Event). placed n c (zs ++ past)) is ∙ dull_placed n c past rest dull) (no_one o whose)
grows past o before after es hs (Freed call ctx x e (inl (r, whose, number, context, least, is)) dull one there loses) =
    Level (λ n least c k. dull_closes n least c past k es dull) (λ n c. dull_used n c past es dull) (λ n c. dull_placed n c past es dull) (λ q y f. (let g : (r, x) ≡ (q, y) = some_same (r, x) (q, y) (sym whose ∙ f) in ap (λ (p : Receive × Mark). p.0.least) (sym g) ∙ least))
grows past o before after es hs (Freed call ctx x e (inr (none, is)) dull one there loses) = Level (λ n least c k. dull_closes n least c past k es dull) (λ n c. dull_used n c past es dull) (λ n c. dull_placed n c past es dull) (no_one o none)

-- who has a place got the message
pub placed_got : (n call : ℕ) (x : Mark) (place : ℕ) (past : List Event) → In (x, place) (placed n call past) → (c : ℕ) × (last : Bool) × In (Got c x last) past
placed_got n call x place [] i = never i
placed_got n call x place (Came m ∷ past) i = let g = placed_got n call x place past i in (g.0, g.1, inr g.2)
placed_got n call x place (Made w ∷ past) i = let g = placed_got n call x place past i in (g.0, g.1, inr g.2)
placed_got n call x place (Lost m ∷ past) i = let g = placed_got n call x place past i in (g.0, g.1, inr g.2)
placed_got n call x place (Cancelled c ∷ past) i = let g = placed_got n call x place past i in (g.0, g.1, inr g.2)
placed_got n call x place (Got c m last ∷ past) i = go (c == call) (λ j. placed_got n call x place past j) i
  where
    go : (b : Bool) → (In (x, place) (placed n call past) → (d : ℕ) × (k : Bool) × In (Got d x k) past) → In (x, place) (let xs : List (Mark × ℕ) = elim b [ true ↦ (m, used_in n call past) ∷ placed n call past | false ↦ placed n call past ] in xs) → (d : ℕ) × (k : Bool) × In (Got d x k) (Got c m last ∷ past)
    go true more (inl e) = (c, last, inl (ap (λ (p : Mark × ℕ). Got c p.0 last) e))
    go true more (inr j) = let g = more j in (g.0, g.1, inr g.2)
    go false more j = let g = more j in (g.0, g.1, inr g.2)

module _ (v : View Item) (past : List Event) (h : List Handling) (m rs : List Receive) (s t : State) (o : Option (Receive × Mark)) (es : List Event)
    (into : (q : ℕ) (r : Receive) (place : ℕ) → coming_from s.rx q ≡ Some (Into r place) → IsInto m r place) (one : (f g : Receive) → In f (rs ++ m) → In g (rs ++ m) → f.call ≡ g.call → f ≡ g)
    (stands : (r : Receive) → In r s.rx.posted → IsOf m r) (new : (f : Receive) → In f rs → f.call ≡ s.calls) (calls : (c : ℕ) (x : Mark) (last : Bool) → In (Got c x last) past → c < s.calls) (old_calls : (f : Receive) → In f m → f.call < s.calls)
    (got_came : (c : ℕ) (x : Mark) (last : Bool) → In (Got c x last) past → HasItem v x)
    (flag : (c : ℕ) (x : Mark) (last : Bool) → In (Got c x last) es → last ≡ not (is_posted c t))
    (placing : Placing v past m s) (flows : Flows v past h (rs ++ m) s t o) (up : Grows past o es) (does : Rows rs s t o) where
  either : (f : Receive) → In f (rs ++ m) → In f rs ⊎ In f m
  either f i = go rs i
    where
      go : (zs : List Receive) → In f (zs ++ m) → In f zs ⊎ In f m
      go [] i = inr i
      go (z ∷ zs) (inl e) = inl (inl e)
      go (z ∷ zs) (inr i) = elim (go zs i) [ inl j ↦ inl (inr j) | inr j ↦ inr j ]

  posted_calls : (q : Seat) → In q (map seat_of s.rx.posted) → q.call < s.calls
  posted_calls q i = let r = mapped seat_of q s.rx.posted i in let is = stands r.0 r.1 in omega (arith, ap (λ (z : Seat). z.call) r.2, is.call, old_calls is.first is.asked)

  -- a receive for many messages is none that is given one as its only message
  not_single : (f : Receive) (least : ℕ) (r : Receive) → In f (rs ++ m) → f.least ≡ Some least → In r (rs ++ m) → r.call ≡ f.call → r.least ≡ None → Never
  not_single f least r i e j call none = absurd (let same : r ≡ f = one r f j i call in let g : None ≡ Some least = sym none ∙ ap (λ (z : Receive). z.least) same ∙ e in cc (g))

  -- what was posted before
  before_seat : (f : Receive) (least : ℕ) (q : Seat) → In f (rs ++ m) → f.least ≡ Some least → In q (map seat_of s.rx.posted) → q.call ≡ f.call → (q.long ≡ length f.buf) × (q.used ≡ used_in (length f.buf) f.call past)
  before_seat f least q i e j call = elim (either f i) [
    | inl made ↦ absurd (omega (arith, posted_calls q j, new f made, call))
    | inr k ↦ placing.sized f least q k e j call
  ]

  level_for : (f : Receive) (least : ℕ) → In f (rs ++ m) → f.least ≡ Some least → ((r : Receive) (x : Mark) → o ≡ Some (r, x) → r.call ≡ f.call → Never) → used_in (length f.buf) f.call (es ++ past) ≡ used_in (length f.buf) f.call past
  level_for f least i e none = go up
    where
      go : Grows past o es → used_in (length f.buf) f.call (es ++ past) ≡ used_in (length f.buf) f.call past
      go (Level closing used places single) = used (length f.buf) f.call
      go (Up r x last rest es_is dull whose used places) =
          let other : (r.call == f.call) ≡ false = ne_eqb r.call f.call (λ same. never (none r x whose same)) in
          used (length f.buf) f.call ∙ ap (λ (b : Bool). elim b [ true ↦ used_in (length f.buf) f.call past + min x.head.total (length f.buf - used_in (length f.buf) f.call past) | false ↦ used_in (length f.buf) f.call past ]) other

  sized_now : (f : Receive) (least : ℕ) (q : Seat) → In f (rs ++ m) → f.least ≡ Some least → In q (map seat_of t.rx.posted) → q.call ≡ f.call → (q.long ≡ length f.buf) × (q.used ≡ used_in (length f.buf) f.call (es ++ past))
  sized_now f least q i e j call = go does
    where
      go : Rows rs s t o → (q.long ≡ length f.buf) × (q.used ≡ used_in (length f.buf) f.call (es ++ past))
      go (Stay back single) =
          let was = before_seat f least q i e (back q j) call in
          (was.0, was.1 ∙ sym (level_for f least i e (λ r x whose same. let k = single r x whose in not_single f least r i e (in_front r rs m k.1) same k.0)))
      go (Join g made zero_used joined none) =
          let level = level_for f least i e (λ r x whose same. absurd (let k : None ≡ Some (r, x) = sym none ∙ whose in cc (k))) in
          elim (in_end q (seat_of g) (map seat_of s.rx.posted) (subst (In q) joined j)) [
            | inl k ↦ (let was = before_seat f least q i e k call in (was.0, was.1 ∙ sym level))
            | inr k ↦ (
                let same : g ≡ f = one g f (in_front g rs m made) i (ap (λ (z : Seat). z.call) (sym k) ∙ call) in (
                  ap (λ (z : Seat). z.long) k ∙ ap (λ (z : Receive). length z.buf) same,
                  ap (λ (z : Seat). z.used) k ∙ zero_used ∙ sym (level ∙ none_before (length f.buf) f.call past (λ c x last l. omega (arith, calls c x last l, new g made, ap (λ (z : Receive). z.call) same))),
                ))
          ]
      go (Give r x whose there each seen) = elim (each q j) [
        | inl (k, other) ↦ (
            let was = before_seat f least q i e k call in
            (was.0, was.1 ∙ sym (level_for f least i e (λ g y is same. other (call ∙ sym same ∙ ap (λ (p : Receive × Mark). p.0.call) (some_same (g, y) (r, x) (sym is ∙ whose)))))))
        | inr k ↦ (
            let number : r.call ≡ f.call = ap (λ (z : Seat). z.call) (sym k) ∙ call in
            let was = before_seat f least (seat_of r) i e (in_map seat_of r s.rx.posted there) number in (
              ap (λ (z : Seat). z.long) k ∙ was.0,
              ap (λ (z : Seat). z.used) k ∙ ap₂ (λ (u n : ℕ). u + min x.head.total (n - u)) was.1 was.0 ∙ sym (grown r x whose there number),
            ))
      ]
        where
          grown : (r : Receive) (x : Mark) → o ≡ Some (r, x) → In r s.rx.posted → r.call ≡ f.call → used_in (length f.buf) f.call (es ++ past) ≡ used_in (length f.buf) f.call past + min x.head.total (length f.buf - used_in (length f.buf) f.call past)
          grown r x whose there number = by up
            where
              by : Grows past o es → used_in (length f.buf) f.call (es ++ past) ≡ used_in (length f.buf) f.call past + min x.head.total (length f.buf - used_in (length f.buf) f.call past)
              by (Level closing used places single) =
                  let is = stands r there in
                  let same : is.first ≡ f = one is.first f (in_back is.first rs m is.asked) i (sym is.call ∙ number) in
                  absurd (let g : None ≡ Some least = sym (single r x whose) ∙ is.least ∙ ap (λ (z : Receive). z.least) same ∙ e in cc (g))
              by (Up g y last rest es_is dull is used places) =
                  let p : (g, y) ≡ (r, x) = some_same (g, y) (r, x) (sym is ∙ whose) in
                  let mine : (g.call == f.call) ≡ true = eq-eqb g.call f.call (ap (λ (z : Receive × Mark). z.0.call) p ∙ number) in
                  used (length f.buf) f.call
                  ∙ ap (λ (b : Bool). elim b [ true ↦ used_in (length f.buf) f.call past + min y.head.total (length f.buf - used_in (length f.buf) f.call past) | false ↦ used_in (length f.buf) f.call past ]) mine
                  ∙ ap (λ (z : Receive × Mark). used_in (length f.buf) f.call past + min z.1.head.total (length f.buf - used_in (length f.buf) f.call past)) p

  -- what had a place has it
  old_at : (call : ℕ) (x : Mark) (place : ℕ) → HasItem v x → SettledAt v m s call x place → SettledAt v (rs ++ m) t call x place
  unfolding message_more
  old_at call x place has (inr (w, there, (y, number, source, k, head, at))) = inr (w, flows.written w there, (message_more rs m v.ready s.rx.tails t.rx.tails w flows.tails y, number, source, k, head, at))
  old_at call x place has (inl (r, comes, number, here)) = elim (flows.stays x.source r place comes) [
    | inl same ↦ inl (r, same.0, number, here ∙ sym same.1)
    | inr ends ↦ (
        let item = ends.0 in
        let same : has.0 ≡ item = some_same has.0 item (sym has.1 ∙ ap (slice_get (v.ready x.source)) here ∙ ends.1) in
        let is = into x.source r place comes in
        inr (
          entry_for r place x.source item.head item.bytes,
          ends.3,
          (
            record {
              r = r;
              of = of_more rs m r is.0;
              place = place;
              single = is.1;
              source = x.source;
              k = slice_index s.rx.tails x.source;
              item = item;
              at = ends.1;
              whole = ends.2;
              call = refl;
              entry = refl;
            },
            number,
            refl,
            sym here,
            ap (λ (z : Item). z.head) (sym same) ∙ has.2,
            refl,
          ),
        ))
  ]

  places_now : (f : Receive) (least : ℕ) (x : Mark) (place : ℕ) → In f (rs ++ m) → f.least ≡ Some least → In (x, place) (placed (length f.buf) f.call (es ++ past)) → SettledAt v (rs ++ m) t f.call x place
  places_now f least x place i e j = go up
    where
      before : In (x, place) (placed (length f.buf) f.call past) → SettledAt v (rs ++ m) t f.call x place
      before k = elim (either f i) [
        | inl made ↦ never (let l : In {X = Mark × ℕ} (x, place) [] = subst (In {X = Mark × ℕ} (x, place)) (none_placed (length f.buf) f.call past (λ c y last l. omega (arith, calls c y last l, new f made))) k in l)
        | inr l ↦ (let g = placed_got (length f.buf) f.call x place past k in old_at f.call x place (got_came g.0 x g.1 g.2) (placing.places f least x place l e k))
      ]

      given_now : (r : Receive) (y : Mark) → o ≡ Some (r, y) → r.call ≡ f.call → SettledAt v (rs ++ m) t f.call y (used_in (length f.buf) f.call past)
      given_now r y whose number = subst (λ (c : ℕ). SettledAt v (rs ++ m) t c y (used_in (length f.buf) f.call past)) number (subst (SettledAt v (rs ++ m) t r.call y) (used does) (flows.given r y whose))
        where
          used : Rows rs s t o → r.used ≡ used_in (length f.buf) f.call past
          used (Stay back single) = let k = single r y whose in never (not_single f least r i e (in_front r rs m k.1) number k.0)
          used (Join g made zero_used joined none) = absurd (let k : None ≡ Some (r, y) = sym none ∙ whose in cc (k))
          used (Give g z is there each seen) =
              let p : (g, z) ≡ (r, y) = some_same (g, z) (r, y) (sym is ∙ whose) in
              let same : g ≡ r = ap (λ (q : Receive × Mark). q.0) p in
              (before_seat f least (seat_of r) i e (in_map seat_of r s.rx.posted (subst (λ (q : Receive). In q s.rx.posted) same there)) number).1

      go : Grows past o es → SettledAt v (rs ++ m) t f.call x place
      go (Level closing used places single) = before (subst (In {X = Mark × ℕ} (x, place)) (places (length f.buf) f.call) j)
      go (Up r y last rest es_is dull whose used places) = by (r.call == f.call) refl (subst (In {X = Mark × ℕ} (x, place)) (places (length f.buf) f.call) j)
        where
          by : (b : Bool) → (r.call == f.call) ≡ b → In (x, place) (let xs : List (Mark × ℕ) = elim b [ true ↦ (y, used_in (length f.buf) f.call past) ∷ placed (length f.buf) f.call past | false ↦ placed (length f.buf) f.call past ] in xs) → SettledAt v (rs ++ m) t f.call x place
          by true mine (inl k) = subst (λ (q : Mark × ℕ). SettledAt v (rs ++ m) t f.call q.0 q.1) (sym k) (given_now r y whose (eqb-true r.call f.call mine))
          by true mine (inr k) = before k
          by false other k = before k

  closes_now : (f : Receive) (least : ℕ) → In f (rs ++ m) → f.least ≡ Some least → ClosesEach (length f.buf) least f.call (es ++ past)
  closes_now f least i e = go up
    where
      before : ClosesEach (length f.buf) least f.call past
      before = elim (either f i) [
        | inl made ↦ none_closes (length f.buf) least f.call past (λ c x last l. omega (arith, calls c x last l, new f made))
        | inr k ↦ placing.closes f least k e
      ]

      not_not : (b : Bool) → not (not b) ≡ b
      not_not true = refl
      not_not false = refl

      full : (r : Receive) (x : Mark) (last : Bool) → o ≡ Some (r, x) → last ≡ not (is_posted r.call t) → r.call ≡ f.call → Rows rs s t o
          → last ≡ nat_lt (length f.buf - (used_in (length f.buf) f.call past + min x.head.total (length f.buf - used_in (length f.buf) f.call past))) least
      full r x last whose so number (Stay back single) = let k = single r x whose in never (not_single f least r i e (in_front r rs m k.1) number k.0)
      full r x last whose so number (Join g made zero_used joined none) = absurd (let k : None ≡ Some (r, x) = sym none ∙ whose in cc (k))
      full r x last whose so number (Give g z is there each seen) =
          let p : (g, z) ≡ (r, x) = some_same (g, z) (r, x) (sym is ∙ whose) in
          let same : g ≡ r = ap (λ (q : Receive × Mark). q.0) p in
          let here : In r s.rx.posted = subst (λ (q : Receive). In q s.rx.posted) same there in
          let posted : is_posted r.call t ≡ stays x.head.total r = subst (λ (q : Receive × Mark). is_posted q.0.call t ≡ stays q.1.head.total q.0) p seen in
          let of = stands r here in
          let first : of.first ≡ f = one of.first f (in_back of.first rs m of.asked) i (sym of.call ∙ number) in
          let size : r.least ≡ Some least = of.least ∙ ap (λ (q : Receive). q.least) first ∙ e in
          let was = before_seat f least (seat_of r) i e (in_map seat_of r s.rx.posted here) number in
          so ∙ ap not posted
          ∙ ap not (ap (λ (w : Option ℕ). elim w [ None ↦ false | Some k ↦ not (nat_lt (length r.buf - (r.used + min x.head.total (length r.buf - r.used))) k) ]) size)
          ∙ not_not _
          ∙ ap₂ (λ (n u : ℕ). nat_lt (n - (u + min x.head.total (n - u))) least) was.0 was.1

      go : Grows past o es → ClosesEach (length f.buf) least f.call (es ++ past)
      go (Level closing used places single) = closing (length f.buf) least f.call before
      go (Up r x last rest es_is dull whose used places) = subst (λ (zs : List Event). ClosesEach (length f.buf) least f.call (zs ++ past)) (sym es_is) (now, dull_closes (length f.buf) least f.call past before rest dull)
        where
          now : r.call ≡ f.call → last ≡ nat_lt (length f.buf - used_in (length f.buf) f.call (Got r.call x last ∷ rest ++ past)) least
          now number =
              let mine : (r.call == f.call) ≡ true = eq-eqb r.call f.call number in
              let grown : used_in (length f.buf) f.call (Got r.call x last ∷ rest ++ past) ≡ used_in (length f.buf) f.call past + min x.head.total (length f.buf - used_in (length f.buf) f.call past) =
              ap (λ (zs : List Event). used_in (length f.buf) f.call (zs ++ past)) (sym es_is) ∙ used (length f.buf) f.call
              ∙ ap (λ (b : Bool). elim b [ true ↦ used_in (length f.buf) f.call past + min x.head.total (length f.buf - used_in (length f.buf) f.call past) | false ↦ used_in (length f.buf) f.call past ]) mine in
              full r x last whose (flag r.call x last (subst (In (Got r.call x last)) (sym es_is) (inl refl))) number does
              ∙ ap (λ (u : ℕ). nat_lt (length f.buf - u) least) (sym grown)

  pub next_places : Placing v (es ++ past) (rs ++ m) t
  next_places = record { sized = sized_now; places = places_now; closes = closes_now }

-- Of receives that are alike, each gets the message that has its own place.
use Rattle.std.proofs.Common.{◌≡◌, ◌<◌, ◌≤◌, ◌+◌, ℕ, zero, suc, Bool, true, false, List, [], ◌∷◌, ◌++◌, length, length-append, map, Some, None, slice_get, ◌⊎◌, inl, inr, refl, sym, ◌∙◌, ap, subst, arith, append_assoc}
use Rattle.fab_base.specs.declared.items.Item.{Item}
use Rattle.fab_base.specs.declared.operations.Receive.{Receive}
use Rattle.fab_base.specs.Kinds.{is_message}
use Rattle.fab_laws.specs.Members.{Ahead, In, Never}
use Rattle.fab_laws.specs.Matched.{Came, Cancelled, CancelledBefore, Event, Got, Lost, Made, Mark, Wish, came, cancelled, closed, made, wish_of, wishes, mark_at}
use Rattle.fab_laws.specs.Claimed.{lost}
use Rattle.fab_laws.specs.MatchingLaws.{GetsRightly, ServesInOrder, TakesInOrder}
use Rattle.fab_laws.proofs.Lists.{ahead_in, in_back, in_middle, map_append, mapped, never, ahead_middle as ahead_of_rest}
use Rattle.fab_laws.proofs.matching.Earlier.{closed_got}
use Rattle.fab_laws.proofs.receiving.Holding.{gone_how as gone_got}
use Rattle.fab_laws.proofs.receiving.Telling.{splits as in_split}
use Rattle.fab_merging.proofs.Lists.{member}
use Rattle.fab_doings.specs.Alike.{AreAlike}

-- ---- members

-- of two members, they are the same or one stands in front of the other
pub which : {X : Type 0} (x y : X) (xs : List X) → In x xs → In y xs → (x ≡ y) ⊎ (Ahead x y xs ⊎ Ahead y x xs)
which x y [] i j = never i
which x y (z ∷ zs) (inl e) (inl f) = inl (e ∙ sym f)
which x y (z ∷ zs) (inl e) (inr j) = inr (inl (inl (e, j)))
which x y (z ∷ zs) (inr i) (inl f) = inr (inr (inl (f, i)))
which x y (z ∷ zs) (inr i) (inr j) = elim (which x y zs i j) [ inl e ↦ inl e | inr a ↦ elim a [ inl b ↦ inr (inl (inr b)) | inr b ↦ inr (inr (inr b)) ] ]

compare : (a b : ℕ) → (a < b) ⊎ ((b < a) ⊎ (a ≡ b))
compare zero zero = inr (inr refl)
compare zero (suc b) = inl (omega arith)
compare (suc a) zero = inr (inl (omega arith))
compare (suc a) (suc b) = elim (compare a b) [ inl lt ↦ inl (omega (arith, lt)) | inr r ↦ elim r [ inl lt ↦ inr (inl (omega (arith, lt))) | inr e ↦ inr (inr (ap suc e)) ] ]

-- counted from the end
at_end : {X : Type 0} (k : ℕ) (xs : List X) → k < length xs → (front : List X) × (x : X) × (back : List X) × (xs ≡ front ++ x ∷ back) × (length back ≡ k)
at_end k [] lt = absurd (omega (arith, lt))
at_end {X} k (x ∷ xs) lt = elim (compare k (length xs)) [
  | inl less ↦ (let s = at_end k xs less in (x ∷ s.0, s.1, s.2, ap (λ ys. x ∷ ys) s.3, s.4))
  | inr r ↦ elim r [ inl more ↦ absurd (omega (arith, lt, more)) | inr same ↦ ([], x, xs, refl, sym same) ]
]

-- what stands in front of itself nowhere stands where it is found
ahead_back : {X : Type 0} (x y : X) (front back : List X) → (Ahead x x (front ++ back) → Never) → In x back → Ahead x y (front ++ back) → Ahead x y back
ahead_back x y [] back self i a = a
ahead_back x y (z ∷ front) back self i (inl (e, j)) = never (self (inl (e, in_back x front back i)))
ahead_back x y (z ∷ front) back self i (inr a) = ahead_back x y front back (λ b. self (inr b)) i a

ahead_rest : {X : Type 0} (x y : X) (front back : List X) → (Ahead x x (front ++ x ∷ back) → Never) → Ahead x y (front ++ x ∷ back) → In y back
ahead_rest x y [] back self (inl (e, j)) = j
ahead_rest x y [] back self (inr a) = never (self (inl (refl, (ahead_in x y back a).0)))
ahead_rest x y (z ∷ front) back self (inl (e, j)) = never (self (inl (e, in_middle x front back)))
ahead_rest x y (z ∷ front) back self (inr a) = ahead_rest x y front back (λ b. self (inr b)) a

-- ---- events

pub came_append : (es fs : List Event) → came (es ++ fs) ≡ came es ++ came fs
came_append [] fs = refl
came_append (Came m ∷ es) fs = ap (λ xs. m ∷ xs) (came_append es fs)
came_append (Made w ∷ es) fs = came_append es fs
came_append (Got c m l ∷ es) fs = came_append es fs
came_append (Lost m ∷ es) fs = came_append es fs
came_append (Cancelled c ∷ es) fs = came_append es fs

pub made_append : (es fs : List Event) → made (es ++ fs) ≡ made es ++ made fs
made_append [] fs = refl
made_append (Came m ∷ es) fs = made_append es fs
made_append (Made w ∷ es) fs = ap (λ xs. w ∷ xs) (made_append es fs)
made_append (Got c m l ∷ es) fs = made_append es fs
made_append (Lost m ∷ es) fs = made_append es fs
made_append (Cancelled c ∷ es) fs = made_append es fs

closed_back : (p : ℕ × Mark) (es fs : List Event) → In p (closed fs) → In p (closed (es ++ fs))
closed_back p [] fs i = i
closed_back p (Came m ∷ es) fs i = closed_back p es fs i
closed_back p (Made w ∷ es) fs i = closed_back p es fs i
closed_back p (Got d m true ∷ es) fs i = inr (closed_back p es fs i)
closed_back p (Got d m false ∷ es) fs i = closed_back p es fs i
closed_back p (Lost m ∷ es) fs i = closed_back p es fs i
closed_back p (Cancelled d ∷ es) fs i = closed_back p es fs i

cancelled_back : (c : ℕ) (es fs : List Event) → In c (cancelled fs) → In c (cancelled (es ++ fs))
cancelled_back c [] fs i = i
cancelled_back c (Came m ∷ es) fs i = cancelled_back c es fs i
cancelled_back c (Made w ∷ es) fs i = cancelled_back c es fs i
cancelled_back c (Got d m l ∷ es) fs i = cancelled_back c es fs i
cancelled_back c (Lost m ∷ es) fs i = cancelled_back c es fs i
cancelled_back c (Cancelled d ∷ es) fs i = inr (cancelled_back c es fs i)

cancelled_before : (c : ℕ) (x : Mark) (es : List Event) → CancelledBefore c x es → In c (cancelled es)
cancelled_before c x [] b = never b
cancelled_before c x (Came m ∷ es) (inl (e, i)) = i
cancelled_before c x (Came m ∷ es) (inr b) = cancelled_before c x es b
cancelled_before c x (Made w ∷ es) b = cancelled_before c x es b
cancelled_before c x (Got d m l ∷ es) b = cancelled_before c x es b
cancelled_before c x (Lost m ∷ es) b = cancelled_before c x es b
cancelled_before c x (Cancelled d ∷ es) b = inr (cancelled_before c x es b)

lost_back : (x : Mark) (es fs : List Event) → In x (lost fs) → In x (lost (es ++ fs))
lost_back x [] fs i = i
lost_back x (Came m ∷ es) fs i = lost_back x es fs i
lost_back x (Made w ∷ es) fs i = lost_back x es fs i
lost_back x (Got d m l ∷ es) fs i = lost_back x es fs i
lost_back x (Lost m ∷ es) fs i = inr (lost_back x es fs i)
lost_back x (Cancelled d ∷ es) fs i = lost_back x es fs i

-- ---- each in turn

-- what is so of a past besides the laws: messages come in the order of their places, and all that arrived came; a receive for one message gets one; receives have calls of their own
pub record Watched (source : ℕ) (arrived : List Item) (past : List Event) (asked : List Receive) : Type 0 where
  pub order : (x y : Mark) → Ahead x y (came past) → x.source ≡ y.source → y.place < x.place
  pub all : (j : ℕ) (item : Item) → slice_get arrived j ≡ Some item → is_message item.head.kind ≡ true → In (mark_at source j item) (came past)
  pub within : (x : Mark) → In x (came past) → x.source ≡ source → x.place < length arrived
  pub once : (f : Receive) (x y : Mark) (k l : Bool) → In f asked → f.least ≡ None → In (Got f.call x k) past → In (Got f.call y l) past → x ≡ y
  pub apart : (w u : Wish) → Ahead w u (made past) → w.call ≡ u.call → Never

module _ (source : ℕ) (arrived : List Item) (past : List Event) (asked : List Receive) (serves : ServesInOrder past) (takes : TakesInOrder past) (gets : GetsRightly past) (watched : Watched source arrived past asked) (alike : AreAlike source arrived past asked) where
  not_lost : (x : Mark) → In x (lost past) → Never
  not_lost x i = subst (In x) alike.none_lost i

  not_cancelled : (c : ℕ) → In c (cancelled past) → Never
  not_cancelled c i = subst (In c) alike.kept i

  is_made : (f : Receive) → In f asked → In (wish_of f) (made past)
  is_made f i = subst (In (wish_of f)) (sym alike.posted) (go asked i)
    where
      go : (rs : List Receive) → In f rs → In (wish_of f) (map wish_of rs)
      go [] j = never j
      go (r ∷ rs) (inl e) = inl (ap wish_of e)
      go (r ∷ rs) (inr j) = inr (go rs j)

  same_wish : (w u : Wish) → In w (made past) → In u (made past) → w.call ≡ u.call → w ≡ u
  same_wish w u i j e = elim (which w u (made past) i j) [ inl same ↦ same | inr a ↦ elim a [ inl b ↦ never (watched.apart w u b e) | inr b ↦ never (watched.apart u w b (sym e)) ] ]

  -- a message of the source matches each receive
  matches_all : (f : Receive) (x : Mark) → In f asked → In x (came past) → x.source ≡ source → wishes (wish_of f) x ≡ true
  matches_all f x i j e =
      let it = member arrived x.place (watched.within x j e) in
      let m = alike.matched f x.place it.0 i it.1 in
      let y : Mark = mark_at source x.place it.0 in
      let there : In y (came past) = watched.all x.place it.0 it.1 m.0 in
      elim (which x y (came past) j there) [
        | inl same ↦ subst (λ z. wishes (wish_of f) z ≡ true) (sym same) m.1
        | inr a ↦ elim a [ inl b ↦ absurd (let lt = watched.order x y b e in omega (arith, lt)) | inr b ↦ absurd (let lt = watched.order y x b (sym e) in omega (arith, lt)) ]
      ]

  -- a receive that got a message, and when
  record GotAt (f : Receive) (x : Mark) (last : Bool) : Type 0 where
    later : List Event
    before : List Event
    is : past ≡ later ++ Got f.call x last ∷ before
    came_before : In x (came before)
    not_closed : (y : Mark) → In (f.call, y) (closed before) → Never
    made_before : In (wish_of f) (made before)
    of_source : x.source ≡ source

  in_past_came : (later before : List Event) (e : Event) (x : Mark) → past ≡ later ++ e ∷ before → In x (came before) → In x (came past)
  in_past_came later before e x is i = subst (λ es. In x (came es)) (sym is) (subst (In x) (sym (came_append later (e ∷ before))) (in_back x (came later) (came (e ∷ before)) (here e)))
    where
      here : (d : Event) → In x (came (d ∷ before))
      here (Came m) = inr i
      here (Made w) = i
      here (Got c m l) = i
      here (Lost m) = i
      here (Cancelled c) = i

  in_past_made : (later before : List Event) (c : ℕ) (y : Mark) (l : Bool) (w : Wish) → past ≡ later ++ Got c y l ∷ before → In w (made before) → In w (made past)
  in_past_made later before c y l w is i = subst (λ es. In w (made es)) (sym is) (subst (In w) (sym (made_append later (Got c y l ∷ before))) (in_back w (made later) (made before) i))

  got_when : (f : Receive) (x : Mark) (last : Bool) (later before : List Event) → In f asked → past ≡ later ++ Got f.call x last ∷ before → GotAt f x last
  got_when f x last later before i is =
      let fit = gets later before f.call x last is in
      let w = fit.4 in
      let same : w.0 ≡ wish_of f = same_wish w.0 (wish_of f) (in_past_made later before f.call x last w.0 is w.1) (is_made f i) w.2 in
      let fits : wishes (wish_of f) x ≡ true = subst (λ u. wishes u x ≡ true) same w.3 in
      record {
        later = later;
        before = before;
        is = is;
        came_before = fit.0;
        not_closed = fit.2;
        made_before = subst (λ u. In u (made before)) same w.1;
        of_source = alike.only f x i (in_past_came later before (Got f.call x last) x is fit.0) fits;
      }

  -- in front of it, there and before
  made_then : (later before : List Event) (c : ℕ) (y : Mark) (l : Bool) (w u : Wish) → past ≡ later ++ Got c y l ∷ before → In w (made before) → Ahead w u (made past) → Ahead w u (made before)
  made_then later before c y l w u is i a =
      let all : made past ≡ made later ++ made before = ap made is ∙ made_append later (Got c y l ∷ before) in
      ahead_back w u (made later) (made before) (λ b. watched.apart w w (subst (Ahead w w) (sym all) b) refl) i (subst (Ahead w u) all a)

  came_then : (later before : List Event) (c : ℕ) (z : Mark) (l : Bool) (x y : Mark) → past ≡ later ++ Got c z l ∷ before → In x (came before) → Ahead x y (came past) → Ahead x y (came before)
  came_then later before c z l x y is i a =
      let all : came past ≡ came later ++ came before = ap came is ∙ came_append later (Got c z l ∷ before) in
      ahead_back x y (came later) (came before) (λ b. absurd (let lt = watched.order x x (subst (Ahead x x) (sym all) b) refl in omega (arith, lt))) i (subst (Ahead x y) all a)

  came_since : (later before : List Event) (c : ℕ) (z : Mark) (l : Bool) (x y : Mark) → past ≡ later ++ Got c z l ∷ before → Ahead x y (came before) → Ahead x y (came past)
  came_since later before c z l x y is a = subst (Ahead x y) (sym (ap came is ∙ came_append later (Got c z l ∷ before))) (go (came later))
    where
      go : (front : List Mark) → Ahead x y (front ++ came before)
      go [] = a
      go (m ∷ front) = inr (go front)

  -- an older receive had closed: with which message
  closed_first : (later before : List Event) (f g : Receive) (x : Mark) (l : Bool) → In f asked → In g asked → past ≡ later ++ Got f.call x l ∷ before → In (wish_of f) (made before) → In x (came before) → x.source ≡ source → Ahead (wish_of f) (wish_of g) (made past)
      → (y : Mark) × In (g.call, y) (closed before) × Ahead x y (came before)
  closed_first later before f g x l i j is m c s a =
      elim (serves later before (wish_of g) (wish_of f) x l is (made_then later before f.call x l (wish_of f) (wish_of g) is m a) (matches_all g x j (in_past_came later before (Got f.call x l) x is c) s)) [
        | inl z ↦ z
        | inr z ↦ never (not_cancelled g.call (subst (λ es. In g.call (cancelled es)) (sym is) (cancelled_back g.call later (Got f.call x l ∷ before) (cancelled_before g.call x before z))))
      ]

  wish_ahead : (newer older : List Receive) (f g : Receive) → asked ≡ newer ++ f ∷ older → In g older → Ahead (wish_of f) (wish_of g) (made past)
  wish_ahead newer older f g is i =
      subst (Ahead (wish_of f) (wish_of g)) (sym (alike.posted ∙ ap (map wish_of) is ∙ map_append wish_of newer (f ∷ older)))
      (ahead_of_rest (wish_of f) (wish_of g) (map wish_of newer) (map wish_of older) (go older i))
    where
      go : (rs : List Receive) → In g rs → In (wish_of g) (map wish_of rs)
      go [] j = never j
      go (r ∷ rs) (inl e) = inl (ap wish_of e)
      go (r ∷ rs) (inr j) = inr (go rs j)

  -- who is older stands among the older ones
  older_of : (newer older : List Receive) (f : Receive) (u : Wish) → asked ≡ newer ++ f ∷ older → Ahead (wish_of f) u (made past) → (g : Receive) × In g older × (u ≡ wish_of g)
  older_of newer older f u is a =
      let all : made past ≡ map wish_of newer ++ wish_of f ∷ map wish_of older = alike.posted ∙ ap (map wish_of) is ∙ map_append wish_of newer (f ∷ older) in
      mapped wish_of u older (ahead_rest (wish_of f) u (map wish_of newer) (map wish_of older) (λ b. watched.apart (wish_of f) (wish_of f) (subst (Ahead (wish_of f) (wish_of f)) (sym all) b) refl) (subst (Ahead (wish_of f) u) all a))

  abbrev InTurn : ℕ → Type 0
  InTurn n = (newer older : List Receive) (f : Receive) (x : Mark) (last : Bool) → length older < n → asked ≡ newer ++ f ∷ older → In (Got f.call x last) past → x.place ≡ length older

  -- one that is older has a message of its own place, so this one has not that place or a lower one
  not_below : (n : ℕ) → InTurn n → (newer older : List Receive) (f : Receive) (x : Mark) (last : Bool) → length older ≤ n → asked ≡ newer ++ f ∷ older → In f asked → GotAt f x last → x.place < length older → ⊥
  not_below n less newer older f x last few is i at under =
      let s = at_end x.place older under in
      let whole : asked ≡ (newer ++ f ∷ s.0) ++ s.1 ∷ s.2 = is ∙ ap (λ rs. newer ++ f ∷ rs) s.3 ∙ sym (append_assoc newer (f ∷ s.0) (s.1 ∷ s.2)) in
      let there : In s.1 asked = subst (In s.1) (sym whole) (in_middle s.1 (newer ++ f ∷ s.0) s.2) in
      let old : In s.1 older = subst (In s.1) (sym s.3) (in_middle s.1 s.0 s.2) in
      let y = closed_first at.later at.before f s.1 x last i there at.is at.made_before at.came_before at.of_source (wish_ahead newer older f s.1 is old) in
      let got : In (Got (s.1).call y.0 true) past = subst (In (Got (s.1).call y.0 true)) (sym at.is) (in_back _ at.later (Got f.call x last ∷ at.before) (inr (closed_got (s.1).call y.0 at.before y.1))) in
      let place : (y.0).place ≡ length s.2 = less (newer ++ f ∷ s.0) s.2 s.1 y.0 true (omega (arith, few, under, s.4)) whole got in
      let front = came_since at.later at.before f.call x last x y.0 at.is y.2 in
      let its = in_split _ past got in
      let source_is : (y.0).source ≡ source = (got_when s.1 y.0 true its.0 its.1 there its.2).of_source in
      let lt = watched.order x y.0 front (at.of_source ∙ sym source_is) in
      omega (arith, lt, place, s.4)

  -- the message of this one's place went to a receive before
  not_above : (n : ℕ) → InTurn n → (newer older : List Receive) (f : Receive) (x : Mark) (last : Bool) → length older ≤ n → asked ≡ newer ++ f ∷ older → In f asked → GotAt f x last → length older < x.place → ⊥
  not_above n less newer older f x last few is i at over =
      let came_x = in_past_came at.later at.before (Got f.call x last) x at.is at.came_before in
      let it = member arrived (length older) (let lt = watched.within x came_x at.of_source in omega (arith, lt, over)) in
      let y : Mark = mark_at source (length older) it.0 in
      let fits = alike.matched f (length older) it.0 i it.1 in
      let came_y = watched.all (length older) it.0 it.1 fits.0 in
      let front : Ahead x y (came past) = elim (which x y (came past) came_x came_y) [
        | inl same ↦ absurd (let z = ap (λ (m : Mark). m.place) same in omega (arith, z, over))
        | inr a ↦ elim a [ inl b ↦ b | inr b ↦ absurd (let lt = watched.order y x b (sym at.of_source) in omega (arith, lt, over)) ]
      ] in
      let went = takes at.later at.before (wish_of f) x y last at.is at.made_before (came_then at.later at.before f.call x last x y at.is at.came_before front) fits.1 in
      elim (gone_got y at.before went) [
        | inr l ↦ never (not_lost y (subst (λ es. In y (lost es)) (sym at.is) (lost_back y at.later (Got f.call x last ∷ at.before) l)))
        | inl g ↦ other g.0 g.1 y g.2 came_y refl refl
      ]
    where
      other : (c : ℕ) (l : Bool) → (y : Mark) → In (Got c y l) at.before → In y (came past) → y.source ≡ source → y.place ≡ length older → ⊥
      other c l y g came_y source_is place_is =
          let t = in_split (Got c y l) at.before g in
          let whole : past ≡ (at.later ++ Got f.call x last ∷ t.0) ++ Got c y l ∷ t.1 = at.is ∙ ap (λ es. at.later ++ Got f.call x last ∷ es) t.2 ∙ sym (append_assoc at.later (Got f.call x last ∷ t.0) (Got c y l ∷ t.1)) in
          let front : List Event = at.later ++ Got f.call x last ∷ t.0 in
          let fit = gets front t.1 c y l whole in
          let u = fit.4 in
          let in_past : In (Got c y l) past = subst (In (Got c y l)) (sym at.is) (in_back _ at.later (Got f.call x last ∷ at.before) (inr g)) in
          let u_made : In u.0 (made past) = in_past_made front t.1 c y l u.0 whole u.1 in
          elim (which (wish_of f) u.0 (made past) (is_made f i) u_made) [
            | inl same ↦ (
                let call : c ≡ f.call = sym u.2 ∙ ap (λ (w : Wish). w.call) (sym same) in
                let mine : In (Got f.call y l) past = subst (λ k. In (Got k y l) past) call in_past in
                let got_x : In (Got f.call x last) past = subst (In (Got f.call x last)) (sym at.is) (in_back _ at.later (Got f.call x last ∷ at.before) (inl refl)) in
                let one = watched.once f x y last l i (alike.single f i) got_x mine in
                let z = ap (λ (m : Mark). m.place) one in
                omega (arith, z, over, place_is))
            | inr a ↦ elim a [
              | inl b ↦ (
                  let o = older_of newer older f u.0 is b in
                  let s = in_split o.0 older o.1 in
                  let all : asked ≡ (newer ++ f ∷ s.0) ++ o.0 ∷ s.1 = is ∙ ap (λ rs. newer ++ f ∷ rs) s.2 ∙ sym (append_assoc newer (f ∷ s.0) (o.0 ∷ s.1)) in
                  let call : c ≡ (o.0).call = sym u.2 ∙ ap (λ (w : Wish). w.call) o.2 in
                  let its : In (Got (o.0).call y l) past = subst (λ k. In (Got k y l) past) call in_past in
                  let long : length older ≡ length s.0 + suc (length s.1) = ap length s.2 ∙ length-append s.0 (o.0 ∷ s.1) in
                  let place = less (newer ++ f ∷ s.0) s.1 o.0 y l (omega (arith, few, long)) all its in
                  omega (arith, place, place_is, long))
              | inr b ↦ (
                  let o = mapped wish_of u.0 asked (subst (In u.0) alike.posted u_made) in
                  let call : c ≡ (o.0).call = sym u.2 ∙ ap (λ (w : Wish). w.call) o.2 in
                  let whole' : past ≡ front ++ Got (o.0).call y l ∷ t.1 = whole ∙ ap (λ k. front ++ Got k y l ∷ t.1) call in
                  let made_o : In (wish_of o.0) (made t.1) = subst (λ w. In w (made t.1)) o.2 u.1 in
                  let ahead : Ahead (wish_of o.0) (wish_of f) (made past) = subst (λ w. Ahead w (wish_of f) (made past)) o.2 b in
                  let shut = closed_first front t.1 o.0 f y l o.1 i whole' made_o fit.0 source_is ahead in
                  let was : In (f.call, shut.0) (closed at.before) = subst (λ es. In (f.call, shut.0) (closed es)) (sym t.2) (closed_back (f.call, shut.0) t.0 (Got c y l ∷ t.1) (closed_later c y l t.1 shut.0 shut.1)) in
                  never (at.not_closed shut.0 was))
            ]
          ]
        where
          closed_later : (d : ℕ) (m : Mark) (k : Bool) (es : List Event) (z : Mark) → In (f.call, z) (closed es) → In (f.call, z) (closed (Got d m k ∷ es))
          closed_later d m true es z j = inr j
          closed_later d m false es z j = j

  in_turn : (n : ℕ) → InTurn n
  in_turn zero newer older f x last less is got = absurd (omega (arith, less))
  in_turn (suc n) newer older f x last less is got =
      let i : In f asked = subst (In f) (sym is) (in_middle f newer older) in
      let s = in_split (Got f.call x last) past got in
      let at = got_when f x last s.0 s.1 i s.2 in
      let few : length older ≤ n = omega (arith, less) in
      elim (compare x.place (length older)) [
        | inl under ↦ absurd (not_below n (in_turn n) newer older f x last few is i at under)
        | inr rest ↦ elim rest [ inl over ↦ absurd (not_above n (in_turn n) newer older f x last few is i at over) | inr same ↦ same ]
      ]

  pub serves_in_turn : (newer older : List Receive) (f : Receive) (x : Mark) (last : Bool) → asked ≡ newer ++ f ∷ older → In (Got f.call x last) past → (x.source ≡ source) × (x.place ≡ length older)
  serves_in_turn newer older f x last is got =
      let i : In f asked = subst (In f) (sym is) (in_middle f newer older) in
      let s = in_split (Got f.call x last) past got in
      ((got_when f x last s.0 s.1 i s.2).of_source, in_turn (suc (length older)) newer older f x last (omega arith) is got)

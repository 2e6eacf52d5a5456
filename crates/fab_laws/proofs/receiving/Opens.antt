-- What the buffer of a receive for many messages holds while the receive is posted, or closing.
--     Buffer v tails comes past f buf      each message that the receive got comes to its place in the buffer, or its bytes stand there
--     Holds v tails comes past m ps cs     so it is of each that is posted, or closing
use Rattle.std.proofs.Common.{◌≡◌, ◌≤◌, ◌<◌, ◌+◌, ◌-◌, ℕ, zero, suc, min, Bool, true, false, ◌||◌, List, [], ◌∷◌, ◌++◌, length, map, get_or, slice_get, Option, Some, None, ◌⊎◌, inl, inr, refl, sym, ◌∙◌, ap, subst, arith}
use Rattle.std.specs.Prelude.{slice_index, ◌==◌}
use Rattle.std.specs.List.{list_any}
use Rattle.std.proofs.lemmas.Bool.{eq-eqb, eqb-true, ne_eqb}
use Rattle.fab_base.specs.declared.items.Item.{Item}
use Rattle.fab_base.specs.declared.operations.Coming.{Coming}
use Rattle.fab_base.specs.declared.operations.Coming.TheVariants.{Into, Keep, Throw, Request, Answer}
use Rattle.fab_base.specs.declared.operations.Receive.{Receive}
use Rattle.fab_model.specs.Matching.{change_first, remove_first}
use Rattle.fab_model.specs.State.{Receiving, coming_from, under_way}
use Rattle.fab_model.specs.State as model
use Rattle.fab_model.specs.Complete.{is_made_by, paste}
use Rattle.fab_model.specs.Views.{View}
use Rattle.fab_model.proofs.Parts.{some_same}
use Rattle.fab_laws.specs.Members.{Ahead, In, Never}
use Rattle.fab_laws.specs.Matched.{Came, Cancelled, Event, Got, Lost, Made, Mark}
use Rattle.fab_laws.specs.MultiLaws.{HasPart, StandsAt, placed, used_in}
use Rattle.fab_laws.proofs.Lists.{any_in, in_map, never}
use Rattle.fab_laws.proofs.receiving.Pasting.{paste_keeps, paste_long, paste_stands, stands_still}
use Rattle.fab_laws.proofs.receiving.Placing.{Grows, Level, Up}
use Rattle.fab_laws.proofs.fences.Ordered.{in_order as ordered}

-- ---- words

abbrev pub calls : List Receive → List ℕ
calls rs = map (λ (r : Receive). r.call) rs

-- a receive for many messages that was asked for
abbrev pub IsMulti : List Receive → Receive → Type 0
IsMulti m f = In f m × ((least : ℕ) × (f.least ≡ Some least))

pub record Buffer (v : View Item) (tails : List ℕ) (comes : Mark → ℕ → Type 0) (past : List Event) (f : Receive) (buf : List ℕ) : Type 0 where
  pub long : length buf ≡ length f.buf
  pub parts : (x : Mark) (place : ℕ) → In (x, place) (placed (length f.buf) f.call past) → comes x place ⊎ HasPart v.ready tails buf x place
  pub rest : (k : ℕ) → used_in (length f.buf) f.call past ≤ k → slice_get buf k ≡ slice_get f.buf k

-- a receive that takes no more
pub record Spent (past : List Event) (f r : Receive) : Type 0 where
  pub ctx : r.ctx ≡ f.ctx
  pub used : r.used ≡ used_in (length f.buf) f.call past
  pub last : (x : Mark) × In (Got f.call x true) past

-- of the receives posted (ps) and closing (cs)
pub record Holds (v : View Item) (tails : List ℕ) (comes : ℕ → Mark → ℕ → Type 0) (past : List Event) (m ps cs : List Receive) : Type 0 where
  pub posted : (f r : Receive) → IsMulti m f → In r ps → r.call ≡ f.call → Buffer v tails (comes f.call) past f r.buf
  pub closing : (f r : Receive) → IsMulti m f → In r cs → r.call ≡ f.call → Buffer v tails (comes f.call) past f r.buf × Spent past f r
  pub apart : (c d : ℕ) → Ahead c d (calls ps) → c ≡ d → Never
  pub shut_apart : (c d : ℕ) → Ahead c d (calls cs) → c ≡ d → Never
  pub cross : (c : ℕ) → In c (calls ps) → In c (calls cs) → Never
  pub known : (c : ℕ) → In c (calls cs) → (f : Receive) × IsMulti m f × (f.call ≡ c)

-- ---- lists of receives

pub removed_in : {X Y : Type 0} (f : X → Y) (test : X → Bool) (xs : List X) (y : Y) → In y (map f (remove_first test xs)) → In y (map f xs)
removed_in f test [] y i = never i
removed_in {X} f test (z ∷ zs) y i = go (test z) i (λ j. removed_in f test zs y j)
  where
    go : (b : Bool) → In y (map f (let ys : List X = elim b [ true ↦ zs | false ↦ z ∷ remove_first test zs ] in ys)) → (In y (map f (remove_first test zs)) → In y (map f zs)) → In y (map f (z ∷ zs))
    go true i more = inr i
    go false (inl e) more = inl e
    go false (inr i) more = inr (more i)

pub removed_ahead : {X Y : Type 0} (f : X → Y) (test : X → Bool) (xs : List X) (x y : Y) → Ahead x y (map f (remove_first test xs)) → Ahead x y (map f xs)
removed_ahead f test [] x y a = never a
removed_ahead {X} f test (z ∷ zs) x y a = go (test z) a (λ b. removed_ahead f test zs x y b)
  where
    go : (b : Bool) → Ahead x y (map f (let ys : List X = elim b [ true ↦ zs | false ↦ z ∷ remove_first test zs ] in ys)) → (Ahead x y (map f (remove_first test zs)) → Ahead x y (map f zs)) → Ahead x y (map f (z ∷ zs))
    go true a more = inr a
    go false (inl (e, i)) more = inl (e, removed_in f test zs y i)
    go false (inr a) more = inr (more a)

pub ahead_mapped : {X Y : Type 0} (f : X → Y) (xs : List X) (x y : Y) → Ahead x y (map f xs) → (a : X) × (b : X) × Ahead a b xs × (f a ≡ x) × (f b ≡ y)
ahead_mapped f [] x y a = never a
ahead_mapped f (z ∷ zs) x y (inl (e, i)) = let w = member zs i in (z, w.0, inl (refl, w.1), sym e, w.2)
  where
    member : (zs : List _) → In y (map f zs) → (b : _) × In b zs × (f b ≡ y)
    member [] i = never i
    member (w ∷ ws) (inl e) = (w, inl refl, sym e)
    member (w ∷ ws) (inr i) = let m = member ws i in (m.0, inr m.1, m.2)
ahead_mapped f (z ∷ zs) x y (inr a) = let w = ahead_mapped f zs x y a in (w.0, w.1, inr w.2, w.3, w.4)

-- where calls differ, one is gone that is removed
pub gone_from : (c : ℕ) (xs : List Receive) → ((a b : ℕ) → Ahead a b (calls xs) → a ≡ b → Never) → In c (calls (remove_first (is_made_by c) xs)) → Never
gone_from c [] apart i = never i
gone_from c (x ∷ xs) apart i = go (x.call == c) refl i (λ j. gone_from c xs (λ a b h. apart a b (inr h)) j)
  where
    go : (b : Bool) → (x.call == c) ≡ b → In c (calls (let ys : List Receive = elim b [ true ↦ xs | false ↦ x ∷ remove_first (is_made_by c) xs ] in ys)) → (In c (calls (remove_first (is_made_by c) xs)) → Never) → Never
    go true e i more = apart x.call c (inl (refl, i)) (eqb-true x.call c e)
    go false e (inl same) more = absurd (let t : (x.call == c) ≡ true = eq-eqb x.call c (sym same) in cc (e, t))
    go false e (inr i) more = more i

-- and the one of this call is changed
pub changed_how : (c : ℕ) (g : Receive → Receive) (xs : List Receive) → ((a b : ℕ) → Ahead a b (calls xs) → a ≡ b → Never) → (z : Receive) → In z (change_first (is_made_by c) g xs)
    → (In z xs × (z.call ≡ c → Never)) ⊎ ((x : Receive) × In x xs × (x.call ≡ c) × (z ≡ g x))
changed_how c g [] apart z i = never i
changed_how c g (x ∷ xs) apart z i = go (x.call == c) refl i (λ j. changed_how c g xs (λ a b h. apart a b (inr h)) z j)
  where
    go : (b : Bool) → (x.call == c) ≡ b → In z (let ys : List Receive = elim b [ true ↦ g x ∷ xs | false ↦ x ∷ change_first (is_made_by c) g xs ] in ys)
        → (In z (change_first (is_made_by c) g xs) → (In z xs × (z.call ≡ c → Never)) ⊎ ((y : Receive) × In y xs × (y.call ≡ c) × (z ≡ g y))) → (In z (x ∷ xs) × (z.call ≡ c → Never)) ⊎ ((y : Receive) × In y (x ∷ xs) × (y.call ≡ c) × (z ≡ g y))
    go true e (inl same) more = inr (x, inl refl, eqb-true x.call c e, same)
    go true e (inr i) more = inl (inr i, λ f. apart x.call z.call (inl (refl, in_map (λ (r : Receive). r.call) z xs i)) (eqb-true x.call c e ∙ sym f))
    go false e (inl same) more = inl (inl same, λ f. absurd (let t : (x.call == c) ≡ true = eq-eqb x.call c (ap (λ (r : Receive). r.call) (sym same) ∙ f) in cc (e, t)))
    go false e (inr i) more = elim (more i) [
      | inl old ↦ inl (inr old.0, old.1)
      | inr new ↦ inr (new.0, inr new.1, new.2, new.3)
    ]

-- ---- places

-- a message ends within what is given away
pub within_used : (n call : ℕ) (past : List Event) (x : Mark) (p : ℕ) → In (x, p) (placed n call past) → p + min x.head.total (n - p) ≤ used_in n call past
within_used n call [] x p i = never i
within_used n call (Came m ∷ past) x p i = within_used n call past x p i
within_used n call (Made w ∷ past) x p i = within_used n call past x p i
within_used n call (Lost m ∷ past) x p i = within_used n call past x p i
within_used n call (Cancelled c ∷ past) x p i = within_used n call past x p i
within_used n call (Got c y last ∷ past) x p i = go (c == call) i (λ j. within_used n call past x p j)
  where
    go : (b : Bool) → In (x, p) (let xs : List (Mark × ℕ) = elim b [ true ↦ (y, used_in n call past) ∷ placed n call past | false ↦ placed n call past ] in xs) → (In (x, p) (placed n call past) → p + min x.head.total (n - p) ≤ used_in n call past)
        → p + min x.head.total (n - p) ≤ (let k : ℕ = elim b [ true ↦ used_in n call past + min y.head.total (n - used_in n call past) | false ↦ used_in n call past ] in k)
    go true (inl e) more = subst (λ (q : Mark × ℕ). q.1 + min q.0.head.total (n - q.1) ≤ used_in n call past + min y.head.total (n - used_in n call past)) (sym e) (omega arith)
    go true (inr j) more = omega (arith, more j)
    go false j more = more j

-- what was got later begins behind what was got before
pub placed_apart : (n call : ℕ) (past : List Event) (x y : Mark) (p q : ℕ) → Ahead (y, q) (x, p) (placed n call past) → p + min x.head.total (n - p) ≤ q
placed_apart n call [] x y p q a = never a
placed_apart n call (Came m ∷ past) x y p q a = placed_apart n call past x y p q a
placed_apart n call (Made w ∷ past) x y p q a = placed_apart n call past x y p q a
placed_apart n call (Lost m ∷ past) x y p q a = placed_apart n call past x y p q a
placed_apart n call (Cancelled c ∷ past) x y p q a = placed_apart n call past x y p q a
placed_apart n call (Got c z last ∷ past) x y p q a = go (c == call) a (λ b. placed_apart n call past x y p q b)
  where
    go : (b : Bool) → Ahead (y, q) (x, p) (let xs : List (Mark × ℕ) = elim b [ true ↦ (z, used_in n call past) ∷ placed n call past | false ↦ placed n call past ] in xs) → (Ahead (y, q) (x, p) (placed n call past) → p + min x.head.total (n - p) ≤ q) → p + min x.head.total (n - p) ≤ q
    go true (inl (e, i)) more = omega (arith, within_used n call past x p i, ap (λ (r : Mark × ℕ). r.1) e)
    go true (inr b) more = more b
    go false b more = more b

-- ---- what a step adds

module _ (past : List Event) (o : Option (Receive × Mark)) (es : List Event) (up : Grows past o es) (n call : ℕ) where
  pub used_more : used_in n call past ≤ used_in n call (es ++ past)
  used_more = go up
    where
      by : (b : Bool) (u w : ℕ) → u ≤ (let k : ℕ = elim b [ true ↦ u + w | false ↦ u ] in k)
      by true u w = omega arith
      by false u w = omega arith

      go : Grows past o es → used_in n call past ≤ used_in n call (es ++ past)
      go (Level closing used places single) = omega (arith, used n call)
      go (Up r x last rest es_is dull whose used places) = omega (arith, used n call, by (r.call == call) (used_in n call past) (min x.head.total (n - used_in n call past)))

  pub placed_more : (q : Mark × ℕ) → In q (placed n call past) → In q (placed n call (es ++ past))
  placed_more q i = go up
    where
      by : (b : Bool) (p : Mark × ℕ) → In q (let xs : List (Mark × ℕ) = elim b [ true ↦ p ∷ placed n call past | false ↦ placed n call past ] in xs)
      by true p = inr i
      by false p = i

      go : Grows past o es → In q (placed n call (es ++ past))
      go (Level closing used places single) = subst (In q) (sym (places n call)) i
      go (Up r x last rest es_is dull whose used places) = subst (In q) (sym (places n call)) (by (r.call == call) (x, used_in n call past))

  -- what has a place had it, or is given it now
  pub placed_how : (x : Mark) (p : ℕ) → In (x, p) (placed n call (es ++ past)) → In (x, p) (placed n call past) ⊎ ((r : Receive) × (o ≡ Some (r, x)) × (r.call ≡ call) × (p ≡ used_in n call past))
  placed_how x p i = go up
    where
      go : Grows past o es → In (x, p) (placed n call past) ⊎ ((r : Receive) × (o ≡ Some (r, x)) × (r.call ≡ call) × (p ≡ used_in n call past))
      go (Level closing used places single) = inl (subst (In (x, p)) (places n call) i)
      go (Up r y last rest es_is dull whose used places) = by (r.call == call) refl (subst (In (x, p)) (places n call) i)
        where
          by : (b : Bool) → (r.call == call) ≡ b → In (x, p) (let xs : List (Mark × ℕ) = elim b [ true ↦ (y, used_in n call past) ∷ placed n call past | false ↦ placed n call past ] in xs)
              → In (x, p) (placed n call past) ⊎ ((q : Receive) × (o ≡ Some (q, x)) × (q.call ≡ call) × (p ≡ used_in n call past))
          by true e (inl f) = inr (r, whose ∙ ap (λ (q : Mark × ℕ). Some (r, q.0)) (sym f), eqb-true r.call call e, ap (λ (q : Mark × ℕ). q.1) f)
          by true e (inr j) = inl j
          by false e j = inl j

  -- a receive for many messages that is given one has it at its place
  pub placed_now : (r : Receive) (x : Mark) (least : ℕ) → o ≡ Some (r, x) → r.least ≡ Some least → r.call ≡ call → In (x, used_in n call past) (placed n call (es ++ past)) × (used_in n call (es ++ past) ≡ used_in n call past + min x.head.total (n - used_in n call past))
  placed_now r x least is multi number = go up
    where
      go : Grows past o es → In (x, used_in n call past) (placed n call (es ++ past)) × (used_in n call (es ++ past) ≡ used_in n call past + min x.head.total (n - used_in n call past))
      go (Level closing used places single) = absurd (let e : None ≡ Some least = sym (single r x is) ∙ multi in cc (e))
      go (Up q y last rest es_is dull whose used places) =
          let p : (q, y) ≡ (r, x) = some_same (q, y) (r, x) (sym whose ∙ is) in
          let mine : (q.call == call) ≡ true = eq-eqb q.call call (ap (λ (z : Receive × Mark). z.0.call) p ∙ number) in (
            subst (In (x, used_in n call past)) (sym (places n call ∙ ap (λ (b : Bool). let xs : List (Mark × ℕ) = elim b [ true ↦ (y, used_in n call past) ∷ placed n call past | false ↦ placed n call past ] in xs) mine))
                (inl (ap (λ (z : Receive × Mark). (z.1, used_in n call past)) (sym p))),
            used n call ∙ ap (λ (b : Bool). elim b [ true ↦ used_in n call past + min y.head.total (n - used_in n call past) | false ↦ used_in n call past ]) mine
                ∙ ap (λ (z : Receive × Mark). used_in n call past + min z.1.head.total (n - used_in n call past)) p,
          )

  -- and it alone is new
  pub placed_is : (r : Receive) (x : Mark) (least : ℕ) → o ≡ Some (r, x) → r.least ≡ Some least → r.call ≡ call → placed n call (es ++ past) ≡ (x, used_in n call past) ∷ placed n call past
  placed_is r x least is multi number = go up
    where
      go : Grows past o es → placed n call (es ++ past) ≡ (x, used_in n call past) ∷ placed n call past
      go (Level closing used places single) = absurd (let e : None ≡ Some least = sym (single r x is) ∙ multi in cc (e))
      go (Up q y last rest es_is dull whose used places) =
          let p : (q, y) ≡ (r, x) = some_same (q, y) (r, x) (sym whose ∙ is) in
          let mine : (q.call == call) ≡ true = eq-eqb q.call call (ap (λ (z : Receive × Mark). z.0.call) p ∙ number) in
          places n call ∙ ap (λ (b : Bool). let xs : List (Mark × ℕ) = elim b [ true ↦ (y, used_in n call past) ∷ placed n call past | false ↦ placed n call past ] in xs) mine
          ∙ ap (λ (z : Receive × Mark). let xs : List (Mark × ℕ) = (z.1, used_in n call past) ∷ placed n call past in xs) p

  -- one that is given none has what it had
  pub level : ((r : Receive) (x : Mark) → o ≡ Some (r, x) → r.call ≡ call → Never) → (used_in n call (es ++ past) ≡ used_in n call past) × (placed n call (es ++ past) ≡ placed n call past)
  level none = go up
    where
      go : Grows past o es → (used_in n call (es ++ past) ≡ used_in n call past) × (placed n call (es ++ past) ≡ placed n call past)
      go (Level closing used places single) = (used n call, places n call)
      go (Up r x last rest es_is dull whose used places) =
          let other : (r.call == call) ≡ false = ne_eqb r.call call (λ same. never (none r x whose same)) in (
            used n call ∙ ap (λ (b : Bool). elim b [ true ↦ used_in n call past + min x.head.total (n - used_in n call past) | false ↦ used_in n call past ]) other,
            places n call ∙ ap (λ (b : Bool). let xs : List (Mark × ℕ) = elim b [ true ↦ (x, used_in n call past) ∷ placed n call past | false ↦ placed n call past ] in xs) other,
          )

-- ---- a buffer

-- more is whole, and more is told
pub buffer_grows : (v : View Item) (tails tails' : List ℕ) (comes comes' : Mark → ℕ → Type 0) (past es : List Event) (o : Option (Receive × Mark)) (f : Receive) (buf : List ℕ) → Grows past o es → ((q : ℕ) → slice_index tails q ≤ slice_index tails' q)
    → ((x : Mark) (p : ℕ) → comes x p → comes' x p) → ((r : Receive) (x : Mark) → o ≡ Some (r, x) → r.call ≡ f.call → comes' x (used_in (length f.buf) f.call past)) → Buffer v tails comes past f buf → Buffer v tails' comes' (es ++ past) f buf
buffer_grows v tails tails' comes comes' past es o f buf up more stays given b = record {
  long = b.long;
  parts = λ x p i. elim (placed_how past o es up (length f.buf) f.call x p i) [
    | inl old ↦ elim (b.parts x p old) [
      | inl c ↦ inl (stays x p c)
      | inr has ↦ inr (has.0, has.1, omega (arith, has.2, more x.source), has.3)
    ]
    | inr new ↦ inl (subst (comes' x) (sym new.3) (given new.0 x new.1 new.2))
  ];
  rest = λ k le. b.rest k (omega (arith, le, used_more past o es up (length f.buf) f.call));
}

-- of a receive that is made now
pub buffer_new : (v : View Item) (tails : List ℕ) (comes : Mark → ℕ → Type 0) (past : List Event) (f : Receive) → placed (length f.buf) f.call past ≡ [] → Buffer v tails comes past f f.buf
buffer_new v tails comes past f none = record { long = refl; parts = λ x p i. never (let j : In {X = Mark × ℕ} (x, p) [] = subst (In {X = Mark × ℕ} (x, p)) none i in j); rest = λ k le. refl }

-- the item of each message here has as many bytes as its head says
abbrev pub AreSized : View Item → List Event → Receive → Type 0
AreSized v past f = (x : Mark) (p : ℕ) (item : Item) → In (x, p) (placed (length f.buf) f.call past) → slice_get (v.ready x.source) x.place ≡ Some item → length item.bytes ≡ x.head.total

-- the bytes of a message are written at its place
pub buffer_fills : (v : View Item) (tails : List ℕ) (comes comes' : Mark → ℕ → Type 0) (past : List Event) (f : Receive) (buf : List ℕ) (x : Mark) (place : ℕ) (item : Item) → AreSized v past f
    → In (x, place) (placed (length f.buf) f.call past) → slice_get (v.ready x.source) x.place ≡ Some item → x.place < slice_index tails x.source
    → ((y : Mark) (q : ℕ) → comes y q → comes' y q ⊎ ((x.source ≡ y.source) × (x.place ≡ y.place) × (place ≡ q))) → Buffer v tails comes past f buf → Buffer v tails comes' past f (paste buf place item.bytes)
buffer_fills v tails comes comes' past f buf x place item sized there at whole moves b = record {
  long = paste_long buf place item.bytes ∙ b.long;
  parts = λ y q i. elim (b.parts y q i) [
    | inl c ↦ elim (moves y q c) [ inl comes ↦ inl comes | inr same ↦ inr (now y q same.0 same.1 same.2) ]
    | inr has ↦ elim (ordered (placed (length f.buf) f.call past) (y, q) (x, place) i there) [
      | inl e ↦ inr (now y q (ap (λ (z : Mark × ℕ). z.0.source) (sym e)) (ap (λ (z : Mark × ℕ). z.0.place) (sym e)) (ap (λ (z : Mark × ℕ). z.1) (sym e)))
      | inr way ↦ inr (has.0, has.1, has.2, stands_still buf place item.bytes q has.0.bytes has.3 (apart y q has.0 (sized y q has.0 i has.1) way))
    ]
  ];
  rest = λ k le. paste_keeps buf place item.bytes k (inr (omega (arith, within_used (length f.buf) f.call past x place there, sized x place item there at, b.long, le))) ∙ b.rest k le;
}
  where
    now : (y : Mark) (q : ℕ) → x.source ≡ y.source → x.place ≡ y.place → place ≡ q → HasPart v.ready tails (paste buf place item.bytes) y q
    now y q source number same = (
      item,
      subst (λ (s : ℕ). slice_get (v.ready s) y.place ≡ Some item) source (subst (λ (k : ℕ). slice_get (v.ready x.source) k ≡ Some item) number at),
      subst (λ (s : ℕ). y.place < slice_index tails s) source (omega (arith, whole, number)),
      subst (λ (p : ℕ). StandsAt (paste buf place item.bytes) p item.bytes) same (paste_stands buf place item.bytes),
    )

    apart : (y : Mark) (q : ℕ) (other : Item) → length other.bytes ≡ y.head.total → Ahead (y, q) (x, place) (placed (length f.buf) f.call past) ⊎ Ahead (x, place) (y, q) (placed (length f.buf) f.call past)
        → (q + min (length other.bytes) (length buf - q) ≤ place) ⊎ (place + min (length item.bytes) (length buf - place) ≤ q)
    apart y q other size (inl later) = inr (omega (arith, placed_apart (length f.buf) f.call past x y place q later, sized x place item there at, b.long))
    apart y q other size (inr before) = inl (omega (arith, placed_apart (length f.buf) f.call past y x q place before, size, b.long))

-- ---- what is under way

-- what comes to a receive of this call
abbrev pub Busy : Receiving → ℕ → Type 0
Busy rx call = (q : ℕ) × (r : Receive) × (place : ℕ) × (coming_from rx q ≡ Some (Into r place)) × (r.call ≡ call)

pub under_way_by : (rx : Receiving) (call : ℕ) → Busy rx call → under_way rx call ≡ true
under_way_by rx call (q, r, place, comes, number) = any_in (model.is_into call) (Some (Into r place)) rx.coming (at rx.coming q comes) (eq-eqb r.call call number)
  where
    at : (cs : List (Option Coming)) (q : ℕ) → get_or cs q None ≡ Some (Into r place) → In (Some (Into r place)) cs
    at [] q f = absurd (cc (f))
    at (d ∷ cs) zero f = inl (sym f)
    at (d ∷ cs) (suc q) f = inr (at cs q f)

pub busy_of : (rx : Receiving) (call : ℕ) → under_way rx call ≡ true → Busy rx call
busy_of rx call e = let w = at rx.coming e in named w.0 w.1 (coming_from rx w.0) refl
  where
    at : (cs : List (Option Coming)) → list_any (model.is_into call) cs ≡ true → (q : ℕ) × (model.is_into call (get_or cs q None) ≡ true)
    at [] f = absurd (cc (f))
    at (d ∷ cs) f = go (model.is_into call d) refl f (λ g. at cs g)
      where
        go : (b : Bool) → model.is_into call d ≡ b → (b || list_any (model.is_into call) cs) ≡ true → (list_any (model.is_into call) cs ≡ true → (q : ℕ) × (model.is_into call (get_or cs q None) ≡ true)) → (q : ℕ) × (model.is_into call (get_or (d ∷ cs) q None) ≡ true)
        go true g h more = (zero, g)
        go false g h more = let w = more h in (suc w.0, w.1)

    named : (q : ℕ) → model.is_into call (coming_from rx q) ≡ true → (c : Option Coming) → coming_from rx q ≡ c → Busy rx call
    named q f None g = absurd (let h : model.is_into call None ≡ true = ap (model.is_into call) (sym g) ∙ f in cc (h))
    named q f (Some Keep) g = absurd (let h : model.is_into call (Some Keep) ≡ true = ap (model.is_into call) (sym g) ∙ f in cc (h))
    named q f (Some Throw) g = absurd (let h : model.is_into call (Some Throw) ≡ true = ap (model.is_into call) (sym g) ∙ f in cc (h))
    named q f (Some Request) g = absurd (let h : model.is_into call (Some Request) ≡ true = ap (model.is_into call) (sym g) ∙ f in cc (h))
    named q f (Some Answer) g = absurd (let h : model.is_into call (Some Answer) ≡ true = ap (model.is_into call) (sym g) ∙ f in cc (h))
    named q f (Some (Into r place)) g = (q, r, place, g, eqb-true r.call call (let h : model.is_into call (Some (Into r place)) ≡ true = ap (model.is_into call) (sym g) ∙ f in h))

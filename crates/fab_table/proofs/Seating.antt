-- How the rule begins, and how seats are split and joined.
use Rattle.std.proofs.Common.{◌≡◌, ℕ, zero, suc, ◌+◌, ◌*◌, ◌%◌, ◌<◌, ◌≤◌, ◌≢◌, inr, ⊎_elim, false, true≢false, List, [], ◌∷◌, ◌++◌, map, length, take, drop, replicate, get_or, set, sym, refl, ap, ◌∙◌, subst, le_refl, arith, mod-lt}
use mathlib.Core.Logic.{dite}
use mathlib.Core.Option.{some, some-ne-none}
use native.Mathlib.Decide.{ℕ_discrete, dec_lt}
use lib.ListN.{get_elem?, length-map, length-replicate}
use lib.Seq.{set-get_or}
use Rattle.std.specs.Prelude.{None}
use Rattle.std.proofs.lemmas.Option.{none-some}
use Rattle.atomic_table.specs.Table.{State, keeps, Allows, Splits, Joins, opening}
use Rattle.atomic_table.proofs.Lists.{at_set, set_else, set_again}
use mathlib.Core.List.{IsPrefix}
use Rattle.std.proofs.Math.ListN.{get_or-append}
use Rattle.std.proofs.lemmas.List.{take-append-drop, get_or-replicate}
pub use Rattle.fab_base.proofs.Lists.{all_the_same as same_all}
use Rattle.fab_base.proofs.Places.{at_end}
use Rattle.fab_table.specs.declared.kinds.Sent.{Sent}
use Rattle.fab_table.specs.declared.kinds.Layout.{Layout}
use Rattle.fab_table.specs.declared.kinds.Slot.{Slot}
use Rattle.fab_table.specs.declared.kinds.Out.{Out}
use Rattle.fab_table.specs.declared.kinds.In.{In}
use Rattle.fab_table.specs.declared.kinds.Part.{Part}
use Rattle.fab_table.specs.declared.kinds.View.{View}
use Rattle.fab_link.specs.Owing.{IsOwed}
use Rattle.fab_table.specs.Views.{frames_of, pool_word, new_out, new_in, new_part, parts_from, everyone, nobody, only_first, but_first, both, part_at, in_at, lane_of, put_word, got_word, word_count}
use Rattle.fab_table.specs.Plays.{Sat, learned}
use Rattle.fab_table.specs.Rule.{free, IsCell, IsBuf, Lane, OutOk, InOk, number, Kept, PartOk, Ruled}
use Rattle.fab_table.proofs.Rows.{pick, pair_below}
use Rattle.fab_table.proofs.Stays.{mine}

reseated : (n room pool : ℕ) (lane : ℕ → Lane) (spot spot' : ℕ → ℕ × ℕ) (j i j' i' : ℕ) (p : Part) → PartOk n room pool lane spot j i p → spot' p.me ≡ (j', i') → PartOk n room pool lane spot' j' i' p
reseated n room pool lane spot spot' j i j' i' p ok is = record {
  below = ok.below;
  peers = ok.peers;
  wide = ok.wide;
  pooled = ok.pooled;
  seated = is;
  all_outs = ok.all_outs;
  all_ins = ok.all_ins;
  outs = ok.outs;
  ins = ok.ins;
  kept = ok.kept;
}

-- the rule with other views
reviewed : (k : Layout) (s : State Slot View) (r : Ruled k s) (vs : List View) (spot : ℕ → ℕ × ℕ) → ((j : ℕ) (v : View) → get_elem? vs j ≡ some v → (i : ℕ) → i < length v.parts → PartOk k.peers k.room k.pool r.lane spot j i (part_at v i))
    → Ruled k record { words = s.words; homes = s.homes; views = vs }
reviewed k s r vs spot parts = record {
  lane = r.lane;
  spot = spot;
  some_room = r.some_room;
  all_words = r.all_words;
  all_slots = r.all_slots;
  place = r.place;
  pools = r.pools;
  each_lane = r.each_lane;
  each_part = parts;
}

-- where a part lies after the first part of the seat `id` went to the seat `new`
cut_at : ℕ → ℕ → ℕ → ℕ → ℕ × ℕ
cut_at id new a zero = pick (ℕ_discrete a id) (new, 0) (a, 0)
cut_at id new a (suc b) = pick (ℕ_discrete a id) (id, b) (a, suc b)

pick_yes : {X P : Type 0} (d : Dec P) (a b : X) → P → pick d a b ≡ a
pick_yes (yes _) a b p = refl
pick_yes (no n) a b p = absurd (n p)

pick_no : {X P : Type 0} (d : Dec P) (a b : X) → ¬ P → pick d a b ≡ b
pick_no (yes p) a b n = absurd (n p)
pick_no (no _) a b n = refl

cut_first : (id new : ℕ) → cut_at id new id 0 ≡ (new, 0)
unfolding cut_at
cut_first id new = pick_yes (ℕ_discrete id id) (new, 0) (id, 0) refl

cut_next : (id new b : ℕ) → cut_at id new id (suc b) ≡ (id, b)
unfolding cut_at
cut_next id new b = pick_yes (ℕ_discrete id id) (id, b) (id, suc b) refl

cut_else : (id new a b : ℕ) → a ≢ id → cut_at id new a b ≡ (a, b)
unfolding cut_at
cut_else id new a zero ne = pick_no (ℕ_discrete a id) (new, 0) (a, 0) ne
cut_else id new a (suc b) ne = pick_no (ℕ_discrete a id) (id, b) (a, suc b) ne

-- where it lies after the parts of the seat `other` joined those of `id`
join_at : ℕ → ℕ → ℕ → ℕ → ℕ → ℕ × ℕ
join_at id long other a b = pick (ℕ_discrete a other) (id, long + b) (a, b)

module _ {A : Type 0} where
  after_first : (l : List A) (i : ℕ) (d : A) → i < length (drop 1 l) → (suc i < length l) × (get_or l (suc i) d ≡ get_or (drop 1 l) i d)
  after_first [] i d h = absurd (omega arith)
  after_first (x ∷ xs) i d h = (omega arith, refl)

  the_first : (l : List A) (i : ℕ) (d : A) → i < length (take 1 l) → (i ≡ 0) × (0 < length l) × (get_or l 0 d ≡ get_or (take 1 l) i d)
  the_first [] i d h = absurd (omega arith)
  the_first (x ∷ xs) zero d h = (refl, omega arith, refl)
  the_first (x ∷ xs) (suc i) d h = absurd (omega arith)

  behind_it : (l m : List A) (i : ℕ) (d : A) → length l ≤ i → i < length (l ++ m) → (c : ℕ) × (i ≡ length l + c) × (c < length m) × (get_or m c d ≡ get_or (l ++ m) i d)
  behind_it [] m i d h near = (i, omega arith, near, refl)
  behind_it (x ∷ xs) m zero d h near = absurd (omega arith)
  behind_it (x ∷ xs) m (suc i) d h near = let t = behind_it xs m i d (omega arith) (omega arith) in let e = t.1 in (t.0, omega arith, t.2, t.3)

there_or : {A : Type 0} (l : List A) (i : ℕ) (d : A) → i < length l → get_elem? (map some l) i ≡ some (some (get_or l i d))
there_or [] i d h = absurd (omega arith)
there_or (x ∷ xs) zero d h = refl
there_or (x ∷ xs) (suc i) d h = there_or xs i d (omega arith)

-- a seat is split
pub cuts : (k : Layout) (id : ℕ) (v : View) → Splits (Ruled k) id v (but_first v) (only_first v)
cuts k id v s r at = let new : ℕ = length (set s.views id (but_first v)) in let n : ℕ = k.peers in let d : Part = new_part 0 0 0 0 in
    let spot : ℕ → ℕ × ℕ = λ m. cut_at id new (r.spot m).0 (r.spot m).1 in let go : (a b : ℕ) (p : Part) → PartOk n k.room k.pool r.lane r.spot a b p → spot p.me ≡ cut_at id new a b = λ a b p ok i. cut_at id new (ok.seated i).0 (ok.seated i).1 in
    let Fine : ℕ → ℕ → Part → Type 0 = PartOk n k.room k.pool r.lane spot in
    reviewed k s r (set s.views id (but_first v) ++ only_first v ∷ []) spot (λ j u e. ⊎_elim
    (λ o. ⊎_elim
    (λ t. subst (λ (z : ℕ × View). (i : ℕ) → i < length z.1.parts → Fine z.0 i (part_at z.1 i)) (λ a. (sym t.0 a, t.1 a))
    (λ i near. let f = after_first v.parts i d near in let ok = r.each_part id v at (suc i) f.0 in
    subst (Fine id i) f.1 (reseated n k.room k.pool r.lane r.spot spot id (suc i) id i (part_at v (suc i)) ok (go id (suc i) (part_at v (suc i)) ok ∙ cut_next id new i))))
    (λ t i near. let ok = r.each_part j u t.1 i near in reseated n k.room k.pool r.lane r.spot spot j i j i (part_at u i) ok (go j i (part_at u i) ok ∙ cut_else id new j i t.0))
    (at_set s.views id j (but_first v) u o))
    (λ o. subst (λ (z : ℕ × View). (i : ℕ) → i < length z.1.parts → Fine z.0 i (part_at z.1 i)) (λ a. (sym o.0 a, o.1 a))
    (λ i near. let f = the_first v.parts i d near in let ok = r.each_part id v at 0 f.1 in
    subst (λ (z : ℕ × Part). Fine new z.0 z.1) (λ a. (sym f.0 a, f.2 a)) (reseated n k.room k.pool r.lane r.spot spot id 0 new 0 (part_at v 0) ok (go id 0 (part_at v 0) ok ∙ cut_first id new))))
    (at_end (set s.views id (but_first v)) (only_first v) u j e))

-- two seats are joined
pub joins_parts : (k : Layout) (id : ℕ) (v : View) (other : ℕ) (w : View) → Joins (Ruled k) id v other w (both v w) nobody
unfolding join_at
joins_parts k id v other w s r at two at' = let long : ℕ = length v.parts in let n : ℕ = k.peers in let d : Part = new_part 0 0 0 0 in let vs : List View = set s.views id (both v w) in
    let spot : ℕ → ℕ × ℕ = λ m. join_at id long other (r.spot m).0 (r.spot m).1 in let go : (a b : ℕ) (p : Part) → PartOk n k.room k.pool r.lane r.spot a b p → spot p.me ≡ join_at id long other a b = λ a b p ok i. join_at id long other (ok.seated i).0 (ok.seated i).1 in
    let Fine : ℕ → ℕ → Part → Type 0 = PartOk n k.room k.pool r.lane spot in let theirs : get_elem? s.views other ≡ some w = sym (set_else s.views id other (both v w) two) ∙ at' in
    let stays : (a b : ℕ) (p : Part) → a ≢ other → PartOk n k.room k.pool r.lane r.spot a b p → Fine a b p = λ a b p ne ok. reseated n k.room k.pool r.lane r.spot spot a b a b p ok (go a b p ok ∙ pick_no (ℕ_discrete a other) (id, long + b) (a, b) ne) in
    reviewed k s r (set vs other nobody) spot (λ j u e. ⊎_elim
    (λ t. subst (λ (z : View). (i : ℕ) → i < length z.parts → Fine j i (part_at z i)) t.1 (λ i near. absurd (let no : i < 0 = near in omega arith)))
    (λ t. ⊎_elim
    (λ o. subst (λ (z : ℕ × View). (i : ℕ) → i < length z.1.parts → Fine z.0 i (part_at z.1 i)) (λ a. (sym o.0 a, o.1 a))
    (λ i near. dite (dec_lt i long)
    (λ low. subst (Fine id i) (sym (get_or-append v.parts w.parts d i low)) (stays id i (part_at v i) (λ h. two (sym h)) (r.each_part id v at i low)))
    (λ high. let f = behind_it v.parts w.parts i d (let g : length v.parts ≤ i = omega arith in g) near in let ok = r.each_part other w theirs f.0 f.2 in
    subst (λ (z : ℕ × Part). Fine id z.0 z.1) (λ a. (sym f.1 a, f.3 a))
    (reseated n k.room k.pool r.lane r.spot spot other f.0 id (long + f.0) (part_at w f.0) ok (go other f.0 (part_at w f.0) ok ∙ pick_yes (ℕ_discrete other other) (id, long + f.0) (other, f.0) refl)))))
    (λ o i near. stays j i (part_at u i) t.0 (r.each_part j u o.1 i near))
    (at_set s.views id j (both v w) u t.1))
    (at_set vs other j nobody u e))

abbrev empty_lane : Lane
empty_lane = record { posted = []; got = 0; writing = false; opened = None; claim = None; lent = false }

parts_at : (n room pool p c i : ℕ) (d : Part) → i < length (parts_from n room pool p c) → (i < c) × (new_part n room pool (p + i) ≡ get_or (parts_from n room pool p c) i d)
parts_at n room pool p zero i d h = absurd (let no : i < 0 = h in omega arith)
parts_at n room pool p (suc c) zero d h = (omega arith, ap (new_part n room pool) (let e : p + 0 ≡ p = omega arith in e))
parts_at n room pool p (suc c) (suc i) d h = let t = parts_at n room pool (suc p) c i d (omega arith) in let l = t.0 in (omega arith, ap (new_part n room pool) (let e : p + suc i ≡ suc p + i = omega arith in e) ∙ t.1)

module _ (n room pool i : ℕ) where
  abbrev p : Part
  p = new_part n room pool i

  none_posted : (m d : ℕ) → (get_or (replicate m (new_out pool)) d (new_out 0)).posted ≡ []
  none_posted zero d = refl
  none_posted (suc m) zero = refl
  none_posted (suc m) (suc d) = none_posted m d

  new_kept : Kept p
  new_kept = record {
    stamped = tt;
    posts = λ d near. ap (λ (z : Out). map number z.posted) (sym (get_or-replicate n d (new_out pool) (new_out 0) (subst (λ (z : ℕ). d < z) (length-replicate n (new_out pool)) near)));
    takes = λ d near. ap (λ (z : In). map number z.taken) (sym (same_all n d new_in));
    no_takes = λ s far. refl;
    repaid = λ d op. subst (λ (z : List Sent). IsOwed (λ op. 0) (frames_of z) (frames_of (in_at p d).taken) op 0) (sym (none_posted n d)) (omega arith);
  }

  new_ok : i < n → PartOk n room pool (λ _. empty_lane) (λ m. (0, m)) 0 i p
  new_ok below = record {
    below = below;
    peers = refl;
    wide = refl;
    pooled = refl;
    seated = refl;
    all_outs = length-replicate n (new_out pool);
    all_ins = length-replicate n new_in;
    outs = λ d near. subst (OutOk empty_lane) (sym (get_or-replicate n d (new_out pool) (new_out 0) near)) (refl, le_refl 0, refl, refl);
    ins = λ d near. subst (InOk empty_lane) (sym (same_all n d new_in)) (refl, le_refl 0, refl, refl);
    kept = new_kept;
  }

pub starts : (k : Layout) (ws : List ℕ) (xs : List Slot) → 0 < k.room → length ws ≡ word_count k.peers k.pool → ((i : ℕ) → get_or ws i 0 ≡ 0) → length xs ≡ k.peers * k.peers * k.room + k.peers * k.pool → (d : Slot) → ((q : ℕ) → q < k.peers * k.peers * k.room → IsCell (get_or xs q d)) → ((q : ℕ) → k.peers * k.peers * k.room ≤ q → q < k.peers * k.peers * k.room + k.peers * k.pool → IsBuf (get_or xs q d))
    → Ruled k (opening ws xs (everyone k.peers k.room k.pool))
starts k ws xs pos wide zeros long d₀ cells bufs = let n : ℕ = k.peers in let room : ℕ = k.room in let pool : ℕ = k.pool in record {
  lane = λ _. empty_lane;
  spot = λ m. (0, m);
  place = λ _. free;
  some_room = pos;
  all_words = wide;
  all_slots = length-map xs some ∙ long;
  each_lane = λ l near. record {
    put_is = zeros (put_word l);
    got_is = zeros (got_word l);
    behind = omega arith;
    within = omega arith;
    filled = λ c x le at. absurd (some-ne-none x (sym at));
    free = λ c le lt. inr (let at_home : l * room + c % room < n * n * room = pair_below room (n * n) l (c % room) near (mod-lt c pos) in (get_or xs (l * room + c % room) d₀, cells (l * room + c % room) at_home, there_or xs (l * room + c % room) d₀ (let big : ℕ = n * n * room in let q : l * room + c % room < big = pair_below room (n * n) l (c % room) near (mod-lt c pos) in let t : ℕ = n * pool in let e : length xs ≡ big + t = long in omega arith)));
    cut = tt;
    short = λ c x at. absurd (some-ne-none x (sym at));
    open_is = λ x e. absurd (none-some x e);
    writing_is = λ e. absurd (true≢false (sym e));
  };
  each_part = λ j v e. ⊎_elim (λ o. absurd (some-ne-none v (sym o)))
      (λ o. subst (λ (z : ℕ × View). (i : ℕ) → i < length z.1.parts → PartOk n room pool (λ _. empty_lane) (λ m. (0, m)) z.0 i (part_at z.1 i)) (λ a. (sym o.0 a, o.1 a))
      (λ i near. let t = parts_at n room pool 0 n i (new_part 0 0 0 0) near in subst (PartOk n room pool (λ _. empty_lane) (λ m. (0, m)) 0 i) (ap (new_part n room pool) (let g : i ≡ 0 + i = omega arith in g) ∙ t.1) (new_ok n room pool i t.0)))
      (at_end [] (everyone n room pool) v j e);
  pools = record {
    each_place = λ q near. let big : ℕ = n * n * room in let t : ℕ = n * pool in let e : length xs ≡ big + t = long in let lt : q < t = near in let within : big + q < length xs = omega arith in (zeros (pool_word n q), (get_or xs (big + q) d₀, bufs (big + q) (omega arith) (omega arith), there_or xs (big + q) d₀ within));
    each_claim = λ s d q a b c. absurd (none-some q c);
    each_sent = λ s d c x q a b o e. absurd (some-ne-none x (sym o.1));
    each_lent = λ s d a b c. absurd (true≢false (sym c));
  };
}

-- a look, which tells what the rule says of the seat's own parts
pub learns : (k : Layout) (slots id : ℕ) (me : Sat) (w : ℕ) → Allows (Ruled k) slots id me w (λ n. n) (λ _. learned me)
learns k slots id me w s r wide at small = let v : View = me.0 in let x : ℕ = get_or s.words w 0 in let same : set s.words w x ≡ s.words = set-get_or s.words w 0 in let n : ℕ = k.peers in (
  v,
  keeps,
  tt,
  subst (λ (ws : List ℕ). Ruled k record { words = ws; homes = s.homes; views = set s.views id v }) (sym same)
      (subst (λ (vs : List View). Ruled k record { words = s.words; homes = s.homes; views = vs }) (sym (set_again s.views id v at)) r),
  (
    refl,
    (λ a near. (mine k s r id v at a near).kept),
    λ a b near near'. let p : Part = part_at v a in let q : Part = part_at v b in let f = mine k s r id v at a near in let g = mine k s r id v at b near' in
        let out = f.outs q.me g.below in let got = g.ins p.me f.below in let lane : Lane = r.lane (lane_of n p.me q.me) in
        subst (λ (z : List Sent × List Sent). IsPrefix z.0 z.1) (λ i. (sym got.0 i, sym out.0 i)) (drop lane.got lane.posted, take-append-drop lane.got lane.posted),
  ),
)

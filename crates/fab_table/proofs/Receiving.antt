-- Each kind of step of a receiver keeps the rule.
use Rattle.std.proofs.Common.{◌≡◌, ℕ, zero, suc, ◌+◌, ◌*◌, ◌%◌, ◌<◌, ◌≤◌, ◌≢◌, ◌⊎◌, inl, inr, ⊎_elim, true, false, List, [], ◌∷◌, ◌++◌, length, take, get_or, set, sym, refl, ap, ◌∙◌, subst, le_refl, arith, length-set, get_or-set_other, get_or-set_same, mod-lt}
use mathlib.Core.Logic.{dite}
use mathlib.Core.Option.{some, none, some-injective, some-ne-none}
use native.Mathlib.Decide.{dec_lt}
use lib.ListN.{get_elem?}
use lib.Seq.{set_comm, set-get_or, length-take-le}
use Rattle.std.specs.Prelude.{Option, Some, None}
use Rattle.std.proofs.lemmas.Option.{none-some, same_Some}
use Rattle.atomic_table.specs.Table.{step, keeps, takes, gives, chain, stepped, rest, Allows, carried_after}
use Rattle.atomic_table.proofs.Lists.{set_else, set_here}
use Rattle.fab_base.specs.declared.frames.FrameHead.{FrameHead}
use Rattle.fab_base.proofs.Places.{at_some}
use Rattle.fab_link.specs.declared.moves.Move.{Move}
use Rattle.fab_link.specs.declared.moves.Move.TheVariants.{Take}
use Rattle.fab_link.specs.Frames.{last_head, MayCome, IsLane}
use Rattle.fab_table.specs.declared.kinds.Command.{Command}
use Rattle.fab_table.specs.declared.kinds.Sent.{Sent}
use Rattle.fab_table.specs.declared.kinds.Layout.{Layout}
use Rattle.fab_table.specs.declared.kinds.Slot.{Slot}
use Rattle.fab_table.specs.declared.kinds.Slot.TheVariants.{Cell}
use Rattle.fab_table.specs.declared.kinds.In.{In}
use Rattle.fab_table.specs.declared.kinds.Part.{Part}
use Rattle.fab_table.specs.declared.kinds.View.{View}
use Rattle.fab_table.specs.Views.{frames_of, freed_one, pool_word, pool_home, has_slot, part_at, out_at, in_at, saw_empty, saw_frame, taken_one, lane_of, put_word, got_word}
use Rattle.fab_table.specs.Rule.{SaidAt, Fills, FilledAt, IsBuf, sent, free, PlaceOk, Homes, Lane, cell_of, LaneOk, InOk, Ruled}
use Rattle.fab_table.specs.Plays.{frees_pool, FreesAt, free_view, Sat, in_lane, oldest_cell, new_in_view, take_view, Opens, SawPut, saw_put, takes_frame}
use Rattle.fab_table.proofs.Rows.{put, take_next, pair_below, lane_below}
use Rattle.fab_table.proofs.Cells.{stays, with_writing, with_opened, with_take, opens, frees}
use Rattle.fab_table.proofs.Orders.{kept_in, kept_take}
use Rattle.fab_table.proofs.Pooled.{lane_at, with_lent, pools_look, pools_open, pools_open_slot, pools_take, pools_free}
use Rattle.fab_table.proofs.Stays.{mine, in_moves}
use Rattle.fab_table.proofs.Places.{one_slot, no_slot, got_too, pool_same, word_same, same_in, rewritten, cell_apart, reclaimed}

slot_cases : (o : Option ℕ) → (o ≡ None) ⊎ ((q : ℕ) × (o ≡ Some q))
slot_cases None = inl refl
slot_cases (Some q) = inr (q, refl)

-- each frame of a lane may come behind those before it
comes_at : (before : Option FrameHead) (xs : List Sent) (k : ℕ) (x : Sent) → IsLane before (frames_of xs) → get_elem? xs k ≡ some x → MayCome (last_head before (frames_of (take k xs))) x.frame
comes_at before [] k x s e = absurd (some-ne-none x (sym e))
comes_at before (y ∷ ys) zero x s e = subst (λ (z : Sent). MayCome before z.frame) (some-injective y x e) s.0
comes_at before (y ∷ ys) (suc k) x s e = comes_at (Some y.frame.head) ys k x s.1 e

-- the look at put
pub looks_put : (k : Layout) (slots id : ℕ) (me : Sat) (w i d : ℕ) → i < length me.0.parts → d < (part_at me.0 i).peers → w ≡ put_word (in_lane me.0 i d) → (in_at (part_at me.0 i) d).opened ≡ None
    → Allows (Ruled k) slots id me w (λ n. n) (saw_put (step slots w 0 0 none) me)
looks_put k slots id me w i d near low is idle s r wide at small =
    let v : View = me.0 in let p : Part = part_at v i in let o : In = in_at p d in let known = mine k s r id v at i near in let n : ℕ = k.peers in let room : ℕ = k.room in
    let low' : d < n = subst (λ (z : ℕ). d < z) known.peers low in let l : ℕ = lane_of n d p.me in let lane : Lane = r.lane l in let f = known.ins d low' in
    let got_put : ℕ = get_or s.words w 0 in
    let ok : LaneOk room (l * room) (get_or s.words (put_word l) 0) (get_or s.words (got_word l) 0) s.homes lane = r.each_lane l (lane_below n d p.me low' known.below) in let below = lane_below n d p.me low' known.below in
    let word : w ≡ put_word l = is ∙ ap (λ (z : ℕ). put_word (lane_of z d p.me)) known.peers in
    let put_is : got_put ≡ length lane.posted = ap (λ (z : ℕ). get_or s.words z 0) word ∙ ok.put_is in let behind = ok.behind in
    let long : length o.taken ≡ lane.got = ap length f.0 ∙ length-take-le lane.got lane.posted behind in let room_is : p.room ≡ room = known.wide in let c : ℕ = lane.got in
    let closed : lane.opened ≡ None = sym f.2 ∙ idle in let same : set s.words w got_put ≡ s.words = set-get_or s.words w 0 in
    let told : (n' : Sat) → SawPut me got_put n' i d → saw_put (step slots w 0 0 none) me got_put n' = λ n' one i' d' near' lower e. let h : in_lane v i' d' ≡ in_lane v i d = (let q : put_word (in_lane v i' d') ≡ put_word (in_lane v i d) = sym e ∙ is in omega arith) in
    let both = same_in k s r id v at i d i' d' near near' low lower h in subst (λ (z : ℕ × ℕ). SawPut me got_put n' z.0 z.1) (λ a. (sym both.0 a, sym both.1 a)) one in
    let all : (a : ℕ) → a < length v.parts → (part_at v a).me ≡ d → got_put ≡ length (out_at (part_at v a) p.me).posted = λ a inside e. let b = mine k s r id v at a inside in
    put_is ∙ (λ j. length (r.lane (lane_of n (sym e j) p.me)).posted) ∙ ap length (sym (b.outs p.me known.below).0) in
    let within_ins : d < length p.ins = subst (λ (z : ℕ). d < z) (sym known.all_ins) low' in
    dite (dec_lt c (length lane.posted))
    (λ news. let y = at_some lane.posted c news in
    let home : SaidAt y.0 (get_elem? s.homes (cell_of (l * room) room c)) = ⊎_elim (λ q. absurd (none-some y.0 (sym closed ∙ q.1))) (λ h. h) (ok.filled c y.0 (le_refl c) y.1) in
    let o' : In = saw_frame o got_put y.0 in let slot : ℕ = cell_of (l * room) room c in let hs₁ : Homes = set s.homes slot none in let x : Lane = with_opened lane (Some y.0) (has_slot y.0.slot) in
    let here : slot ≡ oldest_cell v i d = λ a. cell_of (lane_of (sym known.peers a) d p.me * sym room_is a) (sym room_is a) (sym long a) in let c_near : c % room < room = mod-lt c r.some_room in
    let opened_lane : LaneOk room (l * room) (get_or s.words (put_word l) 0) (get_or s.words (got_word l) 0) hs₁ x = opens room (l * room) (get_or s.words (put_word l) 0) (get_or s.words (got_word l) 0) s.homes lane ok y.0 (has_slot y.0.slot) y.1 in
    let tells : Opens o y.0 home.0 = (subst (λ (z : List Sent). MayCome (last_head None (frames_of z)) y.0.frame) (sym f.0) (comes_at None lane.posted c y.0 ok.cut y.1), ok.short c y.0 y.1, home.1) in let fine : InOk x o' = (f.0, (let q : got_put ≤ length lane.posted = omega arith in q), refl, refl) in
    ⊎_elim
    (λ small_frame. (
      new_in_view v i d o',
      takes slot home.0,
      home.2,
      subst (λ (ws : List ℕ). Ruled k record { words = ws; homes = hs₁; views = set s.views id (new_in_view v i d o') }) (sym same)
          (in_moves k s r id v at i near d x o' p.moves s.words hs₁ r.place
          (pools_open n room k.pool r.lane r.place s.words s.homes r.pools d p.me low' known.below y.0 s.words hs₁ (λ q. refl) (pool_same k s r l (c % room) none below c_near) closed y.1 small_frame)
          low' refl (length-set s.homes slot none) (one_slot k s r l (c % room) none hs₁ c_near refl) opened_lane fine (λ u h. h) (kept_in p known.kept d o' within_ins refl)),
      told _ (omega arith, (λ old. absurd (omega arith)), (λ _. (y.0, home.0, tells, inl (small_frame, λ a. (new_in_view v i d o', (here a, home.0) ∷ me.1)))), all),
    ))
    (λ large. let q : ℕ = large.0 in let pools = r.pools in let mine = pools.each_sent d p.me lane.got y.0 q low' known.below (le_refl lane.got, y.1, λ _ e. absurd (none-some y.0 (sym closed ∙ e))) large.1 in
    let was : PlaceOk n r.lane q (get_or s.words (pool_word n q) 0) (get_elem? s.homes (pool_home n room q)) (sent d p.me lane.got) = subst (PlaceOk n r.lane q (get_or s.words (pool_word n q) 0) (get_elem? s.homes (pool_home n room q))) mine.1 (pools.each_place q mine.0) in
    let z = was.3.1 in let zy : z.0 ≡ y.0 = some-injective z.0 y.0 (sym z.1 ∙ y.1) in
    let holds : FilledAt z.0 (get_elem? s.homes (pool_home n room q)) = ⊎_elim (λ e. absurd (let g = pools.each_lent d p.me low' known.below e.1 in none-some g.0 (sym closed ∙ g.1))) (λ e. e.0) z.3 in
    let b : Slot = holds.0 in let fits : Fills y.0 b = subst (λ (t : Sent). Fills t b) zy holds.1 in let ph : ℕ = pool_home n room q in let hs : Homes = set hs₁ ph none in
    let there : pool_home p.peers p.room q ≡ ph = λ a. pool_home (known.peers a) (room_is a) q in let e₁ = one_slot k s r l (c % room) none hs₁ c_near refl in (
      new_in_view v i d o',
      chain (takes ph b) (takes slot home.0),
      (holds.2, set_else s.homes ph slot none (cell_apart n room l (c % room) q below c_near) ∙ home.2),
      subst (λ (z : List ℕ × Homes). Ruled k record { words = z.0; homes = z.1; views = set s.views id (new_in_view v i d o') }) (λ a. (sym same a, set_comm s.homes slot ph none none (cell_apart n room l (c % room) q below c_near) a))
          (in_moves k s r id v at i near d x o' p.moves s.words hs (put r.place q (sent d p.me lane.got))
          (pools_open_slot n room k.pool r.lane r.place s.words s.homes r.pools d p.me low' known.below y.0 q s.words hs (λ q'. refl)
          (λ q' ne. set_else hs₁ ph (pool_home n room q') none (λ e. ne (omega arith)) ∙ pool_same k s r l (c % room) none below c_near q') closed y.1 large.1)
          low' refl (length-set hs₁ ph none ∙ length-set s.homes slot none) (e₁.0, λ m e low₂ ne near₂. set_else hs₁ ph (m * room + e) none (cell_apart n room m e q low₂ near₂) ∙ e₁.1 m e low₂ ne near₂)
          (stays room (l * room) (get_or s.words (put_word l) 0) (get_or s.words (got_word l) 0) hs₁ hs x (λ e. set_else hs₁ ph (cell_of (l * room) room e) none (cell_apart n room l (e % room) q below (mod-lt e r.some_room))) opened_lane)
          fine (λ u h. h) (kept_in p known.kept d o' within_ins refl)),
      told _ (omega arith, (λ old. absurd (omega arith)), (λ _. (y.0, home.0, tells, inr (q, b, large.1, fits, subst (λ (z : ℕ × ℕ). q < z.0 * z.1) (λ a. (sym known.peers a, sym known.pooled a)) mine.0, λ a. (new_in_view v i d o', (here a, home.0) ∷ (sym there a, b) ∷ me.1)))), all),
    ))
    (slot_cases y.0.slot))
    (λ old. let o' : In = saw_empty o got_put in (
      new_in_view v i d o',
      keeps,
      tt,
      subst (λ (ws : List ℕ). Ruled k record { words = ws; homes = s.homes; views = set s.views id (new_in_view v i d o') }) (sym same)
          (in_moves k s r id v at i near d (with_writing lane lane.writing) o' p.moves s.words s.homes r.place (pools_look n room k.pool r.lane r.place s.words s.homes r.pools d p.me low' known.below lane.writing s.words s.homes (λ q. refl) (λ q. refl)) low' refl refl (no_slot k s r l) (rewritten room (l * room) (get_or s.words (put_word l) 0) (get_or s.words (got_word l) 0) s.homes lane ok) (f.0, (let q : got_put ≤ length lane.posted = omega arith in q), f.2, f.3) (λ u h. h) (kept_in p known.kept d o' within_ins refl)),
      told _ (omega arith, (λ _. refl), (λ news. absurd (omega arith)), all),
    ))

-- a frame is finished
pub takes_one : (k : Layout) (slots id : ℕ) (me : Sat) (w i d new : ℕ) (x : Sent) (c₀ : Command) → i < length me.0.parts → d < (part_at me.0 i).peers → w ≡ got_word (in_lane me.0 i d) → (in_at (part_at me.0 i) d).opened ≡ Some x → (in_at (part_at me.0 i) d).lent ≡ false
    → new ≡ length (in_at (part_at me.0 i) d).taken + 1 → me.1 ≡ (oldest_cell me.0 i d, Cell c₀) ∷ rest me.1
    → Allows (Ruled k) slots id me w (λ _. new) (λ _. takes_frame (step slots w new 0 none) me)
takes_one k slots id me w i d new x c₀ near low is hand given up carried s r wide at small = let y : Slot = Cell c₀ in
    let v : View = me.0 in let p : Part = part_at v i in let o : In = in_at p d in let known = mine k s r id v at i near in let n : ℕ = k.peers in let room : ℕ = k.room in
    let low' : d < n = subst (λ (z : ℕ). d < z) known.peers low in let l : ℕ = lane_of n d p.me in let lane : Lane = r.lane l in let f = known.ins d low' in let below = lane_below n d p.me low' known.below in
    let put : ℕ = get_or s.words (put_word l) 0 in let got : ℕ = get_or s.words (got_word l) 0 in
    let ok : LaneOk room (l * room) put got s.homes lane = r.each_lane l below in let word : w ≡ got_word l = is ∙ ap (λ (z : ℕ). got_word (lane_of z d p.me)) known.peers in
    let got_is : got ≡ lane.got = ok.got_is in let behind = ok.behind in let long : length o.taken ≡ lane.got = ap length f.0 ∙ length-take-le lane.got lane.posted behind in let room_is : p.room ≡ room = known.wide in let c : ℕ = lane.got in
    let slot : ℕ = cell_of (l * room) room c in let hs : Homes = set s.homes slot (some y) in let ws : List ℕ = set s.words w new in let o' : In = taken_one o x in let ms : List Move = p.moves ++ Take d x.number ∷ [] in
    let here : oldest_cell v i d ≡ slot = λ a. cell_of (lane_of (known.peers a) d p.me * room_is a) (room_is a) (long a) in let open_is : lane.opened ≡ Some x = sym f.2 ∙ hand in let oldest = ok.open_is x open_is in
    let c_near : c % room < room = mod-lt c r.some_room in let all_words = r.all_words in let all_slots = r.all_slots in
    let inside : slot < length s.homes = let q : l * room + c % room < n * n * room = pair_below room (n * n) l (c % room) below c_near in let big : ℕ = n * n * room in let t : ℕ = n * k.pool in let e : length s.homes ≡ big + t = all_slots in let q' : slot < big = q in omega arith in
    let word_inside : w < length s.words = let q : l < n * n = below in let sq : ℕ = n * n in let t : ℕ = n * k.pool in let e : length s.words ≡ sq * 32 + t * 16 = all_words in omega arith in
    let freed : LaneOk room (l * room) put (got + 1) hs (with_take lane) = frees room (l * room) put got s.homes lane ok x y tt open_is inside in
    let first : get_or ws (put_word l) 0 ≡ put = get_or-set_other s.words w (put_word l) new 0 (λ e. omega arith) in
    let second : get_or ws (got_word l) 0 ≡ got + 1 = (λ a. get_or ws (sym word a) 0) ∙ get_or-set_same s.words w new 0 word_inside ∙ (omega arith) in
    let within_ins : d < length p.ins = subst (λ (z : ℕ). d < z) (sym known.all_ins) low' in
    let more_taken : take (lane.got + 1) lane.posted ≡ take lane.got lane.posted ++ x ∷ [] = ap (λ (z : ℕ). take z lane.posted) (let e : lane.got + 1 ≡ suc lane.got = omega arith in e) ∙ take_next lane.posted lane.got x oldest in
    let after : Ruled k record { words = ws; homes = hs; views = set s.views id (take_view v i d x) } =
    in_moves k s r id v at i near d (with_take lane) o' ms ws hs r.place (pools_take n room k.pool r.lane r.place s.words s.homes r.pools d p.me low' known.below x ws hs (word_same k s r l w new below (omega arith)) (pool_same k s r l (c % room) (some y) below c_near) open_is (sym f.3 ∙ given)) low' (length-set s.words w new) (length-set s.homes slot (some y)) (got_too k s r l (c % room) w new (some y) hs word c_near refl)
    (subst (λ (z : ℕ × ℕ). LaneOk room (l * room) z.0 z.1 hs (with_take lane)) (λ a. (sym first a, sym second a)) freed)
    ((λ a. f.0 a ++ x ∷ []) ∙ sym more_taken, f.1, refl, refl)
    (λ u h. (h.0, (let b = h.1 in omega arith), h.2, h.3))
    (kept_take p known.kept d x within_ins) in (
      take_view v i d x,
      gives,
      tt,
      subst (λ (cs : List (ℕ × Slot)). Ruled k (stepped s w new id cs (take_view v i d x) gives)) (sym carried)
          (subst (λ (z : ℕ). Ruled k record { words = ws; homes = set s.homes z (some y); views = set s.views id (take_view v i d x) }) (sym here) after),
      λ i' d' x' near' lower e hand'. let h : in_lane v i' d' ≡ in_lane v i d = (let q : got_word (in_lane v i' d') ≡ got_word (in_lane v i d) = sym e ∙ is in omega arith) in
          let both = same_in k s r id v at i d i' d' near near' low lower h in
          let same : x ≡ x' = same_Some x x' (sym hand ∙ (λ a. (in_at (part_at v (sym both.0 a)) (sym both.1 a)).opened) ∙ hand') in
          λ a. (take_view v (sym both.0 a) (sym both.1 a) (same a), rest me.1),
    )

-- the slot of the open frame from d is freed, at the i-th part
pub frees_slot : (k : Layout) (slots id : ℕ) (me : Sat) (w i d q : ℕ) (x : Sent) (b : Slot) → i < length me.0.parts → d < (part_at me.0 i).peers → w ≡ pool_word (part_at me.0 i).peers q → (in_at (part_at me.0 i) d).opened ≡ Some x → x.slot ≡ Some q
    → (in_at (part_at me.0 i) d).lent ≡ true → IsBuf b → me.1 ≡ (pool_home (part_at me.0 i).peers (part_at me.0 i).room q, b) ∷ rest me.1 → Allows (Ruled k) slots id me w (λ _. 0) (λ _ n. FreesAt me n i d)
frees_slot k slots id me w i d q x b near low is hand large has buf carried s r wide at small =
    let v : View = me.0 in let p : Part = part_at v i in let o : In = in_at p d in let known = mine k s r id v at i near in let n : ℕ = k.peers in let room : ℕ = k.room in
    let low' : d < n = subst (λ (z : ℕ). d < z) known.peers low in let l : ℕ = lane_of n d p.me in let lane : Lane = r.lane l in let f = known.ins d low' in let below = lane_below n d p.me low' known.below in
    let ok : LaneOk room (l * room) (get_or s.words (put_word l) 0) (get_or s.words (got_word l) 0) s.homes lane = r.each_lane l below in let open_is : lane.opened ≡ Some x = sym f.2 ∙ hand in let oldest = ok.open_is x open_is in
    let word : w ≡ pool_word n q = is ∙ ap (λ (z : ℕ). pool_word z q) known.peers in let within_ins : d < length p.ins = subst (λ (z : ℕ). d < z) (sym known.all_ins) low' in let ph : ℕ = pool_home n room q in let all_words = r.all_words in let all_slots = r.all_slots in
    let there : pool_home p.peers p.room q ≡ ph = λ a. pool_home (known.peers a) (known.wide a) q in let lends : lane.lent ≡ true = sym f.3 ∙ has in
    let mine₁ = r.pools.each_sent d p.me lane.got x q low' known.below (le_refl lane.got, oldest, λ _ _. lends) large in
    let word_inside : w < length s.words = let sq : ℕ = n * n in let t : ℕ = n * k.pool in let e : length s.words ≡ sq * 32 + t * 16 = all_words in let lt : q < t = mine₁.0 in let e' : w ≡ sq * 32 + q * 16 = word in omega arith in
    let home_inside : ph < length s.homes = let big : ℕ = n * n * room in let t : ℕ = n * k.pool in let e : length s.homes ≡ big + t = all_slots in let lt : q < t = mine₁.0 in omega arith in
    let lanes_words : (m : ℕ) (z : ℕ) → m < n * n → z ≤ m * 32 + 16 → z ≢ w = λ m z lt le e. let sq : ℕ = n * n in let lt' : m < sq = lt in let e' : w ≡ sq * 32 + q * 16 = word in omega arith in
    let hs : Homes = set s.homes ph (some b) in let ws : List ℕ = set s.words w 0 in let o' : In = freed_one o in let y : Lane = with_lent lane false in
    let same_put = get_or-set_other s.words w (put_word l) 0 0 (lanes_words l (put_word l) below (omega arith)) in let same_got = get_or-set_other s.words w (got_word l) 0 0 (lanes_words l (got_word l) below (omega arith)) in
    let after : Ruled k record { words = ws; homes = hs; views = set s.views id (free_view v i d) } =
    in_moves k s r id v at i near d y o' p.moves ws hs (put r.place q free)
    (pools_free n room k.pool r.lane r.place s.words s.homes r.pools d p.me low' known.below x q b ws hs (λ q' ne. get_or-set_other s.words w (pool_word n q') 0 0 (λ e. ne (omega arith)))
    (λ q' ne. set_else s.homes ph (pool_home n room q') (some b) (λ e. ne (omega arith))) ((λ a. get_or ws (sym word a) 0) ∙ get_or-set_same s.words w 0 0 word_inside) buf (set_here s.homes ph (some b) home_inside) open_is lends oldest large)
    low' (length-set s.words w 0) (length-set s.homes ph (some b))
    ((λ m lt ne. (get_or-set_other s.words w (put_word m) 0 0 (lanes_words m (put_word m) lt (omega arith)), get_or-set_other s.words w (got_word m) 0 0 (lanes_words m (got_word m) lt (omega arith)))), λ m e lt ne near₂. set_else s.homes ph (m * room + e) (some b) (cell_apart n room m e q lt near₂))
    (subst (λ (z : ℕ × ℕ). LaneOk room (l * room) z.0 z.1 hs y) (λ a. (sym same_put a, sym same_got a))
    (reclaimed room (l * room) (get_or s.words (put_word l) 0) (get_or s.words (got_word l) 0) hs lane lane.claim false (stays room (l * room) (get_or s.words (put_word l) 0) (get_or s.words (got_word l) 0) s.homes hs lane (λ e. set_else s.homes ph (cell_of (l * room) room e) (some b) (cell_apart n room l (e % room) q below (mod-lt e r.some_room))) ok)))
    (f.0, f.1, f.2, refl) (λ u h. h) (kept_in p known.kept d o' within_ins refl) in (
      free_view v i d,
      gives,
      tt,
      subst (λ (cs : List (ℕ × Slot)). Ruled k (stepped s w 0 id cs (free_view v i d) gives)) (sym carried)
          (subst (λ (z : ℕ). Ruled k record { words = ws; homes = set s.homes z (some b); views = set s.views id (free_view v i d) }) (sym there) after),
      refl,
    )

pub frees_play : (k : Layout) (slots id : ℕ) (me : Sat) (w i d q : ℕ) (x : Sent) (b : Slot) → i < length me.0.parts → d < (part_at me.0 i).peers → w ≡ pool_word (part_at me.0 i).peers q → (in_at (part_at me.0 i) d).opened ≡ Some x → x.slot ≡ Some q
    → (in_at (part_at me.0 i) d).lent ≡ true → IsBuf b → me.1 ≡ (pool_home (part_at me.0 i).peers (part_at me.0 i).room q, b) ∷ rest me.1 → Allows (Ruled k) slots id me w (λ _. 0) (λ _. frees_pool (step slots w 0 0 none) me)
frees_play k slots id me w i d q x b near low is hand large has buf carried s r wide at small = let v : View = me.0 in let n : ℕ = k.peers in
    let one = frees_slot k slots id me w i d q x b near low is hand large has buf carried s r wide at small in
    let where_is : (i d q : ℕ) (x : Sent) → i < length v.parts → d < (part_at v i).peers → (in_at (part_at v i) d).opened ≡ Some x → x.slot ≡ Some q → (in_at (part_at v i) d).lent ≡ true → r.place q ≡ sent d (part_at v i).me (r.lane (lane_of n d (part_at v i).me)).got =
    λ i d q x near low hand large has. let known = mine k s r id v at i near in let low' : d < n = subst (λ (z : ℕ). d < z) known.peers low in let f = known.ins d low' in let lane : Lane = r.lane (lane_of n d (part_at v i).me) in
    let ok = r.each_lane (lane_of n d (part_at v i).me) (lane_below n d (part_at v i).me low' known.below) in
    (r.pools.each_sent d (part_at v i).me lane.got x q low' known.below (le_refl lane.got, ok.open_is x (sym f.2 ∙ hand), λ _ _. sym f.3 ∙ has) large).1 in (
      one.0,
      one.1,
      one.2,
      one.3,
      λ i' d' q' x' near' low₂ e hand' large' has'. let a = mine k s r id v at i near in let c = mine k s r id v at i' near' in
          let qs : q' ≡ q = let f : pool_word n q' ≡ pool_word n q = ap (λ (z : ℕ). pool_word z q') (sym c.peers) ∙ sym e ∙ is ∙ ap (λ (z : ℕ). pool_word z q) a.peers in let sq : ℕ = n * n in let f' : sq * 32 + q' * 16 ≡ sq * 32 + q * 16 = f in omega arith in
          let lanes : lane_of n d' (part_at v i').me ≡ lane_of n d (part_at v i).me = ap (lane_at n) (sym (where_is i' d' q' x' near' low₂ hand' large' has') ∙ ap r.place qs ∙ where_is i d q x near low hand large has) in
          let both = same_in k s r id v at i d i' d' near near' low low₂ (ap (λ (z : ℕ). lane_of z d' (part_at v i').me) c.peers ∙ lanes ∙ ap (λ (z : ℕ). lane_of z d (part_at v i).me) (sym a.peers)) in
          subst (λ (z : ℕ × ℕ). FreesAt me (one.0, carried_after me.1 one.1) z.0 z.1) (λ a. (sym both.0 a, sym both.1 a)) one.4,
    )

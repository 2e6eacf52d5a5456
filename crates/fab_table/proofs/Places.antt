-- What a step on one lane, or one pool slot, leaves of the words and places of all others.
use Rattle.std.proofs.Common.{◌≡◌, ℕ, ◌+◌, ◌*◌, ◌<◌, ◌≤◌, ◌≢◌, Bool, length, get_or, set, sym, refl, ap, ◌∙◌, subst, arith, get_or-set_other}
use mathlib.Core.Option.{some}
use mathlib.Core.Option as maybe
use lib.ListN.{get_elem?}
use Rattle.std.specs.Prelude.{Option}
use Rattle.atomic_table.specs.Table.{State}
use Rattle.atomic_table.proofs.Lists.{set_else}
use Rattle.fab_table.specs.declared.kinds.Layout.{Layout}
use Rattle.fab_table.specs.declared.kinds.Slot.{Slot}
use Rattle.fab_table.specs.declared.kinds.View.{View}
use Rattle.fab_table.specs.Views.{pool_word, pool_home, part_at, lane_of, put_word, got_word}
use Rattle.fab_table.specs.Rule.{Homes, Lane, LaneOk, Ruled}
use Rattle.fab_table.specs.Plays.{out_lane, in_lane}
use Rattle.fab_table.proofs.Rows.{put, pair_once, pair_below, lane_once}
use Rattle.fab_table.proofs.Cells.{with_writing}
use Rattle.fab_table.proofs.Stays.{Elsewhere, mine}

module _ (k : Layout) (s : State Slot View) (r : Ruled k s) where
  -- a step on the lane l that changes no word, and one slot of the lane
  pub one_slot : (l c : ℕ) (x : maybe.Option Slot) (hs : Homes) → c < k.room → hs ≡ set s.homes (l * k.room + c) x → Elsewhere k s r l s.words hs
  one_slot l c x hs near is = (
    (λ m _ ne. (refl, refl)),
    λ m e _ ne near'. ap (λ (h : Homes). get_elem? h (m * k.room + e)) is
        ∙ set_else s.homes (l * k.room + c) (m * k.room + e) x (λ same. ne (pair_once k.room m e l c near' near same).0),
  )

  pub no_slot : (l : ℕ) → Elsewhere k s r l s.words s.homes
  no_slot l = ((λ m _ ne. (refl, refl)), λ m e _ ne near'. refl)

  -- one that changes a word of the lane too
  pub put_too : (l c w new : ℕ) (x : maybe.Option Slot) (hs : Homes) → w ≡ put_word l → c < k.room → hs ≡ set s.homes (l * k.room + c) x → Elsewhere k s r l (set s.words w new) hs
  put_too l c w new x hs at near is = let e = one_slot l c x hs near is in
      ((λ m _ ne. (get_or-set_other s.words w (put_word m) new 0 (λ h. ne (omega arith)), get_or-set_other s.words w (got_word m) new 0 (λ h. ne (omega arith)))), e.1)

  pub got_too : (l c w new : ℕ) (x : maybe.Option Slot) (hs : Homes) → w ≡ got_word l → c < k.room → hs ≡ set s.homes (l * k.room + c) x → Elsewhere k s r l (set s.words w new) hs
  got_too l c w new x hs at near is = let e = one_slot l c x hs near is in
      ((λ m _ ne. (get_or-set_other s.words w (put_word m) new 0 (λ h. ne (omega arith)), get_or-set_other s.words w (got_word m) new 0 (λ h. ne (omega arith)))), e.1)

  -- the places of the pools lie behind those of the lanes
  pub pool_same : (l c : ℕ) (x : maybe.Option Slot) → l < k.peers * k.peers → c < k.room → (q : ℕ) → get_elem? (set s.homes (l * k.room + c) x) (pool_home k.peers k.room q) ≡ get_elem? s.homes (pool_home k.peers k.room q)
  pool_same l c x low near q = set_else s.homes (l * k.room + c) (pool_home k.peers k.room q) x (λ e. let lt = pair_below k.room (k.peers * k.peers) l c low near in let big : ℕ = k.peers * k.peers * k.room in let small : ℕ = l * k.room + c in let lt' : small < big = lt in let e' : big + q ≡ small = e in omega arith)

  pub word_same : (l w new : ℕ) → l < k.peers * k.peers → w ≤ l * 32 + 16 → (q : ℕ) → get_or (set s.words w new) (pool_word k.peers q) 0 ≡ get_or s.words (pool_word k.peers q) 0
  word_same l w new low is q = get_or-set_other s.words w (pool_word k.peers q) new 0 (λ e. let sq : ℕ = k.peers * k.peers in let lt : l < sq = low in let e' : sq * 32 + q * 16 ≡ w = e in omega arith)

  module _ (id : ℕ) (v : View) (at : get_elem? s.views id ≡ some v) where
    -- a lane is written by one part, and read by one
    pub same_out : (i d i' d' : ℕ) → i < length v.parts → i' < length v.parts → out_lane v i' d' ≡ out_lane v i d → (i' ≡ i) × (d' ≡ d)
    same_out i d i' d' near near' e = let a = mine k s r id v at i near in let b = mine k s r id v at i' near' in let n : ℕ = k.peers in
        let e' : lane_of n (part_at v i').me d' ≡ lane_of n (part_at v i).me d = ap (λ (z : ℕ). lane_of z (part_at v i').me d') (sym b.peers) ∙ e ∙ ap (λ (z : ℕ). lane_of z (part_at v i).me d) a.peers in
        let both = lane_once n (part_at v i').me d' (part_at v i).me d b.below a.below e' in
        (ap (λ (z : ℕ × ℕ). z.1) (sym b.seated ∙ ap r.spot both.0 ∙ a.seated), both.1)

    pub same_in : (i d i' d' : ℕ) → i < length v.parts → i' < length v.parts → d < (part_at v i).peers → d' < (part_at v i').peers → in_lane v i' d' ≡ in_lane v i d → (i' ≡ i) × (d' ≡ d)
    same_in i d i' d' near near' low low' e = let a = mine k s r id v at i near in let b = mine k s r id v at i' near' in let n : ℕ = k.peers in
        let e' : lane_of n d' (part_at v i').me ≡ lane_of n d (part_at v i).me = ap (λ (z : ℕ). lane_of z d' (part_at v i').me) (sym b.peers) ∙ e ∙ ap (λ (z : ℕ). lane_of z d (part_at v i).me) a.peers in
        let both = lane_once n d' (part_at v i').me d (part_at v i).me (subst (λ (z : ℕ). d' < z) b.peers low') (subst (λ (z : ℕ). d < z) a.peers low) e' in
        (ap (λ (z : ℕ × ℕ). z.1) (sym b.seated ∙ ap r.spot both.1 ∙ a.seated), both.0)

pub rewritten : (room base put got : ℕ) (homes : Homes) (l : Lane) → LaneOk room base put got homes l → LaneOk room base put got homes (with_writing l l.writing)
rewritten room base put got homes l ok = record { put_is = ok.put_is; got_is = ok.got_is; behind = ok.behind; within = ok.within; filled = ok.filled; free = ok.free; cut = ok.cut; short = ok.short; open_is = ok.open_is; writing_is = ok.writing_is }

pub cell_apart : (n room m c q : ℕ) → m < n * n → c < room → m * room + c ≢ pool_home n room q
cell_apart n room m c q low near e = let lt = pair_below room (n * n) m c low near in let big : ℕ = n * n * room in let small : ℕ = m * room + c in let lt' : small < big = lt in let e' : small ≡ big + q = e in omega arith

pub reclaimed : (room base put got : ℕ) (homes : Homes) (l : Lane) (c : Option ℕ) (b : Bool) → LaneOk room base put got homes l → LaneOk room base put got homes (record { posted = l.posted; got = l.got; writing = l.writing; opened = l.opened; claim = c; lent = b })
reclaimed room base put got homes l c b ok = record { put_is = ok.put_is; got_is = ok.got_is; behind = ok.behind; within = ok.within; filled = ok.filled; free = ok.free; cut = ok.cut; short = ok.short; open_is = ok.open_is; writing_is = ok.writing_is }

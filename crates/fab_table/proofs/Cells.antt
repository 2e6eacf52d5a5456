-- What stays of a lane at each step of its two words.
use Rattle.std.proofs.Common.{◌≡◌, ℕ, ◌+◌, ◌%◌, ◌<◌, ◌≤◌, ◌≢◌, inl, inr, ⊎_elim, Bool, true, false, true≢false, [], ◌∷◌, ◌++◌, length, set, sym, refl, ap, ◌∙◌, subst, arith, length-append}
use mathlib.Core.Logic.{dite}
use mathlib.Core.List.{map-append}
use mathlib.Core.Option.{some, none, some-injective}
use native.Mathlib.Decide.{ℕ_discrete, dec_le}
use native.Mathlib.Nat.{add-mod_right}
use lib.ListN.{get_elem?}
use Rattle.std.specs.Prelude.{Option, Some, None}
use Rattle.std.proofs.lemmas.Option.{none-some, same_Some}
use Rattle.atomic_table.proofs.Lists.{at_longer, at_last, one_turn, set_here, set_else}
use Rattle.fab_base.proofs.Places.{at_lt, at_end}
use Rattle.fab_link.specs.Frames.{last_head, MayCome, IsLane}
use Rattle.fab_link.proofs.Lanes.{IsLane-push}
use Rattle.fab_table.specs.declared.kinds.Sent.{Sent}
use Rattle.fab_table.specs.Views.{frame_of, frames_of}
use Rattle.fab_table.specs.declared.kinds.Slot.{Slot}
use Rattle.fab_table.specs.Rule.{Homes, Lane, IsShort, IsCell, Says, cell_of, LaneOk}
use Rattle.fab_table.proofs.Rows.{at_shorter}

-- two frames less than a lane apart have two cells
pub apart : (room base a b : ℕ) → a < b + room → b < a + room → a ≢ b → cell_of base room a ≢ cell_of base room b
apart room base a b ab ba ne e = let same : a % room ≡ b % room = omega arith in
    dite (dec_le a b) (λ le. ne (one_turn a b room le ba same)) (λ gt. let le : b ≤ a = omega arith in ne (sym (one_turn b a room le ab (sym same))))

-- the lane does not change where none of its cells does
pub stays : (room base put got : ℕ) (homes homes' : Homes) (l : Lane) → ((k : ℕ) → get_elem? homes' (cell_of base room k) ≡ get_elem? homes (cell_of base room k)) → LaneOk room base put got homes l → LaneOk room base put got homes' l
stays room base put got homes homes' l same ok = record {
  put_is = ok.put_is;
  got_is = ok.got_is;
  behind = ok.behind;
  within = ok.within;
  filled = λ k x le at. ⊎_elim (λ o. inl o) (λ h. inr (h.0, h.1, same k ∙ h.2)) (ok.filled k x le at);
  free = λ k le lt. ⊎_elim (λ o. inl o) (λ h. inr (h.0, h.1, same k ∙ h.2)) (ok.free k le lt);
  cut = ok.cut;
  short = ok.short;
  open_is = ok.open_is;
  writing_is = ok.writing_is;
}

abbrev pub with_writing : Lane → Bool → Lane
with_writing l b = record { posted = l.posted; got = l.got; writing = b; opened = l.opened; claim = l.claim; lent = l.lent }

abbrev pub with_opened : Lane → Option Sent → Bool → Lane
with_opened l x b = record { posted = l.posted; got = l.got; writing = l.writing; opened = x; claim = l.claim; lent = b }

abbrev pub with_post : Lane → Sent → Lane
with_post l x = record { posted = l.posted ++ x ∷ []; got = l.got; writing = false; opened = l.opened; claim = None; lent = l.lent }

abbrev pub with_take : Lane → Lane
with_take l = record { posted = l.posted; got = l.got + 1; writing = l.writing; opened = None; claim = l.claim; lent = false }

module _ (room base put got : ℕ) (homes : Homes) (l : Lane) (ok : LaneOk room base put got homes l) where
  abbrev n : ℕ
  n = length l.posted

  -- the sender's look takes the next cell
  pub reserves : n < l.got + room → LaneOk room base put got (set homes (cell_of base room n) none) (with_writing l true)
  reserves space = let behind = ok.behind in let within = ok.within in record {
    put_is = ok.put_is;
    got_is = ok.got_is;
    behind = ok.behind;
    within = ok.within;
    filled = λ k x le at. let lt = at_lt l.posted k x at in ⊎_elim (λ o. inl o)
        (λ h. inr (h.0, h.1, set_else homes (cell_of base room n) (cell_of base room k) none (apart room base k n (omega arith) (omega arith) (λ e. omega arith)) ∙ h.2)) (ok.filled k x le at);
    free = λ k le lt. dite (ℕ_discrete k n) (λ e. inl (e, refl)) (λ ne. ⊎_elim (λ o. absurd (ne o.0))
        (λ h. inr (h.0, h.1, set_else homes (cell_of base room n) (cell_of base room k) none (apart room base k n (omega arith) (omega arith) ne) ∙ h.2)) (ok.free k le lt));
    cut = ok.cut;
    short = ok.short;
    open_is = ok.open_is;
    writing_is = λ _. space;
  }

  -- publishing gives it back with the frame's command in it
  pub joins : (x : Sent) (s : Slot) → Says x s → MayCome (last_head None (frames_of l.posted)) x.frame → IsShort x → l.writing ≡ true → cell_of base room n < length homes
      → LaneOk room base (put + 1) got (set homes (cell_of base room n) (some s)) (with_post l x)
  joins x s says comes small hand inside = let behind = ok.behind in let within = ok.within in let space = ok.writing_is hand in let long : length (l.posted ++ x ∷ []) ≡ n + 1 = length-append l.posted (x ∷ []) in let put_is = ok.put_is in record {
    put_is = omega arith;
    got_is = ok.got_is;
    behind = omega arith;
    within = omega arith;
    filled = λ k y le at. let lt = at_lt (l.posted ++ x ∷ []) k y at in dite (ℕ_discrete k n)
        (λ e. let same : x ≡ y = some-injective x y (sym (at_last l.posted x k (sym e)) ∙ at) in
        inr (s, subst (λ (z : Sent). Says z s) same says, ap (λ (j : ℕ). get_elem? (set homes (cell_of base room n) (some s)) (cell_of base room j)) e ∙ set_here homes (cell_of base room n) (some s) inside))
        (λ ne. ⊎_elim (λ o. inl o) (λ h. inr (h.0, h.1, set_else homes (cell_of base room n) (cell_of base room k) (some s) (apart room base k n (omega arith) (omega arith) ne) ∙ h.2))
        (ok.filled k y le (at_shorter l.posted (x ∷ []) k y (omega arith) at)));
    free = λ k le lt. ⊎_elim (λ o. absurd (let e : k ≡ n = o.0 in omega arith))
        (λ h. inr (h.0, h.1, set_else homes (cell_of base room n) (cell_of base room k) (some s) (apart room base k n (omega arith) (omega arith) (λ e. omega arith)) ∙ h.2)) (ok.free k (omega arith) lt);
    cut = subst (IsLane None) (sym (map-append frame_of l.posted (x ∷ []))) (IsLane-push None (frames_of l.posted) x.frame ok.cut comes);
    short = λ k y at. ⊎_elim (λ o. ok.short k y o) (λ o. subst IsShort o.1 small) (at_end l.posted x y k at);
    open_is = λ y e. at_longer l.posted (x ∷ []) l.got y (ok.open_is y e);
    writing_is = λ e. absurd (true≢false (sym e));
  }

  -- the receiver's look takes the cell of the oldest frame
  pub opens : (x : Sent) (b : Bool) → get_elem? l.posted l.got ≡ some x → LaneOk room base put got (set homes (cell_of base room l.got) none) (with_opened l (Some x) b)
  opens x b here = let behind = ok.behind in let within = ok.within in let some_frame = at_lt l.posted l.got x here in record {
    put_is = ok.put_is;
    got_is = ok.got_is;
    behind = ok.behind;
    within = ok.within;
    filled = λ k y le at. let lt = at_lt l.posted k y at in dite (ℕ_discrete k l.got)
        (λ e. inl (e, ap (λ (z : Sent). Some z) (some-injective x y (sym here ∙ (ap (get_elem? l.posted) (sym e) ∙ at)))))
        (λ ne. ⊎_elim (λ o. absurd (ne o.0)) (λ h. inr (h.0, h.1, set_else homes (cell_of base room l.got) (cell_of base room k) none (apart room base k l.got (omega arith) (omega arith) ne) ∙ h.2)) (ok.filled k y le at));
    free = λ k le lt. ⊎_elim (λ o. inl o)
        (λ h. inr (h.0, h.1, set_else homes (cell_of base room l.got) (cell_of base room k) none (apart room base k l.got (omega arith) (omega arith) (λ e. omega arith)) ∙ h.2)) (ok.free k le lt);
    cut = ok.cut;
    short = ok.short;
    open_is = λ y e. here ∙ ap (λ (z : Sent). some z) (same_Some x y e);
    writing_is = ok.writing_is;
  }

  -- finishing the frame gives it back with anything in it
  pub frees : (x : Sent) (s : Slot) → IsCell s → l.opened ≡ Some x → cell_of base room l.got < length homes → LaneOk room base put (got + 1) (set homes (cell_of base room l.got) (some s)) (with_take l)
  frees x s is_cell held inside = let behind = ok.behind in let within = ok.within in let some_frame = at_lt l.posted l.got x (ok.open_is x held) in let got_is = ok.got_is in record {
    put_is = ok.put_is;
    got_is = omega arith;
    behind = omega arith;
    within = omega arith;
    filled = λ k y le at. let lt = at_lt l.posted k y at in ⊎_elim (λ o. absurd (let e : k ≡ l.got = o.0 in omega arith))
        (λ h. inr (h.0, h.1, set_else homes (cell_of base room l.got) (cell_of base room k) (some s) (apart room base k l.got (omega arith) (omega arith) (λ e. omega arith)) ∙ h.2)) (ok.filled k y (omega arith) at);
    free = λ k le lt. dite (ℕ_discrete k (l.got + room))
        (λ e. inr (s, is_cell, ap (get_elem? (set homes (cell_of base room l.got) (some s))) (ap (λ (z : ℕ). base + z) (ap (λ (z : ℕ). z % room) e ∙ add-mod_right l.got room)) ∙ set_here homes (cell_of base room l.got) (some s) inside))
        (λ ne. ⊎_elim (λ o. inl o)
        (λ h. inr (h.0, h.1, set_else homes (cell_of base room l.got) (cell_of base room k) (some s) (apart room base k l.got (omega arith) (omega arith) (λ e. omega arith)) ∙ h.2)) (ok.free k le (omega arith)));
    cut = ok.cut;
    short = ok.short;
    open_is = λ y e. absurd (none-some y e);
    writing_is = λ e. let w = ok.writing_is e in omega arith;
  }

  -- the sender's cell goes back after a look, with anything in it
  pub returns : (y : Slot) → IsCell y → l.writing ≡ true → cell_of base room n < length homes → LaneOk room base put got (set homes (cell_of base room n) (some y)) (with_writing l false)
  returns y is_cell hand inside = let behind = ok.behind in let within = ok.within in let space = ok.writing_is hand in record {
    put_is = ok.put_is;
    got_is = ok.got_is;
    behind = ok.behind;
    within = ok.within;
    filled = λ k x le at. let lt = at_lt l.posted k x at in ⊎_elim (λ o. inl o)
        (λ h. inr (h.0, h.1, set_else homes (cell_of base room n) (cell_of base room k) (some y) (apart room base k n (omega arith) (omega arith) (λ e. omega arith)) ∙ h.2)) (ok.filled k x le at);
    free = λ k le lt. dite (ℕ_discrete k n) (λ e. inr (y, is_cell, ap (λ (j : ℕ). get_elem? (set homes (cell_of base room n) (some y)) (cell_of base room j)) e ∙ set_here homes (cell_of base room n) (some y) inside))
        (λ ne. ⊎_elim (λ o. absurd (ne o.0)) (λ h. inr (h.0, h.1, set_else homes (cell_of base room n) (cell_of base room k) (some y) (apart room base k n (omega arith) (omega arith) ne) ∙ h.2)) (ok.free k le lt));
    cut = ok.cut;
    short = ok.short;
    open_is = ok.open_is;
    writing_is = λ e. absurd (true≢false (sym e));
  }

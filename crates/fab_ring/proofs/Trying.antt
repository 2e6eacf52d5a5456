-- Tries on slots from one on, and round.
use Rattle.std.proofs.Common.{◌≡◌, ℕ, zero, suc, ◌+◌, ◌<◌, ◌≤◌, inl, inr, Bool, nat_lt, List, [], ◌∷◌, length, sym, refl, ap, ◌∙◌, subst, arith, le_refl, length-set}
use Rattle.std.specs.Prelude.{Some, None, slice_index, if◌then◌else◌}
use Rattle.atomic_table.specs.Table.{rest}
use Rattle.fab_table.specs.declared.kinds.Command.{Command}
use Rattle.fab_table.specs.declared.kinds.Slot.TheVariants.{Cell, Pool}
use Rattle.fab_table.specs.declared.kinds.Out.{Out}
use Rattle.fab_table.specs.declared.kinds.Part.{Part}
use Rattle.fab_table.specs.declared.kinds.View.{View}
use Rattle.fab_table.specs.declared.lane_table.LaneTable.{LaneTable}
use Rattle.fab_table.specs.declared.lane_table.PeerSeat.{PeerSeat}
use Rattle.fab_table.specs.Views.{least, part_at, out_at, with_out, tried_more}
use Rattle.fab_table.specs.Plays.{Sat, new_out_view, slot_home}
use Rattle.fab_table.specs.Seats.{IsSame, sat, carried, view_of_seat, named}
use Rattle.fab_ring.specs.Tries.{raised, between, AreCounts, IsTried, IsTriedFrom, IsMissed, tried_out}
use Rattle.fab_ring.specs.Alone.{IsAlone}
use Rattle.fab_ring.proofs.Ends.{raised_more, raised_length, full_by, one_set, part_out, here_out, view_over, home_over}

pub raised_past : (j : ℕ) (ts : List ℕ) → slice_index (raised j ts) j ≡ slice_index ts j
raised_past zero ts = refl
raised_past (suc j) [] = refl
raised_past (suc j) (t ∷ ts) = raised_past j ts

pub between_none : (a : ℕ) (ts : List ℕ) → ts ≡ between a a ts
between_none zero ts = refl
between_none (suc a) [] = refl
between_none (suc a) (t ∷ ts) = ap (λ (z : List ℕ). t ∷ z) (between_none a ts)

between_more : (a b : ℕ) (ts : List ℕ) → a ≤ b → b < length ts → tried_more (between a b ts) b ≡ between a (suc b) ts
between_more zero b ts le h = raised_more b ts h
between_more (suc a) zero ts le h = absurd (let no_one : suc a ≤ 0 = le in omega arith)
between_more (suc a) (suc b) [] le h = absurd (let no_one : suc b < 0 = h in omega arith)
between_more (suc a) (suc b) (t ∷ ts) le h = ap (λ (z : List ℕ). t ∷ z) (between_more a b ts (omega arith) (omega arith))

between_past : (a j : ℕ) (ts : List ℕ) → a ≤ j → slice_index (between a j ts) j ≡ slice_index ts j
between_past zero j ts le = raised_past j ts
between_past (suc a) zero ts le = refl
between_past (suc a) (suc j) [] le = refl
between_past (suc a) (suc j) (t ∷ ts) le = between_past a j ts (omega arith)

between_before : (a b j : ℕ) (ts : List ℕ) → j < a → slice_index (between a b ts) j ≡ slice_index ts j
between_before zero b j ts h = absurd (let no_one : j < 0 = h in omega arith)
between_before (suc a) zero j ts h = refl
between_before (suc a) (suc b) j [] h = refl
between_before (suc a) (suc b) zero (t ∷ ts) h = refl
between_before (suc a) (suc b) (suc j) (t ∷ ts) h = between_before a b j ts (omega arith)

between_length : (a b : ℕ) (ts : List ℕ) → length (between a b ts) ≡ length ts
between_length zero b ts = raised_length b ts
between_length (suc a) zero ts = refl
between_length (suc a) (suc b) [] = refl
between_length (suc a) (suc b) (t ∷ ts) = ap suc (between_length a b ts)

-- the slots behind, and then those before
round : (a n : ℕ) (ts : List ℕ) → a ≤ n → raised a (between a n ts) ≡ raised n ts
round zero n ts le = refl
round (suc a) zero ts le = absurd (let no_one : suc a ≤ 0 = le in omega arith)
round (suc a) (suc n) [] le = refl
round (suc a) (suc n) (t ∷ ts) le = ap (λ (z : List ℕ). (t + 1) ∷ z) (round a n ts (omega arith))

-- at most one try on each slot
pub one_up : (n : ℕ) → n ≤ n + 1
one_up n = omega arith

pub raised_once : (j k : ℕ) (ts : List ℕ) → slice_index (raised j ts) k ≤ slice_index ts k + 1
raised_once zero k ts = one_up (slice_index ts k)
raised_once (suc j) k [] = one_up (slice_index [] k)
raised_once (suc j) zero (t ∷ ts) = le_refl (t + 1)
raised_once (suc j) (suc k) (t ∷ ts) = raised_once j k ts

between_once : (a b k : ℕ) (ts : List ℕ) → slice_index (between a b ts) k ≤ slice_index ts k + 1
between_once zero b k ts = raised_once b k ts
between_once (suc a) zero k ts = one_up (slice_index ts k)
between_once (suc a) (suc b) k [] = one_up (slice_index [] k)
between_once (suc a) (suc b) zero (t ∷ ts) = one_up t
between_once (suc a) (suc b) (suc k) (t ∷ ts) = between_once a b k ts

round_once : (j a n k : ℕ) (ts : List ℕ) → j ≤ a → slice_index (raised j (between a n ts)) k ≤ slice_index ts k + 1
round_once zero a n k ts le = between_once a n k ts
round_once (suc j) zero n k ts le = absurd (let no_one : suc j ≤ 0 = le in omega arith)
round_once (suc j) (suc a) zero k ts le = raised_once (suc j) k ts
round_once (suc j) (suc a) (suc n) k [] le = one_up (slice_index [] k)
round_once (suc j) (suc a) (suc n) zero (t ∷ ts) le = le_refl (t + 1)
round_once (suc j) (suc a) (suc n) (suc k) (t ∷ ts) le = round_once j a n k ts (omega arith)

-- one try more
pub tried_from_up : (o : Out) (a j : ℕ) (ts : List ℕ) (f : ℕ) → IsTriedFrom o a j ts f → a ≤ j → j < length o.tried → IsTriedFrom o a (j + 1) (tried_more ts j) (if nat_lt (least ts) (least (tried_more ts j)) then length o.posted else f)
tried_from_up o a j ts f t le near = (ap (λ (z : List ℕ). tried_more z j) t.0 ∙ between_more a j o.tried le near ∙ ap (λ (n : ℕ). between a n o.tried) (let e : suc j ≡ j + 1 = omega arith in e), full_by o ts f j (nat_lt (least ts) (least (tried_more ts j))) refl t.1)

-- counts that rose twice
counts_join : (o : Out) (ts us : List ℕ) (f g : ℕ) (w : Bool) → AreCounts o ts f → AreCounts (tried_out o ts f w None) us g → AreCounts o us g
counts_join o ts us f g w (inl a) (inl b) = inl (b.0 ∙ a.0, b.1 ∙ a.1)
counts_join o ts us f g w (inl a) (inr b) = inr ((let e = a.0 in let l = b.0 in omega arith), b.1)
counts_join o ts us f g w (inr a) (inl b) = inr ((let e = b.0 in let l = a.0 in omega arith), b.1 ∙ a.1)
counts_join o ts us f g w (inr a) (inr b) = inr ((let e = b.0 in let l = a.0 in omega arith), b.1)

pub from_length : (o : Out) (a b : ℕ) (ts : List ℕ) (f : ℕ) → IsTriedFrom o a b ts f → length ts ≡ length o.tried
from_length o a b ts f t = ap length t.0 ∙ between_length a b o.tried

-- a slot behind was free
pub missed_behind : (o : Out) (a j : ℕ) (ts : List ℕ) (f : ℕ) → IsTriedFrom o a j ts f → a ≤ j → IsMissed o j ts f
missed_behind o a j ts f t le = (
  ap (λ (z : List ℕ). slice_index z j) t.0 ∙ between_past a j o.tried le,
  ap length t.0 ∙ between_length a j o.tried,
  t.1,
  λ k. subst (λ (z : List ℕ). slice_index z k ≤ slice_index o.tried k + 1) (sym t.0) (between_once a j k o.tried),
)

-- none behind was, but one before
pub missed_before : (o : Out) (a n j : ℕ) (ts us : List ℕ) (f g : ℕ) (w : Bool) → IsTriedFrom o a n ts f → IsTriedFrom (tried_out o ts f w None) 0 j us g → j < a → IsMissed o j us g
missed_before o a n j ts us f g w t u low = (
  ap (λ (z : List ℕ). slice_index z j) u.0 ∙ raised_past j ts ∙ ap (λ (z : List ℕ). slice_index z j) t.0 ∙ between_before a n j o.tried low,
  ap length u.0 ∙ raised_length j ts ∙ ap length t.0 ∙ between_length a n o.tried,
  counts_join o ts us f g w t.1 u.1,
  λ k. subst (λ (z : List ℕ). slice_index z k ≤ slice_index o.tried k + 1) (sym (u.0 ∙ ap (raised j) t.0)) (round_once j a n k o.tried (omega arith)),
)

-- none at all
pub tried_round : (o : Out) (a n : ℕ) (ts us : List ℕ) (f g : ℕ) (w : Bool) → IsTriedFrom o a n ts f → IsTriedFrom (tried_out o ts f w None) 0 a us g → a ≤ n → IsTried o n us g
tried_round o a n ts us f g w t u le = (u.0 ∙ ap (raised a) t.0 ∙ round a n o.tried le, counts_join o ts us f g w t.1 u.1)

-- the seat after tries that found each slot taken
module _ (f : LaneTable) (s t : PeerSeat) (me d place : ℕ) (a : IsAlone f s me) (near : d < f.peers) (ts : List ℕ) (g : ℕ) (c : Command) (same : IsSame s t)
    (is : sat t ≡ (new_out_view (view_of_seat s) 0 d (tried_out (out_at (part_at (view_of_seat s) 0) d) ts g (out_at (part_at (view_of_seat s) 0) d).writing None), (place, Cell c) ∷ rest (carried s))) where
  abbrev v : View
  v = view_of_seat s

  abbrev o : Out
  o = out_at (part_at (view_of_seat s) 0) d

  abbrev o₁ : Out
  o₁ = tried_out (out_at (part_at (view_of_seat s) 0) d) ts g (out_at (part_at (view_of_seat s) 0) d).writing None

  low : d < length (part_at (view_of_seat s) 0).outs
  low = subst (λ (z : ℕ). d < z) (sym a.all_outs) near

  part_is : part_at (view_of_seat t) 0 ≡ with_out (part_at (view_of_seat s) 0) d o₁ (part_at (view_of_seat s) 0).moves
  part_is = ap (λ (m : Sat). part_at m.0 0) is ∙ part_out v d a.one low o₁

  pub alone_then : IsAlone f t me
  alone_then = record {
    of = same.0 ∙ a.of;
    one = ap (λ (m : Sat). length m.0.parts) is ∙ one_set v (with_out (part_at v 0) d o₁ (part_at v 0).moves) a.one;
    me_is = ap (λ (p : Part). p.me) part_is ∙ a.me_is;
    peers = ap (λ (p : Part). p.peers) part_is ∙ a.peers;
    room = ap (λ (p : Part). p.room) part_is ∙ a.room;
    pool = ap (λ (p : Part). p.pool) part_is ∙ a.pool;
    below = a.below;
    all_outs = ap (λ (p : Part). length p.outs) part_is ∙ length-set (part_at v 0).outs d o₁ ∙ a.all_outs;
    all_ins = ap (λ (p : Part). length p.ins) part_is ∙ a.all_ins;
  }

  pub out_then : out_at (part_at (view_of_seat t) 0) d ≡ o₁
  out_then = ap (λ (m : Sat). out_at (part_at m.0 0) d) is ∙ here_out v d a.one low o₁

  pub hand_then : carried t ≡ (place, Cell c) ∷ rest (carried t)
  hand_then = subst (λ (m : Sat). m.1 ≡ (place, Cell c) ∷ rest m.1) (sym is) refl

  pub none_then : (m : Sat) (us : List ℕ) (h : ℕ) (c' : Command)
      → m ≡ (new_out_view (view_of_seat t) 0 d (tried_out (out_at (part_at (view_of_seat t) 0) d) us h (out_at (part_at (view_of_seat t) 0) d).writing None), (place, Cell c') ∷ rest (carried t))
      → m ≡ (new_out_view (view_of_seat s) 0 d (tried_out (out_at (part_at (view_of_seat s) 0) d) us h (out_at (part_at (view_of_seat s) 0) d).writing None), (place, Cell c') ∷ rest (carried s))
  none_then m us h c' e = e ∙ (λ i. (new_out_view (is i).0 0 d (tried_out (out_at (part_at (is i).0 0) d) us h (out_at (part_at (is i).0 0) d).writing None), (place, Cell c') ∷ rest (is i).1))
      ∙ (λ i. (new_out_view (new_out_view v 0 d o₁) 0 d (tried_out (here_out v d a.one low o₁ i) us h (here_out v d a.one low o₁ i).writing None), (place, Cell c') ∷ rest (carried s)))
      ∙ (λ i. (view_over v d a.one low o₁ (tried_out o us h o.writing None) i, (place, Cell c') ∷ rest (carried s)))

  pub some_then : (m : Sat) (us b : List ℕ) (h q : ℕ) (c' c₀ : Command) → named c' q ≡ named c₀ q
      → m ≡ (new_out_view (view_of_seat t) 0 d (tried_out (out_at (part_at (view_of_seat t) 0) d) us h (out_at (part_at (view_of_seat t) 0) d).writing (Some q)), (slot_home (view_of_seat t) 0 q, Pool b) ∷ (place, Cell (named c' q)) ∷ rest (carried t))
      → m ≡ (new_out_view (view_of_seat s) 0 d (tried_out (out_at (part_at (view_of_seat s) 0) d) us h (out_at (part_at (view_of_seat s) 0) d).writing (Some q)), (slot_home (view_of_seat s) 0 q, Pool b) ∷ (place, Cell (named c₀ q)) ∷ rest (carried s))
  some_then m us b h q c' c₀ call e = e ∙ (λ i. (new_out_view (is i).0 0 d (tried_out (out_at (part_at (is i).0 0) d) us h (out_at (part_at (is i).0 0) d).writing (Some q)), (slot_home (is i).0 0 q, Pool b) ∷ (place, Cell (named c' q)) ∷ rest (is i).1))
      ∙ (λ i. (new_out_view (new_out_view v 0 d o₁) 0 d (tried_out (here_out v d a.one low o₁ i) us h (here_out v d a.one low o₁ i).writing (Some q)), (home_over v d a.one low o₁ q i, Pool b) ∷ (place, Cell (named c' q)) ∷ rest (carried s)))
      ∙ (λ i. (view_over v d a.one low o₁ (tried_out o us h o.writing (Some q)) i, (slot_home v 0 q, Pool b) ∷ (place, Cell (call i)) ∷ rest (carried s)))

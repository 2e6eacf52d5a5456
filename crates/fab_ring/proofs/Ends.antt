-- What the steps of one call leave of a seat that speaks for one peer.
use Rattle.std.proofs.Common.{◌≡◌, ℕ, zero, suc, ◌+◌, ◌*◌, ◌%◌, ◌<◌, ◌≤◌, ◌⊎◌, ⊎_elim, inl, inr, min, Bool, true, false, nat_lt, List, [], ◌∷◌, ◌++◌, length, take, sym, refl, ap, ◌∙◌, subst, arith, length-set, get_or-set_same, le_refl}
use lib.Seq.{set-set, set-get_or}
use Rattle.std.specs.Prelude.{Option, Some, None, if◌then◌else◌}
use Rattle.std.proofs.Math.Seq.{take-append_seam}
use Rattle.std.proofs.lemmas.Option.{none-some, same_Some}
use Rattle.std.proofs.lemmas.Bool.{ltb-true, ltb-false}
use Rattle.atomic_table.specs.Table.{rest, turned}
use Rattle.fab_link.specs.declared.moves.Move.{Move}
use Rattle.fab_link.specs.declared.moves.Move.TheVariants.{Post}
use Rattle.fab_table.specs.declared.kinds.Command.{Command}
use Rattle.fab_table.specs.declared.kinds.Sent.{Sent}
use Rattle.fab_table.specs.declared.kinds.Slot.{Slot}
use Rattle.fab_table.specs.declared.kinds.Slot.TheVariants.{Cell, Pool}
use Rattle.fab_table.specs.declared.kinds.Out.{Out}
use Rattle.fab_table.specs.declared.kinds.In.{In}
use Rattle.fab_table.specs.declared.kinds.Part.{Part}
use Rattle.fab_table.specs.declared.kinds.View.{View}
use Rattle.fab_table.specs.Views.{least, least_from, new_part, new_out, part_at, out_at, in_at, with_part, with_out, with_in, posted_one, left_one, refused_one, claimed_one, tried_more, pool_home, lane_of}
use Rattle.fab_table.specs.Rule.{IsBuf, Says, Fills, cell_of}
use Rattle.fab_table.specs.Plays.{Sat, next_cell, oldest_of, new_out_view, post_view, refuse_view, claim_view, slot_home}
use Rattle.fab_ring.specs.Tries.{raised, IsTried, IsSent, tried_out}

pub take_all : (n : ℕ) (bytes more : List ℕ) → length bytes ≡ n → take n (bytes ++ more) ≡ bytes
take_all n bytes more is = (λ i. take (sym is i) (bytes ++ more)) ∙ take-append_seam bytes more

pub the_buffer : (y : Slot) → IsBuf y → (b : List ℕ) × (y ≡ Pool b) × (length b ≡ 4096)
the_buffer (Cell c) e = absurd e
the_buffer (Pool b) e = (b, refl, e)

-- counts that rise one by one
from_more : (m n : ℕ) (ts : List ℕ) → m ≤ n → least_from m ts ≤ least_from n ts
from_more m n [] le = le
from_more m n (t ∷ ts) le = from_more (min m t) (min n t) ts (omega arith)

from_up : (m : ℕ) (ts : List ℕ) (j : ℕ) → least_from m ts ≤ least_from m (tried_more ts j)
from_up m [] j = le_refl m
from_up m (t ∷ ts) zero = from_more (min m t) (min m (t + 1)) ts (omega arith)
from_up m (t ∷ ts) (suc j) = from_up (min m t) ts j

least_up : (ts : List ℕ) (j : ℕ) → least ts ≤ least (tried_more ts j)
least_up [] j = le_refl 0
least_up (t ∷ ts) zero = from_more t (t + 1) ts (omega arith)
least_up (t ∷ ts) (suc j) = from_up t ts j

from_all : (m : ℕ) (ts : List ℕ) → least_from (m + 1) (raised (length ts) ts) ≡ least_from m ts + 1
from_all m [] = refl
from_all m (t ∷ ts) = (λ i. least_from (let e : min (m + 1) (t + 1) ≡ min m t + 1 = omega arith in e i) (raised (length ts) ts)) ∙ from_all (min m t) ts

pub least_all : (ts : List ℕ) → 0 < length ts → least (raised (length ts) ts) ≡ least ts + 1
least_all [] h = absurd (let no_one : 0 < 0 = h in omega arith)
least_all (t ∷ ts) h = from_all t ts

pub raised_more : (j : ℕ) (ts : List ℕ) → j < length ts → tried_more (raised j ts) j ≡ raised (suc j) ts
raised_more j [] h = absurd (let no_one : j < 0 = h in omega arith)
raised_more zero (t ∷ ts) h = refl
raised_more (suc j) (t ∷ ts) h = ap (λ (z : List ℕ). (t + 1) ∷ z) (raised_more j ts (omega arith))

pub full_by : (o : Out) (ts : List ℕ) (f j : ℕ) (b : Bool) → nat_lt (least ts) (least (tried_more ts j)) ≡ b → ((least ts ≡ least o.tried) × (f ≡ o.full_at)) ⊎ ((least o.tried < least ts) × (f ≡ length o.posted))
    → ((least (tried_more ts j) ≡ least o.tried) × ((if b then length o.posted else f) ≡ o.full_at)) ⊎ ((least o.tried < least (tried_more ts j)) × ((if b then length o.posted else f) ≡ length o.posted))
full_by o ts f j true is was = let lt = ltb-true (least ts) (least (tried_more ts j)) is in inr (⊎_elim (λ w. let e = w.0 in omega arith) (λ w. let e = w.0 in omega arith) was, refl)
full_by o ts f j false is was = let le = least_up ts j in let ge = ltb-false (least ts) (least (tried_more ts j)) is in let same : least (tried_more ts j) ≡ least ts = omega arith in
    ⊎_elim (λ w. inl (same ∙ w.0, w.1)) (λ w. inr (let e = w.0 in omega arith, w.1)) was

pub part_set : (v : View) (p : Part) → length v.parts ≡ 1 → part_at (with_part v 0 p) 0 ≡ p
part_set v p one = get_or-set_same v.parts 0 p (new_part 0 0 0 0) (omega arith)

pub one_set : (v : View) (p : Part) → length v.parts ≡ 1 → length (with_part v 0 p).parts ≡ 1
one_set v p one = length-set v.parts 0 p ∙ one

out_over : (p : Part) (d : ℕ) (o o' : Out) (ms ms' : List Move) → with_out (with_out p d o ms) d o' ms' ≡ with_out p d o' ms'
out_over p d o o' ms ms' = λ i. record { me = p.me; peers = p.peers; room = p.room; pool = p.pool; outs = set-set p.outs d o o' i; ins = p.ins; moves = ms' }

-- the view after a step towards d
module _ (v : View) (d : ℕ) (one : length v.parts ≡ 1) (near : d < length (part_at v 0).outs) where
  abbrev p : Part
  p = part_at v 0

  abbrev mine : Out
  mine = out_at (part_at v 0) d

  pub part_out : (o : Out) → part_at (new_out_view v 0 d o) 0 ≡ with_out (part_at v 0) d o (part_at v 0).moves
  part_out o = part_set v (with_out p d o p.moves) one

  pub here_out : (o : Out) → out_at (part_at (new_out_view v 0 d o) 0) d ≡ o
  here_out o = ap (λ (z : Part). out_at z d) (part_out o) ∙ get_or-set_same p.outs d o (new_out 0) near

  pub view_over : (o o' : Out) → new_out_view (new_out_view v 0 d o) 0 d o' ≡ new_out_view v 0 d o'
  view_over o o' = ap (λ (z : Part). with_part (new_out_view v 0 d o) 0 (with_out z d o' z.moves)) (part_out o) ∙ ap (λ (z : Part). with_part (new_out_view v 0 d o) 0 z) (out_over p d o o' p.moves p.moves)
      ∙ (λ i. record { parts = set-set v.parts 0 (with_out p d o p.moves) (with_out p d o' p.moves) i })

  pub post_over : (o : Out) (x : Sent) → post_view (new_out_view v 0 d o) 0 d x ≡ with_part v 0 (with_out (part_at v 0) d (posted_one o x) ((part_at v 0).moves ++ Post d x.number ∷ []))
  post_over o x = let ms : List Move = p.moves ++ Post d x.number ∷ [] in
      (λ i. with_part (new_out_view v 0 d o) 0 (with_out (part_out o i) d (posted_one (here_out o i) x) ((part_out o i).moves ++ Post d x.number ∷ [])))
      ∙ ap (λ (z : Part). with_part (new_out_view v 0 d o) 0 z) (out_over p d o (posted_one o x) p.moves ms)
      ∙ (λ i. record { parts = set-set v.parts 0 (with_out p d o p.moves) (with_out p d (posted_one o x) ms) i })

  pub home_over : (o : Out) (q : ℕ) → slot_home (new_out_view v 0 d o) 0 q ≡ slot_home v 0 q
  home_over o q = ap (λ (z : Part). pool_home z.peers z.room q) (part_out o)

  pub untried : (out_at (part_at v 0) d).claim ≡ None → new_out_view v 0 d (tried_out (out_at (part_at v 0) d) (out_at (part_at v 0) d).tried (out_at (part_at v 0) d).full_at (out_at (part_at v 0) d).writing None) ≡ v
  untried idle =
      (λ i. new_out_view v 0 d (tried_out mine mine.tried mine.full_at mine.writing (sym idle i)))
      ∙ (λ i. with_part v 0 (record { me = p.me; peers = p.peers; room = p.room; pool = p.pool; outs = set-get_or p.outs d (new_out 0) i; ins = p.ins; moves = p.moves }))
      ∙ (λ i. record { parts = set-get_or v.parts 0 (new_part 0 0 0 0) i })

  -- a try that found the slot taken
  pub tried_next : (m m₁ m₂ : Sat) (j place f : ℕ) (ts : List ℕ) (c c' : Command) (hand : List (ℕ × Slot)) → m ≡ (new_out_view v 0 d (tried_out (out_at (part_at v 0) d) ts f (out_at (part_at v 0) d).writing None), (place, Cell c) ∷ hand)
      → m₁ ≡ (m.0, (place, Cell c') ∷ rest m.1) → m₂ ≡ (refuse_view m₁.0 0 d j, m₁.1)
      → m₂ ≡ (new_out_view v 0 d (tried_out (out_at (part_at v 0) d) (tried_more ts j) (if nat_lt (least ts) (least (tried_more ts j)) then length (out_at (part_at v 0) d).posted else f) (out_at (part_at v 0) d).writing None), (place, Cell c') ∷ hand)
  tried_next m m₁ m₂ j place f ts c c' hand e e₁ e₂ = let o : Out = tried_out mine ts f mine.writing None in
      let m₁is : m₁ ≡ (new_out_view v 0 d o, (place, Cell c') ∷ hand) = e₁ ∙ (λ i. ((e i).0, (place, Cell c') ∷ rest (e i).1)) in
      e₂ ∙ (λ i. (refuse_view (m₁is i).0 0 d j, (m₁is i).1)) ∙ (λ i. (new_out_view (new_out_view v 0 d o) 0 d (refused_one (here_out o i) j), (place, Cell c') ∷ hand))
      ∙ (λ i. (view_over o (refused_one o j) i, (place, Cell c') ∷ hand))

  -- one that took it
  pub tried_last : (m m₁ m₂ : Sat) (place q f : ℕ) (ts b : List ℕ) (c c' : Command) (y : Slot) (hand : List (ℕ × Slot)) → m ≡ (new_out_view v 0 d (tried_out (out_at (part_at v 0) d) ts f (out_at (part_at v 0) d).writing None), (place, Cell c) ∷ hand)
      → m₁ ≡ (m.0, (place, Cell c') ∷ rest m.1) → m₂ ≡ (claim_view m₁.0 0 d q, (slot_home m₁.0 0 q, y) ∷ m₁.1) → y ≡ Pool b
      → m₂ ≡ (new_out_view v 0 d (tried_out (out_at (part_at v 0) d) ts f (out_at (part_at v 0) d).writing (Some q)), (slot_home v 0 q, Pool b) ∷ (place, Cell c') ∷ hand)
  tried_last m m₁ m₂ place q f ts b c c' y hand e e₁ e₂ is = let o : Out = tried_out mine ts f mine.writing None in
      let m₁is : m₁ ≡ (new_out_view v 0 d o, (place, Cell c') ∷ hand) = e₁ ∙ (λ i. ((e i).0, (place, Cell c') ∷ rest (e i).1)) in
      e₂ ∙ (λ i. (claim_view (m₁is i).0 0 d q, (slot_home (m₁is i).0 0 q, is i) ∷ (m₁is i).1)) ∙ (λ i. (new_out_view (new_out_view v 0 d o) 0 d (claimed_one (here_out o i) q), (home_over o q i, Pool b) ∷ (place, Cell c') ∷ hand))
      ∙ (λ i. (view_over o (claimed_one o q) i, (slot_home v 0 q, Pool b) ∷ (place, Cell c') ∷ hand))

  pub next_over : (o : Out) → o.posted ≡ (out_at (part_at v 0) d).posted → next_cell (new_out_view v 0 d o) 0 d ≡ next_cell v 0 d
  next_over o same = (λ i. cell_of (lane_of (part_out o i).peers (part_out o i).me d * (part_out o i).room) (part_out o i).room (length (here_out o i).posted))
      ∙ (λ i. cell_of (lane_of p.peers p.me d * p.room) p.room (length (same i)))

  -- the cell went back after the tries
  pub left_all : (m m₁ : Sat) (z : ℕ × Slot) (ts : List ℕ) (f : ℕ) (hand : List (ℕ × Slot)) → m ≡ (new_out_view v 0 d (tried_out (out_at (part_at v 0) d) ts f (out_at (part_at v 0) d).writing None), z ∷ hand)
      → m₁ ≡ (new_out_view m.0 0 d (left_one (out_at (part_at m.0 0) d)), rest m.1) → m₁ ≡ (new_out_view v 0 d (tried_out (out_at (part_at v 0) d) ts f false None), hand)
  left_all m m₁ z ts f hand e e₁ = let o : Out = tried_out mine ts f mine.writing None in
      e₁ ∙ (λ i. (new_out_view (e i).0 0 d (left_one (out_at (part_at (e i).0 0) d)), rest (e i).1)) ∙ (λ i. (new_out_view (new_out_view v 0 d o) 0 d (left_one (here_out o i)), hand)) ∙ (λ i. (view_over o (left_one o) i, hand))

pub the_filled : (x : Sent) (y : Slot) → Fills x y → (b : List ℕ) × (y ≡ Pool b) × (length b ≡ 4096) × (take x.frame.head.len b ≡ x.frame.bytes)
the_filled x (Cell c) e = absurd e
the_filled x (Pool b) e = (b, refl, e.0, e.1)

pub the_said : (x : Sent) (y : Slot) → Says x y → (c : Command) × (y ≡ Cell c)
the_said x (Cell c) e = (c, refl)
the_said x (Pool b) e = absurd e

buffer_or : List ℕ → Slot → List ℕ
buffer_or d (Cell c) = d
buffer_or d (Pool b) = b

buffer_in : List ℕ → List (ℕ × Slot) → List ℕ
buffer_in d [] = d
buffer_in d (z ∷ zs) = buffer_or d z.1

pub same_buffer : (hand l m : List (ℕ × Slot)) (a b : ℕ) (x y : List ℕ) → hand ≡ (a, Pool x) ∷ l → hand ≡ (b, Pool y) ∷ m → x ≡ y
unfolding buffer_in buffer_or
same_buffer hand l m a b x y e f = ap (buffer_in x) (sym e ∙ f)

-- a frame with a slot was opened: its cell was read, and the buffer of its slot taken for another
pub opened_all : (m₁ m₂ m₃ m₄ m₅ : Sat) (home a h : ℕ) (v : View) (y b w : Slot) (hand : List (ℕ × Slot)) → m₁ ≡ (v, (a, y) ∷ (h, b) ∷ hand) → m₂ ≡ m₁ → m₃ ≡ (m₂.0, turned m₂.1)
    → m₄ ≡ (m₃.0, (home, w) ∷ rest m₃.1) → home ≡ h → m₅ ≡ (m₄.0, turned m₄.1) → (m₃ ≡ (v, (h, b) ∷ (hand ++ (a, y) ∷ []))) × (m₅ ≡ (v, (hand ++ (a, y) ∷ []) ++ (h, w) ∷ []))
opened_all m₁ m₂ m₃ m₄ m₅ home a h v y b w hand e₁ e₂ e₃ e₄ at e₅ =
    let m₃is : m₃ ≡ (v, (h, b) ∷ (hand ++ (a, y) ∷ [])) = e₃ ∙ (λ i. (((e₂ ∙ e₁) i).0, turned ((e₂ ∙ e₁) i).1)) in
    let m₄is : m₄ ≡ (v, (h, w) ∷ (hand ++ (a, y) ∷ [])) = e₄ ∙ (λ i. ((m₃is i).0, (at i, w) ∷ rest (m₃is i).1)) in
    (m₃is, e₅ ∙ (λ i. ((m₄is i).0, turned (m₄is i).1)))

-- what a look found is first in the hand, with its slot behind it
abbrev pub Found : Sat → Sat → View → ℕ → (ℕ → ℕ) → ℕ → Sent → Slot → Type 0
Found m m₁ v a h n x y = ((x.slot ≡ None) × (m₁ ≡ (v, (a, y) ∷ m.1))) ⊎ ((q : ℕ) × (b : Slot) × (x.slot ≡ Some q) × Fills x b × (q < n) × (m₁ ≡ (v, (a, y) ∷ (h q, b) ∷ m.1)))

pub found_first : (m m₁ : Sat) (v : View) (a n : ℕ) (h : ℕ → ℕ) (x : Sent) (y : Slot) → Found m m₁ v a h n x y → (hs : List (ℕ × Slot)) × (m₁ ≡ (v, (a, y) ∷ hs))
found_first m m₁ v a n h x y (inl f) = (m.1, f.1)
found_first m m₁ v a n h x y (inr f) = ((h f.0, f.1) ∷ m.1, f.5)

pub found_pooled : (m m₁ : Sat) (v : View) (a n : ℕ) (h : ℕ → ℕ) (x : Sent) (y : Slot) (s : ℕ) → Found m m₁ v a h n x y → x.slot ≡ Some s → (b : Slot) × Fills x b × (s < n) × (m₁ ≡ (v, (a, y) ∷ (h s, b) ∷ m.1))
found_pooled m m₁ v a n h x y s (inl f) e = absurd (none-some s (sym f.0 ∙ e))
found_pooled m m₁ v a n h x y s (inr f) e = let same : f.0 ≡ s = same_Some f.0 s (sym f.2 ∙ e) in (f.1, f.3, subst (λ (z : ℕ). z < n) same f.4, f.5 ∙ (λ i. (v, (a, y) ∷ (h (same i), f.1) ∷ m.1)))

-- one step, or several, towards d, and one on what comes from s
pub out_all : (m m₁ : Sat) (d : ℕ) (o : Out) (ms : List Move) (hand : List (ℕ × Slot)) → length m.0.parts ≡ 1 → m₁ ≡ (with_part m.0 0 (with_out (part_at m.0 0) d o ms), hand)
    → (length m₁.0.parts ≡ 1) × (part_at m₁.0 0 ≡ with_out (part_at m.0 0) d o ms) × (m₁.1 ≡ hand)
out_all m m₁ d o ms hand one a = let p' : Part = with_out (part_at m.0 0) d o ms in (ap (λ (z : Sat). length z.0.parts) a ∙ one_set m.0 p' one, ap (λ (z : Sat). part_at z.0 0) a ∙ part_set m.0 p' one, ap (λ (z : Sat). z.1) a)

pub in_all : (m m₁ : Sat) (s : ℕ) (u : In) (ms : List Move) (hand : List (ℕ × Slot)) → length m.0.parts ≡ 1 → m₁ ≡ (with_part m.0 0 (with_in (part_at m.0 0) s u ms), hand)
    → (length m₁.0.parts ≡ 1) × (part_at m₁.0 0 ≡ with_in (part_at m.0 0) s u ms) × (m₁.1 ≡ hand)
in_all m m₁ s u ms hand one a = let p' : Part = with_in (part_at m.0 0) s u ms in (ap (λ (z : Sat). length z.0.parts) a ∙ one_set m.0 p' one, ap (λ (z : Sat). part_at z.0 0) a ∙ part_set m.0 p' one, ap (λ (z : Sat). z.1) a)

-- a look that showed room, and then a frame sent or the tries given up
pub sent_over : (v : View) (d : ℕ) (one : length v.parts ≡ 1) (near : d < length (part_at v 0).outs) (o o' : Out) (n : ℕ) → with_part (new_out_view v 0 d o) 0 (with_out (part_at (new_out_view v 0 d o) 0) d o' ((part_at (new_out_view v 0 d o) 0).moves ++ Post d n ∷ [])) ≡ with_part v 0 (with_out (part_at v 0) d o' ((part_at v 0).moves ++ Post d n ∷ []))
sent_over v d one near o o' n = let p : Part = part_at v 0 in let ms : List Move = p.moves ++ Post d n ∷ [] in
    (λ i. with_part (new_out_view v 0 d o) 0 (with_out (part_out v d one near o i) d o' ((part_out v d one near o i).moves ++ Post d n ∷ [])))
    ∙ ap (λ (z : Part). with_part (new_out_view v 0 d o) 0 z) (out_over p d o o' p.moves ms) ∙ (λ i. record { parts = set-set v.parts 0 (with_out p d o p.moves) (with_out p d o' ms) i })

pub raised_length : (j : ℕ) (ts : List ℕ) → length (raised j ts) ≡ length ts
raised_length zero ts = refl
raised_length (suc j) [] = refl
raised_length (suc j) (t ∷ ts) = ap suc (raised_length j ts)

pub tried_length : (o : Out) (j : ℕ) (ts : List ℕ) (f : ℕ) → IsTried o j ts f → length ts ≡ length o.tried
tried_length o j ts f t = ap length t.0 ∙ raised_length j o.tried

pub sent_length : (o : Out) (pool size : ℕ) (slot : Option ℕ) (ts : List ℕ) (f : ℕ) → IsSent o pool size slot ts f → length ts ≡ length o.tried
sent_length o pool size slot ts f (inl t) = ap length t.1
sent_length o pool size slot ts f (inr t) = t.2.1

pub in_over : (p : Part) (s : ℕ) (u u' : In) (ms ms' : List Move) → with_in (with_in p s u ms) s u' ms' ≡ with_in p s u' ms'
in_over p s u u' ms ms' = λ i. record { me = p.me; peers = p.peers; room = p.room; pool = p.pool; outs = p.outs; ins = set-set p.ins s u u' i; moves = ms' }

-- where the cell of the oldest frame lies
pub oldest_at : (n room src me got cell : ℕ) (p : Part) → p.peers ≡ n → p.room ≡ room → p.me ≡ me → got ≡ length (in_at p src).taken → cell ≡ got % room → lane_of n src me * room + cell ≡ oldest_of p src
oldest_at n room src me got cell p peers wide mine count is = λ i. lane_of (sym peers i) src (sym mine i) * sym wide i + (is ∙ (λ j. count j % sym wide j)) i

-- A port's open frames are stepped over, and the seats of all ports become one.
use Rattle.std.proofs.Common.{◌≡◌, ℕ, zero, suc, ◌+◌, ◌-◌, ◌*◌, ◌<◌, ◌≤◌, Bool, List, [], ◌∷◌, ◌++◌, length, get_or, sym, refl, ap, ◌∙◌, subst, arith, length-set, length-append, append_assoc, append-nil, get_or-set_same, get_or-set_other}
use mathlib.Core.Logic.{dite}
use mathlib.Core.List.{IsPrefix}
use native.Mathlib.Decide.{ℕ_discrete}
use Rattle.std.specs.Prelude.{Option, Some, None, slice_get, option_to_list}
use Rattle.std.proofs.lemmas.Option.{same_Some, slice_get_within}
use Rattle.std.specs.Arc.{arc_value}
use Rattle.fab_base.proofs.Lists.{get_some}
use Rattle.fab_link.specs.declared.moves.Move.{Move}
use Rattle.fab_link.specs.declared.moves.Move.TheVariants.{Take}
use Rattle.fab_link.specs.Merged.{posts_to}
use Rattle.fab_table.specs.declared.lane_table.LaneTable.{LaneTable}
use Rattle.fab_table.specs.declared.lane_table.PeerSeat.{PeerSeat}
use Rattle.fab_table.specs.declared.kinds.Sent.{Sent}
use Rattle.fab_table.specs.declared.kinds.Slot.{Slot}
use Rattle.fab_table.specs.declared.kinds.In.{In}
use Rattle.fab_table.specs.declared.kinds.Part.{Part}
use Rattle.fab_table.specs.declared.kinds.View.{View}
use Rattle.fab_table.specs.Views.{new_in, new_part, part_at, in_at, with_in, taken_one, both}
use Rattle.fab_table.specs.Seats.{IsOf, carried, view_of_seat}
use Rattle.fab_table.proofs.Orders.{posts_append}
use Rattle.fab_ring.proofs.Hold.{span_none}
use Rattle.fab_ring.specs.declared.port.RingPort.{RingPort}
use Rattle.fab_ring.specs.Hands.{shapes, held, held_of, Fits}
use Rattle.fab_ring.specs.Ports.{part_of}
use Rattle.fab_ring.specs.Gather.{AreAll, Released, IsPartOf, IsWhole}

-- the frames that lay open of the first n peers were stepped over
pub record Releasing (n : ℕ) (p q : Part) : Type 0 where
  pub me : q.me ≡ p.me
  pub peers : q.peers ≡ p.peers
  pub room : q.room ≡ p.room
  pub pool : q.pool ≡ p.pool
  pub outs : q.outs ≡ p.outs
  pub all_ins : length q.ins ≡ length p.ins
  pub done : (s : ℕ) → s < n → ((in_at q s).opened ≡ None) × ((in_at q s).taken ≡ (in_at p s).taken ++ option_to_list (in_at p s).opened)
  pub left : (s : ℕ) → n ≤ s → in_at q s ≡ in_at p s
  pub moves : IsPrefix p.moves q.moves
  pub posts : (d : ℕ) → posts_to d q.moves ≡ posts_to d p.moves

pub releasing_none : (n : ℕ) (p q q' : Part) → Releasing n p q → (in_at q n).opened ≡ None → q' ≡ q → Releasing (n + 1) p q'
releasing_none n p q q' r closed same = subst (Releasing (n + 1) p) (sym same) (let here : in_at q n ≡ in_at p n = r.left n (omega arith) in record {
  me = r.me;
  peers = r.peers;
  room = r.room;
  pool = r.pool;
  outs = r.outs;
  all_ins = r.all_ins;
  done = λ s low. dite (ℕ_discrete s n)
      (λ is. subst (λ (z : ℕ). ((in_at q z).opened ≡ None) × ((in_at q z).taken ≡ (in_at p z).taken ++ option_to_list (in_at p z).opened)) (sym is)
      (closed, ap (λ (z : In). z.taken) here ∙ sym (append-nil (in_at p n).taken) ∙ ap (λ (o : Option Sent). (in_at p n).taken ++ option_to_list o) (sym closed ∙ ap (λ (z : In). z.opened) here)))
      (λ ne. r.done s (omega arith));
  left = λ s far. r.left s (omega arith);
  moves = r.moves;
  posts = r.posts;
})

pub releasing_some : (n : ℕ) (p q q' : Part) (x : Sent) → Releasing n p q → n < length q.ins → (in_at q n).opened ≡ Some x → q' ≡ with_in q n (taken_one (in_at q n) x) (q.moves ++ Take n x.number ∷ []) → Releasing (n + 1) p q'
releasing_some n p q q' x r near open_now same = let u : In = taken_one (in_at q n) x in let ms : List Move = q.moves ++ Take n x.number ∷ [] in let now : Part = with_in q n u ms in
    subst (Releasing (n + 1) p) (sym same) (let here : in_at q n ≡ in_at p n = r.left n (omega arith) in record {
      me = r.me;
      peers = r.peers;
      room = r.room;
      pool = r.pool;
      outs = r.outs;
      all_ins = length-set q.ins n u ∙ r.all_ins;
      done = λ s low. dite (ℕ_discrete s n)
          (λ is. subst (λ (z : ℕ). ((in_at now z).opened ≡ None) × ((in_at now z).taken ≡ (in_at p z).taken ++ option_to_list (in_at p z).opened)) (sym is)
          (let there = get_or-set_same q.ins n u new_in near in
          (ap (λ (z : In). z.opened) there, ap (λ (z : In). z.taken) there ∙ ap (λ (z : In). z.taken ++ x ∷ []) here ∙ ap (λ (o : Option Sent). (in_at p n).taken ++ option_to_list o) (sym open_now ∙ ap (λ (z : In). z.opened) here))))
          (λ ne. let there = get_or-set_other q.ins n s u new_in ne in let d = r.done s (omega arith) in (ap (λ (z : In). z.opened) there ∙ d.0, ap (λ (z : In). z.taken) there ∙ d.1));
      left = λ s far. get_or-set_other q.ins n s u new_in (λ is. omega arith) ∙ r.left s (omega arith);
      moves = (r.moves.0 ++ Take n x.number ∷ [], sym (append_assoc p.moves r.moves.0 (Take n x.number ∷ [])) ∙ ap (λ (z : List Move). z ++ Take n x.number ∷ []) r.moves.1);
      posts = λ d. posts_append d q.moves (Take n x.number ∷ []) ∙ append-nil (posts_to d q.moves) ∙ r.posts d;
    })

past_end : (l : List In) (i : ℕ) → length l ≤ i → get_or l i new_in ≡ new_in
past_end [] i h = refl
past_end (x ∷ xs) zero h = absurd (let no : suc (length xs) ≤ 0 = h in omega arith)
past_end (x ∷ xs) (suc i) h = past_end xs i (let le : suc (length xs) ≤ suc i = h in omega arith)

pub releasing_end : (n : ℕ) (p q : Part) → Releasing n p q → length q.ins ≤ n → Released p q
releasing_end n p q r all = let far : (s : ℕ) → length q.ins ≤ s → (in_at q s ≡ new_in) × (in_at p s ≡ new_in) = λ s le. let same = r.all_ins in (past_end q.ins s le, past_end p.ins s (omega arith)) in record {
  me = r.me;
  peers = r.peers;
  room = r.room;
  pool = r.pool;
  outs = r.outs;
  all_ins = r.all_ins;
  closed = λ s. dite (dec s n) (λ low. (r.done s low).0) (λ no. ap (λ (z : In). z.opened) (far s (omega arith)).0);
  taken = λ s. dite (dec s n) (λ low. (r.done s low).1) (λ no. let f = far s (omega arith) in ap (λ (z : In). z.taken) f.0 ∙ ap (λ (z : In). z.taken ++ option_to_list z.opened) (sym f.1));
  moves = r.moves;
  posts = r.posts;
}
  where
    dec : (a b : ℕ) → Dec (a < b)
    dec a b = native.Mathlib.Decide.dec_lt a b

-- a port with no open frame has nothing in hand
no_shape : (hand : List (ℕ × Slot)) → shapes hand ≡ [] → hand ≡ []
no_shape [] e = refl
no_shape (z ∷ zs) e = absurd (let n : suc (length (shapes zs)) ≡ 0 = ap length e in omega arith)

pub hand_empty : (me peers room pool clock turn : ℕ) (puts gots : List ℕ) (os ls : List Bool) (p : Part) (hand : List (ℕ × Slot)) → Fits me peers room pool clock turn puts gots os ls p (shapes hand) → ((s : ℕ) → (in_at p s).opened ≡ None) → hand ≡ []
hand_empty me peers room pool clock turn puts gots os ls p hand fit closed = let none : (s : ℕ) → held p s ≡ [] = λ s. ap (λ (o : Option Sent). held_of o (in_at p s).lent (Rattle.fab_table.specs.Plays.oldest_of p s) (p.peers * p.peers * p.room)) (closed s) in
    no_shape hand (fit.hand_is ∙ (λ i. span_none (held p) turn (peers - turn) (λ x _ _. none x) i ++ span_none (held p) 0 turn (λ x _ _. none x) i))

-- the seat speaks for the ports from the n-th on
pub record Joining (ports : List RingPort) (n : ℕ) (v : View) : Type 0 where
  pub count : n + length v.parts ≡ length ports
  pub parts : (k : ℕ) (p : RingPort) → n ≤ k → slice_get ports k ≡ Some p → Released (part_of p) (part_at v (k - n))

get_front : {A : Type 0} (l m : List A) (d : A) → length l ≡ 1 → get_or (l ++ m) 0 d ≡ get_or l 0 d
get_front [] m d e = absurd (let n : 0 ≡ 1 = e in omega arith)
get_front (x ∷ xs) m d e = refl

get_behind : {A : Type 0} (l m : List A) (i : ℕ) (d : A) → length l ≡ 1 → get_or (l ++ m) (suc i) d ≡ get_or m i d
get_behind [] m i d e = absurd (let n : 0 ≡ 1 = e in omega arith)
get_behind (x ∷ []) m i d e = refl
get_behind (x ∷ y ∷ ys) m i d e = absurd (let n : suc (suc (length ys)) ≡ 1 = e in omega arith)

pub joining_one : (ports : List RingPort) (n : ℕ) (v : View) (p : RingPort) → n + 1 ≡ length ports → slice_get ports n ≡ Some p → length v.parts ≡ 1 → Released (part_of p) (part_at v 0) → Joining ports n v
joining_one ports n v p all there one r = record {
  count = omega arith;
  parts = λ k q le at. let low = slice_get_within ports k q at in let same : k ≡ n = omega arith in let z : k - n ≡ 0 = omega arith in
      subst (λ (i : ℕ). Released (part_of q) (part_at v i)) (sym z) (subst (λ (o : RingPort). Released (part_of o) (part_at v 0)) (same_Some p q (sym there ∙ ap (slice_get ports) (sym same) ∙ at)) r);
}

pub joining_more : (ports : List RingPort) (n : ℕ) (v w : View) (p : RingPort) → slice_get ports n ≡ Some p → length v.parts ≡ 1 → Released (part_of p) (part_at v 0) → Joining ports (n + 1) w → Joining ports n (both v w)
joining_more ports n v w p there one r j = record {
  count = let e = length-append v.parts w.parts in let c = j.count in omega arith;
  parts = λ k q le at. dite (ℕ_discrete k n)
      (λ same. let z : k - n ≡ 0 = omega arith in subst (λ (i : ℕ). Released (part_of q) (part_at (both v w) i)) (sym z)
      (subst (Released (part_of q)) (sym (get_front v.parts w.parts (new_part 0 0 0 0) one)) (subst (λ (o : RingPort). Released (part_of o) (part_at v 0)) (same_Some p q (sym there ∙ ap (slice_get ports) (sym same) ∙ at)) r)))
      (λ ne. let z : k - n ≡ suc (k - (n + 1)) = omega arith in subst (λ (i : ℕ). Released (part_of q) (part_at (both v w) i)) (sym z)
      (subst (Released (part_of q)) (sym (get_behind v.parts w.parts (k - (n + 1)) (new_part 0 0 0 0) one)) (j.parts k q (omega arith) at)));
}

pub part_stands : (f : LaneTable) (k : ℕ) (p : RingPort) (q : Part) → arc_value p.fabric ≡ f → p.me ≡ k → Released (part_of p) q → IsPartOf f k q
part_stands f k p q is me r = let t = p.fits in record {
  me = r.me ∙ t.me_is ∙ me;
  peers = r.peers ∙ t.peers_is ∙ ap (λ z. z.peers) is;
  room = r.room ∙ t.room_is ∙ ap (λ z. z.room) is;
  pool = r.pool ∙ t.pool_is ∙ ap (λ z. z.pool) is;
  all_outs = ap length r.outs ∙ t.all_outs ∙ ap (λ z. z.peers) is;
  all_ins = r.all_ins ∙ t.all_ins ∙ ap (λ z. z.peers) is;
  closed = r.closed;
}

less_none : (k : ℕ) → k - 0 ≡ k
less_none k = omega arith

pub whole_joined : (f : LaneTable) (ports : List RingPort) (t : PeerSeat) → AreAll f ports → IsOf f t → carried t ≡ [] → Joining ports 0 (view_of_seat t) → IsWhole f ports t
whole_joined f ports t a of hand j = record {
  joined = record {
    of = of;
    count = let c = j.count in let n = a.count in omega arith;
    empty = hand;
    each = λ k low. let g = get_some ports k (let n = a.count in omega arith) in part_stands f k g.0 (part_at (view_of_seat t) k) (a.tables k g.0 g.1) (a.numbers k g.0 g.1) (subst (λ (z : ℕ). Released (part_of g.0) (part_at (view_of_seat t) z)) (less_none k) (j.parts k g.0 (omega arith) g.1));
  };
  parts = λ k p at. subst (λ (z : ℕ). Released (part_of p) (part_at (view_of_seat t) z)) (less_none k) (j.parts k p (omega arith) at);
}

pub get_last : {X : Type 0} (xs zs ys : List X) (x : X) → (xs ++ x ∷ []) ++ zs ≡ ys → slice_get ys (length xs) ≡ Some x
get_last {X = X} xs zs ys x e = subst (λ (l : List X). slice_get l (length xs) ≡ Some x) e (here xs zs x)
  where
    here : {X : Type 0} (xs zs : List X) (x : X) → slice_get ((xs ++ x ∷ []) ++ zs) (length xs) ≡ Some x
    here [] zs x = refl
    here (y ∷ xs) zs x = here xs zs x

step_by : (n : ℕ) (p q q' : Part) (o : Option Sent) → (in_at q n).opened ≡ o → Releasing n p q → n < length q.ins → ((in_at q n).opened ≡ None → q' ≡ q) → ((x : Sent) → (in_at q n).opened ≡ Some x → q' ≡ with_in q n (taken_one (in_at q n) x) (q.moves ++ Take n x.number ∷ [])) → Releasing (n + 1) p q'
step_by n p q q' None is r near none some = releasing_none n p q q' r is (none is)
step_by n p q q' (Some x) is r near none some = releasing_some n p q q' x r near is (some x is)

pub releasing_step : (n : ℕ) (p q q' : Part) → Releasing n p q → n < length q.ins → ((in_at q n).opened ≡ None → q' ≡ q) → ((x : Sent) → (in_at q n).opened ≡ Some x → q' ≡ with_in q n (taken_one (in_at q n) x) (q.moves ++ Take n x.number ∷ [])) → Releasing (n + 1) p q'
releasing_step n p q q' = step_by n p q q' (in_at q n).opened refl

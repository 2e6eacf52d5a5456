-- Ports as they are made.
use Rattle.std.proofs.Common.{◌≡◌, ℕ, zero, suc, List, [], ◌∷◌, ◌++◌, length, get_or, replicate, sym, refl, ap, ◌∙◌, subst}
use Rattle.std.specs.Prelude.{Some, slice_get}
use Rattle.std.proofs.lemmas.Option.{none-some, same_Some}
use Rattle.fab_link.specs.Meaning.{AreFresh}
use Rattle.fab_table.specs.declared.lane_table.LaneTable.{LaneTable}
use Rattle.fab_table.specs.declared.kinds.Out.{Out}
use Rattle.fab_table.specs.declared.kinds.In.{In}
use Rattle.fab_table.specs.declared.kinds.Part.{Part}
use Rattle.fab_table.specs.Views.{frames_of, least, least_from, new_out, new_in, new_part, out_at, in_at}
use Rattle.fab_table.proofs.Seating.{same_all}
use Rattle.fab_ring.specs.declared.port.RingPort.{RingPort}
use Rattle.fab_ring.specs.Hands.{Comes}
use Rattle.fab_ring.specs.Ports.{outgoing, incoming, frame_in}
use Rattle.fab_ring.specs.Made.{IsMade, AreMade}

pub comes_new : (n room pool me : ℕ) → Comes (new_part n room pool me)
comes_new n room pool me s x e = absurd (none-some x (ap (λ (z : In). z.opened) (sym (same_all n s new_in)) ∙ e))

either_at : (n i : ℕ) (a b : Out) (F : Out → Type 0) → F a → F b → F (get_or (replicate n a) i b)
either_at zero i a b F fa fb = fb
either_at (suc n) zero a b F fa fb = fa
either_at (suc n) (suc i) a b F fa fb = either_at n i a b F fa fb

from_zero : (n : ℕ) → least_from 0 (replicate n 0) ≡ 0
from_zero zero = refl
from_zero (suc n) = from_zero n

least_zero : (n : ℕ) → least (replicate n 0) ≡ 0
least_zero zero = refl
least_zero (suc n) = from_zero n

fresh_new : (n room pool me d : ℕ) → AreFresh (outgoing (out_at (new_part n room pool me) d)) (incoming (in_at (new_part n room pool me) d))
fresh_new n room pool me d = let here : in_at (new_part n room pool me) d ≡ new_in = same_all n d new_in in record {
  frames = either_at n d (new_out pool) (new_out 0) (λ o. frames_of o.posted ≡ []) refl refl;
  lane_full_seen = either_at n d (new_out pool) (new_out 0) (λ o. o.full_seen ≡ 0) refl refl;
  pool_full_seen = either_at n d (new_out pool) (new_out 0) (λ o. least o.tried ≡ 0) (least_zero pool) refl;
  taken = ap (λ (z : In). frames_of z.taken) here;
  lent = ap (λ (z : In). frame_in z.opened) here;
  empty_seen = ap (λ (z : In). z.empty_seen) here;
}

pub made_all : (f : LaneTable) (ports : List RingPort) → length ports ≡ f.peers → ((k : ℕ) (p : RingPort) → slice_get ports k ≡ Some p → IsMade f k p) → AreMade f.peers f.room f.pool f ports
made_all f ports count each = record {
  count = count;
  numbers = λ k p e. (each k p e).0;
  sizes = λ k p e. let is = (each k p e).1 in (ap (λ t. t.peers) is, ap (λ t. t.room) is, ap (λ t. t.pool) is);
  tables = λ k p e. (each k p e).1;
  fresh = λ k p e. let is = (each k p e).2 in (ap (λ (z : Part). z.moves) is, λ d. subst (λ (z : Part). AreFresh (outgoing (out_at z d)) (incoming (in_at z d))) (sym is) (fresh_new f.peers f.room f.pool k d));
}

pub get_push : {X : Type 0} (xs : List X) (x y : X) (k : ℕ) (F : ℕ → X → Type 0) → ((k : ℕ) (y : X) → slice_get xs k ≡ Some y → F k y) → F (length xs) x → slice_get (xs ++ x ∷ []) k ≡ Some y → F k y
get_push [] x y zero F old new e = subst (F 0) (same_Some x y e) new
get_push [] x y (suc k) F old new e = absurd (none-some y e)
get_push (z ∷ zs) x y zero F old new e = old 0 y e
get_push (z ∷ zs) x y (suc k) F old new e = get_push zs x y k (λ n w. F (suc n) w) (λ n w h. old (suc n) w h) new e

-- two lists whose members belong together, one more each
pub paired_more : {A B : Type 0} (xs : List A) (bs bs' : List B) (n : ℕ) (a : A) (b : B) (R : A → B → Type 0) → length bs ≡ n → slice_get xs n ≡ Some a → bs' ≡ bs ++ b ∷ [] → R a b
    → ((k : ℕ) (x : A) (y : B) → slice_get xs k ≡ Some x → slice_get bs k ≡ Some y → R x y) → (k : ℕ) (x : A) (y : B) → slice_get xs k ≡ Some x → slice_get bs' k ≡ Some y → R x y
paired_more {A = A} {B = B} xs bs bs' n a b R long there grown new old k x y e e' = get_push bs b y k (λ (j : ℕ) (z : B). (w : A) → slice_get xs j ≡ Some w → R w z)
    (λ j z at w at'. old j w z at' at)
    (λ w at. subst (λ (v : A). R v b) (same_Some a w (sym there ∙ ap (slice_get xs) (sym long) ∙ at)) new)
    (ap (λ (l : List B). slice_get l k) (sym grown) ∙ e') x e

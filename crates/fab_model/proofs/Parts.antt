-- Parts of proofs that a machine is patient.
use Rattle.std.proofs.Common.{◌≡◌, ℕ, zero, suc, Bool, true, false, List, [], ◌∷◌, map, slice_get, set, get_or, Option, Some, None, ◌⊎◌, inl, inr, refl, sym, ◌∙◌, ap, subst, arith}
use Rattle.std.proofs.lemmas.Bool.{ltb-true, lt-ltb}
use Rattle.std.specs.Prelude.{nat_lt}
pub use Rattle.std.proofs.lemmas.Option.{same_Some as some_same}
pub use Rattle.fab_base.proofs.Lists.{prefix_get}
use Rattle.fab_model.specs.Peers.{Actor, only_if}
use Rattle.fab_model.specs.Views.{View, More}

-- a step that takes something stands where there is something
pub some_is : {X S : Type 0} (o : Option X) (f : X → Option S) (s : S) → elim o [ None ↦ None | Some x ↦ f x ] ≡ Some s → (x : X) × (o ≡ Some x) × (f x ≡ Some s)
some_is None f s e = absurd (cc)
some_is (Some x) f s e = (x, refl, e)

pub some_gives : {X S : Type 0} (o : Option X) (f : X → Option S) (x : X) (s : S) → o ≡ Some x → f x ≡ Some s → elim o [ None ↦ None | Some x ↦ f x ] ≡ Some s
some_gives o f x s is gives = rw is gives

-- a step under a condition stands where the condition holds
pub if_is : (holds : Bool) (a b : Actor) → only_if holds a ≡ Some b → (holds ≡ true) × (a ≡ b)
if_is true a b e = (refl, cc)
if_is false a b e = absurd (cc)

pub if_gives : (holds : Bool) (a b : Actor) → holds ≡ true → a ≡ b → only_if holds a ≡ Some b
if_gives holds a b t e = rw t (ap Some e)

pub more_item : {Item : Type 0} (v w : View Item) (sender k : ℕ) (x : Item) → More v w → slice_get (v.ready sender) k ≡ Some x → slice_get (w.ready sender) k ≡ Some x
more_item v w sender k x more e = subst (λ xs. slice_get xs k ≡ Some x) ((more.ready sender).1) (prefix_get (v.ready sender) ((more.ready sender).0) k x e)

pub more_sent : {Item : Type 0} (v w : View Item) (sender k : ℕ) → More v w → nat_lt k (v.sent sender) ≡ true → nat_lt k (w.sent sender) ≡ true
more_sent v w sender k more t = lt-ltb k (w.sent sender) (omega (arith, ltb-true k (v.sent sender) t, more.sent sender))

-- an element after a write: the one written, or the one before
pub get_or-set : {X : Type 0} (xs : List X) (i j : ℕ) (x d : X) → (get_or (set xs i x) j d ≡ get_or xs j d) ⊎ ((i ≡ j) × (get_or (set xs i x) j d ≡ x))
get_or-set [] i j x d = inl refl
get_or-set (y ∷ xs) zero zero x d = inr (refl, refl)
get_or-set (y ∷ xs) zero (suc j) x d = inl refl
get_or-set (y ∷ xs) (suc i) zero x d = inl refl
get_or-set (y ∷ xs) (suc i) (suc j) x d = elim (get_or-set xs i j x d) [ inl e ↦ inl e | inr e ↦ inr (ap suc e.0, e.1) ]

-- a write that keeps what is looked at
pub map-set_same : {S F : Type 0} (look : S → F) (states : List S) (p : ℕ) (s s' : S) → slice_get states p ≡ Some s → look s' ≡ look s → map look (set states p s') ≡ map look states
map-set_same look [] p s s' e same = refl
map-set_same {S} {F} look (t ∷ states) zero s s' e same = let f : t ≡ s = cc in ap (λ (x : F). x ∷ map look states) (same ∙ ap look (sym f))
map-set_same look (t ∷ states) (suc p) s s' e same = ap (λ xs. look t ∷ xs) (map-set_same look states p s s' e same)

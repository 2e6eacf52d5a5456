-- A half with one list put in its place, and a list of which one more member is changed.
use Rattle.std.proofs.Common.{◌≡◌, ℕ, zero, suc, ◌+◌, ◌<◌, List, [], ◌∷◌, ◌++◌, length, map, take, drop, get_or, set, refl, sym, ap, ◌∙◌, arith, add-one}
use Rattle.fab_base.specs.declared.items.ItemHead.{ItemHead}
use Rattle.fab_base.specs.declared.operations.Receive.{Receive}
use Rattle.fab_base.specs.declared.operations.Operation.{Operation}
use Rattle.fab_model.specs.State.{Receiving, Transmitting}
use Rattle.fab_model.specs.Matching.{remove_first}
use Rattle.fab_model.specs.Sending.{is_answered_by, answering}

abbrev pub with_posted : List Receive → Receiving → Receiving
with_posted posted rx = record rx { posted = posted }

abbrev pub with_live : List Operation → Transmitting → Transmitting
with_live live tx = record tx { live = live }

pub answered_rest : (tx : Transmitting) (source : ℕ) (reply : ItemHead) (live : List Operation) → live ≡ remove_first (is_answered_by tx source reply) tx.live → with_live live tx ≡ answering source reply tx
unfolding answering
answered_rest tx source reply live e = ap (λ l. with_live l tx) e

-- ---- one more member is changed

module _ {X : Type 0} (f : X → X) (d : X) where
  pub unchanged_at : (xs : List X) (i : ℕ) → i < length xs → get_or (map f (take i xs) ++ drop i xs) i d ≡ get_or xs i d
  unchanged_at [] zero lt = refl
  unchanged_at [] (suc i) lt = refl
  unchanged_at (x ∷ xs) zero lt = refl
  unchanged_at (x ∷ xs) (suc i) lt = unchanged_at xs i (omega arith)

  pub changed_more : (xs : List X) (i : ℕ) → i < length xs → set (map f (take i xs) ++ drop i xs) i (f (get_or xs i d)) ≡ map f (take (suc i) xs) ++ drop (suc i) xs
  changed_more [] i lt = absurd (omega arith)
  changed_more (x ∷ xs) zero lt = refl
  changed_more (x ∷ xs) (suc i) lt = ap (λ ys. f x ∷ ys) (changed_more xs i (omega arith))

-- the member at this place is changed, where those before it are
pub changed_step : {X : Type 0} (f : X → X) (old now : List X) (i : ℕ) (x y : X) → now ≡ map f (take i old) ++ drop i old → i < length old → x ≡ get_or now i x → y ≡ f x
    → set now i y ≡ map f (take (i + 1) old) ++ drop (i + 1) old
changed_step f old now i x y is lt at made =
    let here : get_or old i x ≡ x = sym (unchanged_at f x old i lt) ∙ ap (λ xs. get_or xs i x) (sym is) ∙ sym at in
    ap (λ xs. set xs i y) is ∙ ap (λ z. set (map f (take i old) ++ drop i old) i z) (made ∙ ap f (sym here)) ∙ changed_more f x old i lt
    ∙ ap (λ k. map f (take k old) ++ drop k old) (sym (add-one i))

-- What `get` of a slice lends.
use Rattle.std.proofs.Common.{◌≡◌, ℕ, ◌==◌, List, [], length, map, slice_get, Option, Some, None, refl, sym, ap, ap₂, ◌∙◌}
use Rattle.std.specs.Prelude.{slice_index, slice_index_or}
use Rattle.std.specs.Option.{option_map, option_map_or}
use Rattle.std.proofs.lemmas.Option.{slice_get-map}
use Rattle.fab_model.specs.Peers.{Actor, Facts, facts, has_all}

-- the same place of the same list
pub same_get : {X : Type 0} (xs ys : List X) (i j : ℕ) (o : Option X) → xs ≡ ys → j ≡ i → slice_get ys j ≡ o → slice_get xs i ≡ o
same_get xs ys i j o same at e = ap (λ zs. slice_get zs i) same ∙ ap (slice_get ys) (sym at) ∙ e

mapped_or : {X Y : Type 0} (f : Y → ℕ) (g : X → Y) (o : Option X) → option_map_or f (option_map g o) 0 ≡ option_map_or (λ x. f (g x)) o 0
mapped_or f g None = refl
mapped_or f g (Some x) = refl

-- what the final cancels ask of two peers, by their states
pub has_all_is : (all : List Actor) (sender receiver whole accepted : ℕ) → whole ≡ option_map_or (λ (a : Actor). slice_index a.state.rx.tails sender) (slice_get all receiver) 0
    → accepted ≡ option_map_or (λ (a : Actor). length (slice_index_or a.state.tx.accepted receiver [])) (slice_get all sender) 0 → (whole == accepted) ≡ has_all (map facts all) sender receiver
has_all_is all sender receiver whole accepted w a =
    ap₂ (λ (x y : ℕ). x == y)
    (w ∙ sym (ap (λ o. option_map_or (λ (f : Facts). slice_index f.tails sender) o 0) (slice_get-map facts all receiver) ∙ mapped_or (λ (f : Facts). slice_index f.tails sender) facts (slice_get all receiver)))
    (a ∙ sym (ap (λ o. option_map_or (λ (f : Facts). length (slice_index_or f.accepted receiver [])) o 0) (slice_get-map facts all sender) ∙ mapped_or (λ (f : Facts). length (slice_index_or f.accepted receiver [])) facts (slice_get all sender)))

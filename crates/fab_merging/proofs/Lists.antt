-- Lists of acts, and lists of pasts.
use Rattle.std.proofs.Common.{◌≡◌, ◌≤◌, ℕ, zero, suc, List, [], ◌∷◌, ◌++◌, length, map, slice_get, get_or, Some, refl, sym, ap, subst, ◌∙◌, arith}
use Rattle.std.proofs.lemmas.Grind.{flat_map-append}
use Rattle.std.proofs.lemmas.List.{map-append}
use mathlib.Core.List.{IsPrefix}
use Rattle.fab_base.specs.declared.items.Item.{Item}
pub use Rattle.fab_base.proofs.Lists.{get_some as member}
use Rattle.fab_face.specs.Acts.{Act, Did, Took, Posted, Drew, Had, taken_by, posted_by, ways_by, steps_by, taken_of, posted_to, ways_of, steps_of}
use Rattle.fab_merging.specs.Pasts.{PastOf, Trail}
use Rattle.fab_merging.specs.Law.{outs_at, ins_at}

-- ---- acts

pub taken-append : (s : ℕ) (xs ys : List Act) → taken_of s (xs ++ ys) ≡ taken_of s xs ++ taken_of s ys
taken-append s xs ys = flat_map-append (taken_by s) xs ys

pub posted-append : (d : ℕ) (xs ys : List Act) → posted_to d (xs ++ ys) ≡ posted_to d xs ++ posted_to d ys
posted-append d xs ys = flat_map-append (posted_by d) xs ys

pub steps-append : (xs ys : List Act) → steps_of (xs ++ ys) ≡ steps_of xs ++ steps_of ys
steps-append xs ys = flat_map-append steps_by xs ys

pub ways-append : (xs ys : List Act) → ways_of (xs ++ ys) ≡ ways_of xs ++ ways_of ys
ways-append xs ys = flat_map-append ways_by xs ys

-- of what is done, each with its act
module _ {D : Type 0} (act_of : D → Act) where
  pub taken_then : (s : ℕ) (xs ys : List D) → taken_of s (map act_of (xs ++ ys)) ≡ taken_of s (map act_of xs) ++ taken_of s (map act_of ys)
  taken_then s xs ys = ap (taken_of s) (map-append act_of xs ys) ∙ taken-append s (map act_of xs) (map act_of ys)

  pub posted_then : (d : ℕ) (xs ys : List D) → posted_to d (map act_of (xs ++ ys)) ≡ posted_to d (map act_of xs) ++ posted_to d (map act_of ys)
  posted_then d xs ys = ap (posted_to d) (map-append act_of xs ys) ∙ posted-append d (map act_of xs) (map act_of ys)

  pub ways_then : (xs ys : List D) → ways_of (map act_of (xs ++ ys)) ≡ ways_of (map act_of xs) ++ ways_of (map act_of ys)
  ways_then xs ys = ap ways_of (map-append act_of xs ys) ∙ ways-append (map act_of xs) (map act_of ys)

pub trail_then : {L D : Type 0} (Does : L → D → L → Type 0) (p q r : L) (xs ys : List D) → Trail Does p xs q → Trail Does q ys r → Trail Does p (xs ++ ys) r
trail_then Does p q r [] ys a b = subst (λ x. Trail Does x ys r) (sym a) b
trail_then Does p q r (x ∷ xs) ys (mid, one, rest) b = (mid, one, trail_then Does mid q r xs ys rest b)

-- an act that is no move takes nothing and posts nothing
pub plain_takes : (x : Act) (s : ℕ) → ways_by x ≡ [] → taken_by s x ≡ []
plain_takes Did s e = refl
plain_takes (Took source f) s e = absurd (cc)
plain_takes (Posted dest f) s e = absurd (cc)
plain_takes Drew s e = refl
plain_takes Had s e = refl

pub plain_posts : (x : Act) (d : ℕ) → ways_by x ≡ [] → posted_by d x ≡ []
plain_posts Did d e = refl
plain_posts (Took source f) d e = absurd (cc)
plain_posts (Posted dest f) d e = absurd (cc)
plain_posts Drew d e = refl
plain_posts Had d e = refl

-- ---- lists

pub same_list : {X : Type 0} (xs ys : List X) → length xs ≡ length ys → ((p : ℕ) (x y : X) → slice_get xs p ≡ Some x → slice_get ys p ≡ Some y → x ≡ y) → xs ≡ ys
same_list [] [] l e = refl
same_list [] (y ∷ ys) l e = absurd (omega (arith, l))
same_list (x ∷ xs) [] l e = absurd (omega (arith, l))
same_list {X} (x ∷ xs) (y ∷ ys) l e = ap (λ (z : X). z ∷ xs) (e zero x y refl refl) ∙ ap (λ zs. y ∷ zs) (same_list xs ys (omega (arith, l)) (λ p. e (suc p)))

pub map_at : {X Y : Type 0} (f : List X → List Y) (xss : List (List X)) (p : ℕ) → f [] ≡ [] → get_or (map f xss) p [] ≡ f (get_or xss p [])
map_at f [] p e = sym e
map_at f (xs ∷ xss) zero e = refl
map_at f (xs ∷ xss) (suc p) e = map_at f xss p e

-- of two beginnings of one list, the shorter is a beginning of the longer
pub front_of : {X : Type 0} (xs ys more rest : List X) → xs ++ more ≡ ys ++ rest → length xs ≤ length ys → IsPrefix xs ys
front_of [] ys more rest e l = (ys, refl)
front_of (x ∷ xs) [] more rest e l = absurd (omega (arith, l))
front_of {X} (x ∷ xs) (y ∷ ys) more rest e l =
    let h : x ≡ y = cc in
    let t : xs ++ more ≡ ys ++ rest = cc in
    let r = front_of xs ys more rest t (omega (arith, l)) in
    (r.0, ap (λ (z : X). z ∷ (xs ++ r.0)) h ∙ ap (λ zs. y ∷ zs) r.1)

-- ---- pasts

module _ {L K : Type 0} where
  pub outs_is : (pasts : List (PastOf L K)) (p d : ℕ) (x : PastOf L K) → slice_get pasts p ≡ Some x → outs_at pasts p d ≡ x.outs d
  outs_is [] p d x e = absurd (cc)
  outs_is (y ∷ pasts) zero d x e = let h : y ≡ x = cc in ap (λ (z : PastOf L K). z.outs d) h
  outs_is (y ∷ pasts) (suc p) d x e = outs_is pasts p d x e

  pub outs_past : (pasts : List (PastOf L K)) (p d : ℕ) → length pasts ≤ p → outs_at pasts p d ≡ []
  outs_past [] p d l = refl
  outs_past (y ∷ pasts) zero d l = absurd (omega arith)
  outs_past (y ∷ pasts) (suc p) d l = outs_past pasts p d (omega arith)

  pub ins_is : (pasts : List (PastOf L K)) (p s : ℕ) (x : PastOf L K) → slice_get pasts p ≡ Some x → ins_at pasts p s ≡ x.ins s
  ins_is [] p s x e = absurd (cc)
  ins_is (y ∷ pasts) zero s x e = let h : y ≡ x = cc in ap (λ (z : PastOf L K). z.ins s) h
  ins_is (y ∷ pasts) (suc p) s x e = ins_is pasts p s x e

-- ---- items

pub no_items : (items : List Item) (i : ℕ) (item : Item) → items ≡ [] → slice_get items i ≡ Some item → ⊥
no_items items i item none e = let is : slice_get {X = Item} [] i ≡ Some item = subst (λ xs. slice_get xs i ≡ Some item) none e in cc (is)

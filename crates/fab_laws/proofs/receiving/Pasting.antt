-- The bytes of a part are written at its place in a buffer, and parts at other places leave them.
--     paste_stands      what is written stands there
--     paste_keeps       what stands in front, or behind, stays
use Rattle.std.proofs.Common.{◌≡◌, ◌≤◌, ◌<◌, ◌+◌, ◌-◌, ℕ, zero, suc, min, Bool, true, false, List, [], ◌∷◌, ◌++◌, length, take, drop, slice_get, ◌⊎◌, inl, inr, refl, sym, ◌∙◌, ap, arith, length-append, length-take, length-drop}
use Rattle.std.specs.Prelude.{nat_lt}
use Rattle.std.proofs.lemmas.Bool.{ltb-false, ltb-true}
use Rattle.std.proofs.lemmas.Option.{slice_get_past, slice_get_within}
use Rattle.fab_model.specs.Complete.{paste}
use Rattle.fab_laws.specs.MultiLaws.{StandsAt}

-- ---- members by their places

pub get_front : {X : Type 0} (xs ys : List X) (i : ℕ) → i < length xs → slice_get (xs ++ ys) i ≡ slice_get xs i
get_front [] ys i lt = absurd (omega (arith, lt))
get_front (x ∷ xs) ys zero lt = refl
get_front (x ∷ xs) ys (suc i) lt = get_front xs ys i (omega (arith, lt))

get_back : {X : Type 0} (xs ys : List X) (i j : ℕ) → j ≡ length xs + i → slice_get (xs ++ ys) j ≡ slice_get ys i
get_back [] ys i j e = let f : j ≡ i = omega (arith, e) in ap (slice_get ys) f
get_back (x ∷ xs) ys i zero e = absurd (omega (arith, e))
get_back (x ∷ xs) ys i (suc j) e = get_back xs ys i j (omega (arith, e))

get_take : {X : Type 0} (n : ℕ) (xs : List X) (i : ℕ) → i < n → slice_get (take n xs) i ≡ slice_get xs i
get_take zero xs i lt = absurd (omega (arith, lt))
get_take (suc n) [] i lt = refl
get_take (suc n) (x ∷ xs) zero lt = refl
get_take (suc n) (x ∷ xs) (suc i) lt = get_take n xs i (omega (arith, lt))

get_drop : {X : Type 0} (n : ℕ) (xs : List X) (i j : ℕ) → j ≡ n + i → slice_get (drop n xs) i ≡ slice_get xs j
get_drop zero xs i j e = let f : i ≡ j = omega (arith, e) in ap (slice_get xs) f
get_drop (suc n) [] i j e = refl
get_drop (suc n) (x ∷ xs) i zero e = absurd (omega (arith, e))
get_drop (suc n) (x ∷ xs) i (suc j) e = get_drop n xs i j (omega (arith, e))

-- ---- what is written

pub paste_long : (buf : List ℕ) (place : ℕ) (bytes : List ℕ) → length (paste buf place bytes) ≡ length buf
unfolding paste
paste_long buf place bytes =
    let k : ℕ = min (length bytes) (length buf - place) in
    length-append (take place buf ++ take k bytes) (drop (place + k) buf) ∙ ap (λ i. i + length (drop (place + k) buf)) (length-append (take place buf) (take k bytes)) ∙ omega (arith, length-take place buf, length-take k bytes, length-drop (place + k) buf)

pub paste_stands : (buf : List ℕ) (place : ℕ) (bytes : List ℕ) → StandsAt (paste buf place bytes) place bytes
unfolding paste
paste_stands buf place bytes k byte at within =
    let n : ℕ = min (length bytes) (length buf - place) in
    let has : k < length bytes = slice_get_within bytes k byte at in
    let room : place + k < length buf = omega (arith, within, paste_long buf place bytes) in
    let front : length (take place buf) ≡ place = omega (arith, length-take place buf, room) in
    let long : length (take place buf ++ take n bytes) ≡ place + n = length-append (take place buf) (take n bytes) ∙ omega (arith, front, length-take n bytes) in
    get_front (take place buf ++ take n bytes) (drop (place + n) buf) (place + k) (omega (arith, long, has, room))
    ∙ get_back (take place buf) (take n bytes) k (place + k) (omega (arith, front))
    ∙ get_take n bytes k (omega (arith, has, room)) ∙ at

-- in front of what is written
in_front_of : (buf : List ℕ) (place : ℕ) (bytes : List ℕ) (i : ℕ) → i < place → i < length buf → slice_get (paste buf place bytes) i ≡ slice_get buf i
unfolding paste
in_front_of buf place bytes i before within =
    let n : ℕ = min (length bytes) (length buf - place) in
    let front : i < length (take place buf) = omega (arith, length-take place buf, before, within) in
    get_front (take place buf ++ take n bytes) (drop (place + n) buf) i (omega (arith, front, length-append (take place buf) (take n bytes)))
    ∙ get_front (take place buf) (take n bytes) i front ∙ get_take place buf i before

-- behind it
behind : (buf : List ℕ) (place : ℕ) (bytes : List ℕ) (i : ℕ) → place + min (length bytes) (length buf - place) ≤ i → i < length buf → slice_get (paste buf place bytes) i ≡ slice_get buf i
unfolding paste
behind buf place bytes i after within =
    let n : ℕ = min (length bytes) (length buf - place) in
    let front : length (take place buf) ≡ place = omega (arith, length-take place buf, after, within) in
    let long : length (take place buf ++ take n bytes) ≡ place + n = length-append (take place buf) (take n bytes) ∙ omega (arith, front, length-take n bytes) in
    get_back (take place buf ++ take n bytes) (drop (place + n) buf) (i - (place + n)) i (omega (arith, long, after))
    ∙ get_drop (place + n) buf (i - (place + n)) i (omega (arith, after))

pub paste_keeps : (buf : List ℕ) (place : ℕ) (bytes : List ℕ) (i : ℕ) → (i < place) ⊎ (place + min (length bytes) (length buf - place) ≤ i) → slice_get (paste buf place bytes) i ≡ slice_get buf i
paste_keeps buf place bytes i apart = go (nat_lt i (length buf)) refl apart
  where
    go : (b : Bool) → nat_lt i (length buf) ≡ b → (i < place) ⊎ (place + min (length bytes) (length buf - place) ≤ i) → slice_get (paste buf place bytes) i ≡ slice_get buf i
    go true e (inl before) = in_front_of buf place bytes i before (ltb-true i (length buf) e)
    go true e (inr after) = behind buf place bytes i after (ltb-true i (length buf) e)
    go false e way =
        let past : length buf ≤ i = ltb-false i (length buf) e in
        slice_get_past (paste buf place bytes) i (omega (arith, past, paste_long buf place bytes)) ∙ sym (slice_get_past buf i past)

-- what stands elsewhere stands there still
pub stands_still : (buf : List ℕ) (place : ℕ) (bytes : List ℕ) (other : ℕ) (part : List ℕ) → StandsAt buf other part
    → (other + min (length part) (length buf - other) ≤ place) ⊎ (place + min (length bytes) (length buf - place) ≤ other) → StandsAt (paste buf place bytes) other part
stands_still buf place bytes other part stands apart k byte at within =
    let has : k < length part = slice_get_within part k byte at in
    let room : other + k < length buf = omega (arith, within, paste_long buf place bytes) in
    paste_keeps buf place bytes (other + k) (elim apart [ inl ends ↦ inl (omega (arith, ends, has, room)) | inr begins ↦ inr (omega (arith, begins)) ]) ∙ stands k byte at room

-- Collectives of pieces, one after another.
--     Pieced fixed coll n own bytes old new     the first n pieces of these bytes were collected, and what they gave stands in their place
use Rattle.std.proofs.Common.{◌≡◌, ℕ, ◌+◌, ◌-◌, ◌*◌, ◌<◌, ◌≤◌, min, Bool, List, [], ◌∷◌, ◌++◌, length, map, take, drop, Result, Ok, Err, refl, sym, ap, ◌∙◌, subst, arith}
use Rattle.std.specs.Prelude.{OnOk}
use Rattle.std.specs.Int.{div_ceil}
use Rattle.std.specs.List.{concat, range_with_len}
use Rattle.std.proofs.Math.ListN.{drop_of_length-le}
use Rattle.std.proofs.Math.Seq.{drop-append_seam, take-append_seam}
use Rattle.std.proofs.lemmas.Grind.{div_ceil_times}
use Rattle.std.proofs.lemmas.List.{append-nil, drop-drop, length-append, length-drop, take_min}
use Rattle.std.proofs.lemmas.List.Folds.{concat-append}
use Rattle.std.proofs.lemmas.List.FromFn.{map-range_with_len_more}
use Rattle.fabric.specs.Words.{Coll, MOST_SHARE}
use Rattle.mini_mpi.specs.Collecting.{Collects, CollectsAll, CollectsAt, CollectsBytes, Standing, filled_at, piece_at}

-- another piece begins within the bytes
pub within : (len n : ℕ) → n < div_ceil len MOST_SHARE → n * MOST_SHARE ≤ len
within len n below = let most = (div_ceil_times len MOST_SHARE (omega arith)).1 in omega (arith, below, most)

-- a piece ends where the bytes do, if they do before
pub cut : (bytes : List ℕ) (at end : ℕ) → end ≡ at + min MOST_SHARE (length bytes - at) → take (end - at) (drop at bytes) ≡ piece_at bytes at
cut bytes at end is =
    let long = length-drop at bytes in
    let count : end - at ≡ min MOST_SHARE (length (drop at bytes)) = omega (arith, is, long) in
    ap (λ (n : ℕ). take n (drop at bytes)) count ∙ take_min MOST_SHARE (drop at bytes)

module _ {Home : Type 0} where
  collects_on : (fixed : Bool) (coll : Coll) (pieces : List (List ℕ)) (piece : List ℕ) (a b c : Standing Home) (all : List (List ℕ)) (bytes : List ℕ) → CollectsAll fixed coll pieces a b all
      → Collects fixed coll piece b c bytes → CollectsAll fixed coll (pieces ++ piece ∷ []) a c (all ++ bytes ∷ [])
  collects_on fixed coll [] piece a b c all bytes (same, none) one =
      (c, bytes, [], subst (λ (s : Standing Home). Collects fixed coll piece s c bytes) same one, (refl, refl), ap (λ (xs : List (List ℕ)). xs ++ bytes ∷ []) none)
  collects_on fixed coll (first ∷ pieces) piece a b c all bytes (mid, its, rest, took, more, is) one =
      (mid, its, rest ++ bytes ∷ [], took, collects_on fixed coll pieces piece mid b c rest bytes more one, ap (λ (xs : List (List ℕ)). xs ++ bytes ∷ []) is)

  pub record Pieced (fixed : Bool) (coll : Coll) (n : ℕ) (own bytes : List ℕ) (old new : Standing Home) : Type 0 where
    pub all : List (List ℕ)
    pub each : CollectsAll fixed coll (map (λ k. piece_at own (k * MOST_SHARE)) (range_with_len 0 n)) old new all
    pub so_far : bytes ≡ concat all ++ drop (n * MOST_SHARE) own
    pub long : n * MOST_SHARE ≤ length own → length (concat all) ≡ n * MOST_SHARE

  pub none_pieced : (fixed : Bool) (coll : Coll) (own : List ℕ) (s : Standing Home) → Pieced fixed coll 0 own own s s
  none_pieced fixed coll own s = record { all = []; each = (refl, refl); so_far = refl; long = λ _. refl }

  -- there is room for what is left
  pub rests : (fixed : Bool) (coll : Coll) (n : ℕ) (own bytes : List ℕ) (old new : Standing Home) → Pieced fixed coll n own bytes old new → n * MOST_SHARE ≤ length own → length bytes ≡ length own
  rests fixed coll n own bytes old new p within =
      let sum = ap (λ (xs : List ℕ). length xs) p.so_far ∙ length-append (concat p.all) (drop (n * MOST_SHARE) own) in
      let behind = length-drop (n * MOST_SHARE) own in
      let long = p.long within in
      omega (arith, sum, behind, long, within)

  pub one_piece : (fixed : Bool) (coll : Coll) (n : ℕ) (own before after : List ℕ) (a b c : Standing Home) → Pieced fixed coll n own before a b → n * MOST_SHARE ≤ length own
      → CollectsAt fixed coll (n * MOST_SHARE) before after b c → Pieced fixed coll (n + 1) own after a c
  one_piece fixed coll n own before after a b c p within one =
      let at = n * MOST_SHARE in
      let long : length (concat p.all) ≡ n * MOST_SHARE = p.long within in
      let rest : drop at before ≡ drop at own
      = ap (λ (xs : List ℕ). drop at xs) p.so_far ∙ ap (λ (j : ℕ). drop j (concat p.all ++ drop at own)) (sym long) ∙ drop-append_seam (concat p.all) (drop at own) in
      let front : take at before ≡ concat p.all
      = ap (λ (xs : List ℕ). take at xs) p.so_far ∙ ap (λ (j : ℕ). take j (concat p.all ++ drop at own)) (sym long) ∙ take-append_seam (concat p.all) (drop at own) in
      let past : drop (at + MOST_SHARE) before ≡ drop (at + MOST_SHARE) own
      = sym (drop-drop MOST_SHARE at before) ∙ ap (λ (xs : List ℕ). drop MOST_SHARE xs) rest ∙ drop-drop MOST_SHARE at own in
      let next : at + MOST_SHARE ≡ (n + 1) * MOST_SHARE = omega arith in
      let joined : concat (p.all ++ one.given ∷ []) ≡ concat p.all ++ one.given
      = concat-append p.all (one.given ∷ []) ∙ ap (λ (xs : List ℕ). concat p.all ++ xs) (append-nil one.given) in
      let total = ap (λ (xs : List ℕ). length xs) joined ∙ length-append (concat p.all) one.given in
      let given = one.long in
      let same = rests fixed coll n own before a b p within in
      record {
        all = p.all ++ one.given ∷ [];
        each = subst (λ (pieces : List (List ℕ)). CollectsAll fixed coll pieces a c (p.all ++ one.given ∷ [])) (sym (map-range_with_len_more (λ (k : ℕ). piece_at own (k * MOST_SHARE)) 0 n n (omega arith)))
            (collects_on fixed coll (map (λ k. piece_at own (k * MOST_SHARE)) (range_with_len 0 n)) (piece_at own at) a b c p.all one.given p.each
            (subst (λ (xs : List ℕ). Collects fixed coll (take MOST_SHARE xs) b c one.given) rest one.collects));
        so_far = one.filled
            ∙ ap (λ (xs : List ℕ). xs ++ one.given ++ drop (at + MOST_SHARE) before) front
            ∙ ap (λ (xs : List ℕ). concat p.all ++ one.given ++ xs) past
            ∙ ap (λ (xs : List ℕ). xs ++ drop (at + MOST_SHARE) own) (sym joined)
            ∙ ap (λ (j : ℕ). concat (p.all ++ one.given ∷ []) ++ drop j own) next;
        long = λ whole. omega (arith, total, given, long, same, whole);
      }

  pub all_pieced : (fixed : Bool) (coll : Coll) (own bytes : List ℕ) (old new : Standing Home) → Pieced fixed coll (div_ceil (length own) MOST_SHARE) own bytes old new
      → CollectsBytes fixed coll own old new bytes
  all_pieced fixed coll own bytes old new p = record {
    all = p.all;
    each = p.each;
    joined = p.so_far ∙ ap (λ (xs : List ℕ). concat p.all ++ xs) (drop_of_length-le own (div_ceil_times (length own) MOST_SHARE (omega arith)).0) ∙ append-nil (concat p.all);
  }

  -- what was collected is copied over its place, or the call fails
  pub placed : {T E : Type 0} (fixed : Bool) (coll : Coll) (at : ℕ) (before after given bytes : List ℕ) (a b : Standing Home) (r : Result T E) → bytes ≡ given
      → Collects fixed coll (piece_at before at) a b given → OnOk r (length bytes ≡ min MOST_SHARE (length before - at)) → OnOk r (after ≡ filled_at before at bytes)
      → OnOk r (CollectsAt fixed coll at before after a b)
  placed fixed coll at before after given bytes a b (Ok done) same one long filled = record {
    given = bytes;
    collects = subst (λ (xs : List ℕ). Collects fixed coll (piece_at before at) a b xs) (sym same) one;
    long = long;
    filled = filled;
  }
  placed fixed coll at before after given bytes a b (Err why) same one long filled = tt

  pub copied : {T E : Type 0} (fixed : Bool) (coll : Coll) (own after given bytes : List ℕ) (a b : Standing Home) (P : Type 0) (r : Result T E) → bytes ≡ given → Collects fixed coll own a b given
      → OnOk r ((after ≡ bytes) × P) → OnOk r (Collects fixed coll own a b after)
  copied fixed coll own after given bytes a b P (Ok done) same one is = subst (λ (xs : List ℕ). Collects fixed coll own a b xs) (sym (is.0 ∙ same)) one
  copied fixed coll own after given bytes a b P (Err why) same one is = tt

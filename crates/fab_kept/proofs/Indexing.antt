-- The index has the places of each context, as completions come and are taken out.
use Rattle.std.proofs.Common.{◌≡◌, ◌≢◌, ℕ, ◌+◌, ◌<◌, Bool, true, false, nat_eq, cond, List, [], ◌∷◌, ◌++◌, length, length-set, get_or, get_or-set_other, set, Option, Some, None, refl, sym, ap, subst, ◌∙◌, append-nil, arith}
use Rattle.std.specs.Prelude.{option_to_list, nat_lt, Result, Ok, Err, OnOk, OnErr, IfNone}
use Rattle.std.specs.Option.{option_eq, unwrap_or}
use Rattle.std.specs.HashMap.{get}
use Rattle.std.specs.Map.{lookup}
use Rattle.std.proofs.lemmas.Bool.{lt-ltb}
use Rattle.std.proofs.lemmas.Bool.Decides.{nat_tests}
use Rattle.std.proofs.lemmas.Grind.{get_or-set_at}
use Rattle.fab_base.specs.declared.entries.Kept.{Kept}
use Rattle.fab_model.specs.Peers.{ctx_of, is_of_ctx, same_ctx}
use Rattle.fab_kept.specs.Places.{places_of, Queues, queue_of, IsIndexed, Agrees, Puts, Pops}
use Rattle.fab_kept.specs.Indices.{is_low, places_among}
use Rattle.fab_kept.proofs.Places.{IsFirst, first_place, last_place, places_push}

-- ---- contexts

same_is : (c d : Option ℕ) → same_ctx c d ≡ true → c ≡ d
same_is None None e = refl
same_is None (Some b) e = absurd (cc)
same_is (Some a) None e = absurd (cc)
same_is (Some a) (Some b) e = let same : a ≡ b = grind (arith, nat_tests) in ap Some same

-- the map's test of two keys
keys_same : (c d : Option ℕ) → option_eq nat_eq c d ≡ same_ctx d c
keys_same None None = refl
keys_same None (Some b) = refl
keys_same (Some a) None = refl
keys_same (Some a) (Some b) = let same : nat_eq a b ≡ nat_eq b a = grind (arith, nat_tests) in same

-- ---- what each context has

module _ (m n : Option ℕ → List ℕ) (ctx : Option ℕ) where
  same_if : (c : Option ℕ) (b : Bool) (ps : List ℕ) → same_ctx c ctx ≡ b → ps ≡ m ctx → cond b ps (m c) ≡ m c
  same_if c true ps t e = e ∙ ap m (sym (same_is c ctx t))
  same_if c false ps t e = refl

  -- what the context had is put again
  pub agrees : (ps : List ℕ) → Puts m n ctx ps → ps ≡ m ctx → Agrees m n
  agrees ps puts e c = puts c ∙ same_if c (same_ctx c ctx) ps refl e

  -- what became of the queue q of the context, when w was put in its place
  pub put_ok : {T E : Type 0} (r : Result T E) (q w : List ℕ) (place : ℕ) → m ctx ≡ q → Puts m n ctx w → OnOk r (w ≡ q ++ place ∷ []) → OnOk r (Puts m n ctx (m ctx ++ place ∷ []))
  put_ok (Ok x) q w place had up e = subst (λ ps. Puts m n ctx ps) (e ∙ ap (λ ps. ps ++ place ∷ []) (sym had)) up
  put_ok (Err x) q w place had up e = tt

  pub put_err : {T E : Type 0} (r : Result T E) (q w : List ℕ) → m ctx ≡ q → Puts m n ctx w → OnErr r (w ≡ q) → OnErr r (Agrees m n)
  put_err (Ok x) q w had up e = tt
  put_err (Err x) q w had up e = agrees w up (e ∙ sym had)

  pub popped : (o : Option ℕ) (q w : List ℕ) → m ctx ≡ q → Puts m n ctx w → q ≡ option_to_list o ++ w → IfNone o (q ≡ []) → Pops m n ctx o
  popped None q w had up e none = (had ∙ none, agrees w up (sym e ∙ sym had))
  popped (Some place) q w had up e none = (w, had ∙ e, up)

-- ---- the map

module _ {S : Type 0} (m n : Queues S) (ctx : Option ℕ) where
  -- these places were written under the context
  abbrev pub Written : List ℕ → Type 0
  Written ps = (c : Option ℕ) → get (option_eq nat_eq) n c ≡ cond (option_eq nat_eq ctx c) (Some ps) (get (option_eq nat_eq) m c)

  queue_if : (b : Bool) (ps : List ℕ) (o : Option (List ℕ)) → unwrap_or (cond b (Some ps) o) [] ≡ cond b ps (unwrap_or o [])
  queue_if true ps o = refl
  queue_if false ps o = refl

  pub written : (ps : List ℕ) → Written ps → Puts (queue_of m) (queue_of n) ctx ps
  written ps up c =
      ap (λ o. unwrap_or o []) (up c) ∙ queue_if (option_eq nat_eq ctx c) ps (get (option_eq nat_eq) m c)
      ∙ ap (λ b. cond b ps (queue_of m c)) (keys_same ctx c)

  pub unchanged : n.entries ≡ m.entries → Agrees (queue_of m) (queue_of n)
  unchanged e c = ap (λ es. unwrap_or (lookup (option_eq nat_eq c) es) []) e

  -- a queue of one place was put where there was none
  pub fresh : (before : Queues S) (value : List ℕ) (place : ℕ) → before ≡ m → get (option_eq nat_eq) m ctx ≡ None → value ≡ place ∷ []
      → ((c : Option ℕ) → get (option_eq nat_eq) n c ≡ cond (option_eq nat_eq ctx c) (Some value) (get (option_eq nat_eq) before c))
      → Puts (queue_of m) (queue_of n) ctx (queue_of m ctx ++ place ∷ [])
  fresh before value place same none is up =
      let put : Written value = subst (λ (k : Queues S). (c : Option ℕ) → get (option_eq nat_eq) n c ≡ cond (option_eq nat_eq ctx c) (Some value) (get (option_eq nat_eq) k c)) same up in
      let empty : queue_of m ctx ≡ [] = ap (λ o. unwrap_or o []) none in
      subst (λ ps. Puts (queue_of m) (queue_of n) ctx ps) (is ∙ ap (λ ps. ps ++ place ∷ []) (sym empty)) (written value put)

-- ---- the row

-- who is low is no other who is not
low_apart : (n d : ℕ) (ctx : Option ℕ) (s : Bool) → same_ctx (Some d) ctx ≡ s → is_low n ctx ≡ false → nat_lt d n ≡ true → s ≡ false
low_apart n d ctx true e apart low = absurd (let same = ap (is_low n) (same_is (Some d) ctx e) in cc)
low_apart n d ctx false e apart low = refl

exchanged : (low same : Bool) (own q other : List ℕ) → (low ≡ true → same ≡ false) → cond low own (cond same q other) ≡ cond same q (cond low own other)
exchanged true same own q other apart = sym (ap (λ b. cond b q own) (apart refl))
exchanged false same own q other apart = refl

module _ {S : Type 0} (row : List (List ℕ)) (map : Queues S) where
  -- a low context has its queue
  pub low_has : (ctx : ℕ) → ctx < length row → places_among row map (Some ctx) ≡ get_or row ctx []
  low_has ctx within = ap (λ b. cond b (get_or row ctx []) (queue_of map (Some ctx))) (lt-ltb ctx (length row) within)

  row_at : (ctx : ℕ) (q : List ℕ) → ctx < length row → (d : ℕ) (b : Bool) → nat_eq d ctx ≡ b
      → cond (nat_lt d (length (set row ctx q))) (get_or (set row ctx q) d []) (queue_of map (Some d)) ≡ cond b q (places_among row map (Some d))
  row_at ctx q within d true e =
      let same : d ≡ ctx = grind (arith, nat_tests) in
      let long = length-set row ctx q in
      ap (λ b. cond b (get_or (set row ctx q) d []) (queue_of map (Some d))) (lt-ltb d (length (set row ctx q)) (omega (arith, same, long, within))) ∙ get_or-set_at row ctx d q [] same within
  row_at ctx q within d false e =
      let apart : d ≢ ctx = λ same. (let no : ⊥ = grind (arith, nat_tests, same) in no) in
      ap (λ n. cond (nat_lt d n) (get_or (set row ctx q) d []) (queue_of map (Some d))) (length-set row ctx q)
      ∙ ap (λ v. cond (nat_lt d (length row)) v (queue_of map (Some d))) (get_or-set_other row ctx d q [] apart)

  -- which is replaced
  pub row_put : (ctx : ℕ) (q : List ℕ) → ctx < length row → Puts (places_among row map) (places_among (set row ctx q) map) (Some ctx) q
  row_put ctx q within None = refl
  row_put ctx q within (Some d) = row_at ctx q within d (nat_eq d ctx) refl

  -- another context's is replaced in the map
  pub map_put : (map' : Queues S) (ctx : Option ℕ) (q : List ℕ) → is_low (length row) ctx ≡ false → Puts (queue_of map) (queue_of map') ctx q → Puts (places_among row map) (places_among row map') ctx q
  map_put map' ctx q apart puts None = puts None
  map_put map' ctx q apart puts (Some d) =
      ap (λ ps. cond (nat_lt d (length row)) (get_or row d []) ps) (puts (Some d))
      ∙ exchanged (nat_lt d (length row)) (same_ctx (Some d) ctx) (get_or row d []) q (queue_of map (Some d)) (low_apart (length row) d ctx (same_ctx (Some d) ctx) refl apart)

  pub map_agrees : (map' : Queues S) → Agrees (queue_of map) (queue_of map') → Agrees (places_among row map) (places_among row map')
  map_agrees map' same None = same None
  map_agrees map' same (Some d) = ap (λ ps. cond (nat_lt d (length row)) (get_or row d []) ps) (same (Some d))

  -- a context that is not low has what the map has
  pub map_has : (ctx : Option ℕ) → is_low (length row) ctx ≡ false → places_among row map ctx ≡ queue_of map ctx
  map_has None apart = refl
  map_has (Some d) apart = ap (λ b. cond b (get_or row d []) (queue_of map (Some d))) apart

  pub elsewhere_ok : {T E : Type 0} (r : Result T E) (map' : Queues S) (ctx : Option ℕ) (place : ℕ) → is_low (length row) ctx ≡ false
      → OnOk r (Puts (queue_of map) (queue_of map') ctx (queue_of map ctx ++ place ∷ []))
      → OnOk r (Puts (places_among row map) (places_among row map') ctx (places_among row map ctx ++ place ∷ []))
  elsewhere_ok (Ok x) map' ctx place apart puts =
      subst (λ ps. Puts (places_among row map) (places_among row map') ctx (ps ++ place ∷ [])) (sym (map_has ctx apart)) (map_put map' ctx (queue_of map ctx ++ place ∷ []) apart puts)
  elsewhere_ok (Err x) map' ctx place apart puts = tt

  pub elsewhere_err : {T E : Type 0} (r : Result T E) (map' : Queues S) → OnErr r (Agrees (queue_of map) (queue_of map')) → OnErr r (Agrees (places_among row map) (places_among row map'))
  elsewhere_err (Ok x) map' same = tt
  elsewhere_err (Err x) map' same = map_agrees map' same

  pub elsewhere_pops : (o : Option ℕ) (map' : Queues S) (ctx : Option ℕ) → is_low (length row) ctx ≡ false → Pops (queue_of map) (queue_of map') ctx o → Pops (places_among row map) (places_among row map') ctx o
  elsewhere_pops None map' ctx apart pops = (map_has ctx apart ∙ pops.0, map_agrees map' pops.1)
  elsewhere_pops (Some place) map' ctx apart pops = (pops.0, map_has ctx apart ∙ pops.1, map_put map' ctx pops.0 apart pops.2)

-- ---- completions

module _ (xs : List (Option Kept)) (index index' : Option ℕ → List ℕ) (is : IsIndexed xs index) where
  pub stays : Agrees index index' → IsIndexed xs index'
  stays same c = same c ∙ is c

  put_if : (b : Bool) (ps qs : List ℕ) (place : ℕ) → (b ≡ true → qs ≡ ps) → cond b (qs ++ place ∷ []) ps ≡ ps ++ cond b (place ∷ []) []
  put_if true ps qs place e = ap (λ xs. xs ++ place ∷ []) (e refl)
  put_if false ps qs place e = sym (append-nil ps)

  pub pushed : (k : Kept) (ctx : Option ℕ) (place : ℕ) → ctx ≡ ctx_of k.entry → place ≡ length xs → Puts index index' ctx (index ctx ++ place ∷ []) → IsIndexed (xs ++ Some k ∷ []) index'
  pushed k ctx place of_k last puts c =
      let number : place ≡ 0 + length xs = omega (arith, last) in
      puts c
      ∙ put_if (same_ctx c ctx) (index c) (index ctx) place (λ t. ap index (sym (same_is c ctx t)))
      ∙ ap (λ ps. ps ++ cond (same_ctx c ctx) (place ∷ []) []) (is c)
      ∙ ap (λ d. places_of c xs ++ cond (same_ctx c d) (place ∷ []) []) of_k
      ∙ ap (λ p. places_of c xs ++ last_place (is_of_ctx c) k p) number
      ∙ sym (places_push (is_of_ctx c) 0 xs k)

  module _ (ctx : Option ℕ) (place : ℕ) (pops : Pops index index' ctx (Some place)) where
    abbrev pub left : List ℕ
    left = pops.0

    pub first_of : IsFirst (is_of_ctx ctx) 0 xs place left
    first_of = first_place (is_of_ctx ctx) xs place left (sym (is ctx) ∙ pops.1)

    left_if : (c : Option ℕ) (b : Bool) → same_ctx c ctx ≡ b → cond b left (index c) ≡ places_of c (set xs place None)
    left_if c true t = sym first_of.own ∙ ap (λ d. places_of d (set xs place None)) (sym (same_is c ctx t))
    left_if c false t =
        is c ∙ sym (first_of.others (is_of_ctx c) (λ k e. subst (λ d. same_ctx c d ≡ false) (same_is ctx (ctx_of k.entry) e) t))

    pub popped_left : IsIndexed (set xs place None) index'
    popped_left c = pops.2 c ∙ left_if c (same_ctx c ctx) refl

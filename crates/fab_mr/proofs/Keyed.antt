-- The entries of a map, seen as the machine's list of regions.
use Rattle.std.proofs.Common.{◌≡◌, ◌≢◌, ℕ, ◌+◌, Bool, true, false, cond, nat_eq, List, [], ◌∷◌, ◌++◌, length, take, drop, Option, Some, None, refl, sym, ap, subst, ◌∙◌, arith}
use Rattle.std.specs.Prelude.{◌==◌, nat_lt, is_some, if◌then◌else◌, MatchOption, OnOk, OnErr, Result, Ok, Err}
use Rattle.std.specs.Option.{option_map, option_or}
use Rattle.std.specs.Map.{lookup, remove_entry, set_value}
use Rattle.std.proofs.lemmas.Bool.Decides.{nat_tests}
use Rattle.std.proofs.lemmas.Map.Steps.{set_value_same}
use Rattle.std.proofs.lemmas.List.Folds.{find-append}
use Rattle.std.proofs.lemmas.List.{map-append}
use Rattle.fab_base.specs.declared.items.Access.{Access}
use Rattle.fab_base.specs.declared.faults.Fault.{Fault}
use Rattle.fab_base.specs.declared.faults.Fault.TheVariants.{NoKey, Range}
use Rattle.fab_model.specs.State.{Region}
use Rattle.fab_model.specs.Matching.{change_first, remove_first}
use Rattle.fab_model.specs.Target.{is_keyed, put_range}
use Rattle.fab_mr.specs.declared.regions.Held.{Held}
use Rattle.fab_mr.specs.Regions.{region, region_at, regions_of, reaches_past, KeepsOthers}

key_of_true : (key k : ℕ) → nat_eq key k ≡ true → k ≡ key
key_of_true key k e = grind (arith, nat_tests)

eq_swap : (key k : ℕ) (b : Bool) → nat_eq key k ≡ b → (k == key) ≡ b
eq_swap key k true e = grind (arith, nat_tests)
eq_swap key k false e = grind (arith, nat_tests)

-- the region of an entry, under this key
abbrev pub held_region : ℕ → Held → Region
held_region key h = region key h.access h.buf

-- the entry's value with bytes written over
abbrev pub with_range : ℕ → List ℕ → Held → Held
with_range at bytes h = record h { buf = take at h.buf ++ bytes ++ drop (at + length bytes) h.buf }

module _ (key : ℕ) where
  at_step : (e : ℕ × Held) (es : List (ℕ × Held)) (b : Bool) → nat_eq key e.0 ≡ b → region_at (regions_of es) key ≡ option_map (held_region key) (lookup (nat_eq key) es)
      → region_at (regions_of (e ∷ es)) key ≡ option_map (held_region key) (lookup (nat_eq key) (e ∷ es))
  at_step e es true t more = rw (t, eq_swap key e.0 true t) (ap (λ k. Some (held_region k e.1)) (key_of_true key e.0 t))
  at_step e es false t more = rw (t, eq_swap key e.0 false t) more

  -- a key names what the map has there
  pub region_at-regions_of : (es : List (ℕ × Held)) → region_at (regions_of es) key ≡ option_map (held_region key) (lookup (nat_eq key) es)
  region_at-regions_of [] = refl
  region_at-regions_of (e ∷ es) = at_step e es (nat_eq key e.0) refl (region_at-regions_of es)

  removed_step : (e : ℕ × Held) (es : List (ℕ × Held)) (b : Bool) → nat_eq key e.0 ≡ b → remove_first (is_keyed key) (regions_of es) ≡ regions_of (remove_entry (nat_eq key) es)
      → remove_first (is_keyed key) (regions_of (e ∷ es)) ≡ regions_of (remove_entry (nat_eq key) (e ∷ es))
  removed_step e es true t more = rw (t, remove_first, eq_swap key e.0 true t) refl
  removed_step e es false t more = rw (t, remove_first, eq_swap key e.0 false t) (ap (λ xs. held_region e.0 e.1 ∷ xs) more)

  -- the list without the key's region is that of the map without the key
  pub remove_first-regions_of : (es : List (ℕ × Held)) → remove_first (is_keyed key) (regions_of es) ≡ regions_of (remove_entry (nat_eq key) es)
  remove_first-regions_of [] = refl
  remove_first-regions_of (e ∷ es) = removed_step e es (nat_eq key e.0) refl (remove_first-regions_of es)

  module _ (at : ℕ) (bytes : List ℕ) (h : Held) where
    changed_step : (e : ℕ × Held) (es : List (ℕ × Held)) (b : Bool) → nat_eq key e.0 ≡ b → cond b (Some e.1) (lookup (nat_eq key) es) ≡ Some h
        → (lookup (nat_eq key) es ≡ Some h → change_first (is_keyed key) (put_range at bytes) (regions_of es) ≡ regions_of (set_value (nat_eq key) es (with_range at bytes h)))
        → change_first (is_keyed key) (put_range at bytes) (regions_of (e ∷ es)) ≡ regions_of (set_value (nat_eq key) (e ∷ es) (with_range at bytes h))
    changed_step e es true t found more =
        let same : e.1 ≡ h = cc in
        rw (t, change_first, eq_swap key e.0 true t) (ap (λ v. held_region e.0 (with_range at bytes v) ∷ regions_of es) same)
    changed_step e es false t found more = rw (t, change_first, eq_swap key e.0 false t) (ap (λ xs. held_region e.0 e.1 ∷ xs) (more found))

    -- the list with the key's bytes written over is that of the map with the value so changed
    pub change_first-regions_of : (es : List (ℕ × Held)) → lookup (nat_eq key) es ≡ Some h
        → change_first (is_keyed key) (put_range at bytes) (regions_of es) ≡ regions_of (set_value (nat_eq key) es (with_range at bytes h))
    change_first-regions_of [] found = absurd (cc)
    change_first-regions_of (e ∷ es) found = changed_step e es (nat_eq key e.0) refl found (change_first-regions_of es)

-- ---- the list as a map

module _ (key : ℕ) (f : Region → Region) (keeps : (r : Region) → (f r).key ≡ r.key) where
  written_step : (x : Region) (xs : List Region) (b : Bool) → is_keyed key x ≡ b → region_at (change_first (is_keyed key) f xs) key ≡ option_map f (region_at xs key)
      → region_at (change_first (is_keyed key) f (x ∷ xs)) key ≡ option_map f (region_at (x ∷ xs) key)
  written_step x xs true t more = rw (t, change_first) (let u : is_keyed key (f x) ≡ true = rw (keeps x) t in rw u refl)
  written_step x xs false t more = rw (t, change_first) (rw t more)

  -- the key names its region, changed
  pub region_at-change_first : (xs : List Region) → region_at (change_first (is_keyed key) f xs) key ≡ option_map f (region_at xs key)
  region_at-change_first [] = refl
  region_at-change_first (x ∷ xs) = written_step x xs (is_keyed key x) refl (region_at-change_first xs)

  module _ (other : ℕ) (apart : other ≢ key) where
    kept_step : (x : Region) (xs : List Region) (b : Bool) → is_keyed key x ≡ b → region_at (change_first (is_keyed key) f xs) other ≡ region_at xs other
        → region_at (change_first (is_keyed key) f (x ∷ xs)) other ≡ region_at (x ∷ xs) other
    kept_step x xs true t more =
        let u : is_keyed other x ≡ false = grind (arith, nat_tests) in
        let v : is_keyed other (f x) ≡ false = rw (keeps x) u in
        rw (t, change_first) (rw (u, v) refl)
    kept_step x xs false t more = rw (t, change_first) (ap (λ o. cond (is_keyed other x) (Some x) o) more)

  kept : (other : ℕ) → other ≢ key → (xs : List Region) → region_at (change_first (is_keyed key) f xs) other ≡ region_at xs other
  kept other apart [] = refl
  kept other apart (x ∷ xs) = kept_step other apart x xs (is_keyed key x) refl (kept other apart xs)

  pub KeepsOthers-change_first : (xs : List Region) → KeepsOthers key xs (change_first (is_keyed key) f xs)
  KeepsOthers-change_first xs other apart = kept other apart xs

module _ (key other : ℕ) (apart : other ≢ key) where
  left_step : (x : Region) (xs : List Region) (b : Bool) → is_keyed key x ≡ b → region_at (remove_first (is_keyed key) xs) other ≡ region_at xs other
      → region_at (remove_first (is_keyed key) (x ∷ xs)) other ≡ region_at (x ∷ xs) other
  left_step x xs true t more =
      let u : is_keyed other x ≡ false = grind (arith, nat_tests) in
      rw (t, remove_first) (rw u refl)
  left_step x xs false t more = rw (t, remove_first) (ap (λ o. cond (is_keyed other x) (Some x) o) more)

  left : (xs : List Region) → region_at (remove_first (is_keyed key) xs) other ≡ region_at xs other
  left [] = refl
  left (x ∷ xs) = left_step x xs (is_keyed key x) refl (left xs)

pub KeepsOthers-remove_first : (key : ℕ) (xs : List Region) → KeepsOthers key xs (remove_first (is_keyed key) xs)
KeepsOthers-remove_first key xs other apart = left key other apart xs

option_or-None : {X : Type 0} (o : Option X) → option_or o None ≡ o
option_or-None None = refl
option_or-None (Some x) = refl

-- a region joins the list
pub KeepsOthers-append : (key : ℕ) (access : Access) (bytes : List ℕ) (xs : List Region) → KeepsOthers key xs (xs ++ region key access bytes ∷ [])
KeepsOthers-append key access bytes xs other apart =
    let u : (key == other) ≡ false = grind (arith, nat_tests) in
    find-append (is_keyed other) xs (region key access bytes ∷ []) ∙ rw u (option_or-None (region_at xs other))

pub region_at-append : (key : ℕ) (access : Access) (bytes : List ℕ) (xs : List Region) → region_at xs key ≡ None → region_at (xs ++ region key access bytes ∷ []) key ≡ Some (region key access bytes)
region_at-append key access bytes xs none =
    let u : (key == key) ≡ true = grind (arith, nat_tests) in
    find-append (is_keyed key) xs (region key access bytes ∷ []) ∙ rw (none, u) refl

-- ---- what is read of a region

module _ {X : Type 0} (of_held : Held → X) (of_region : Region → X) (key : ℕ) (same : (h : Held) → of_held h ≡ of_region (held_region key h)) where
  read : (o : Option Held) → option_map of_held o ≡ option_map of_region (option_map (held_region key) o)
  read None = refl
  read (Some h) = ap (λ x. Some x) (same h)

  -- what is read of the map's value is what is read of the region
  pub read_at : (es : List (ℕ × Held)) (regions : List Region) → regions_of es ≡ regions → option_map of_held (lookup (nat_eq key) es) ≡ option_map of_region (region_at regions key)
  read_at es regions view = read (lookup (nat_eq key) es) ∙ ap (option_map of_region) (sym (region_at-regions_of key es)) ∙ ap (λ rs. option_map of_region (region_at rs key)) view

-- ---- the calls, over the map's entries before and after and the list that they are seen as

module _ (key : ℕ) (es : List (ℕ × Held)) (regions : List Region) (view : regions_of es ≡ regions) where
  pub found_at : option_map (held_region key) (lookup (nat_eq key) es) ≡ region_at regions key
  found_at = sym (region_at-regions_of key es) ∙ ap (λ rs. region_at rs key) view

  pub closed_rest : (new : List (ℕ × Held)) → new ≡ remove_entry (nat_eq key) es → regions_of new ≡ remove_first (is_keyed key) regions
  closed_rest new entries = ap regions_of entries ∙ sym (remove_first-regions_of key es) ∙ ap (remove_first (is_keyed key)) view

  pub joined_rest : (new : List (ℕ × Held)) (h : Held) → new ≡ es ++ (key, h) ∷ [] → regions_of new ≡ regions ++ held_region key h ∷ []
  joined_rest new h entries = ap regions_of entries ∙ map-append (λ e. region e.0 e.1.access e.1.buf) es ((key, h) ∷ []) ∙ ap (λ rs. rs ++ held_region key h ∷ []) view

  pub put_rest : (new : List (ℕ × Held)) (at : ℕ) (bytes : List ℕ) (h w : Held) → lookup (nat_eq key) es ≡ Some h → w ≡ with_range at bytes h → new ≡ set_value (nat_eq key) es w
      → regions_of new ≡ change_first (is_keyed key) (put_range at bytes) regions
  put_rest new at bytes h w there changed entries =
      ap regions_of entries ∙ ap (λ v. regions_of (set_value (nat_eq key) es v)) changed ∙ sym (change_first-regions_of key at bytes h es there) ∙ ap (change_first (is_keyed key) (put_range at bytes)) view

  used : (o : Option Held) → is_some o ≡ true → option_map (held_region key) o ≡ region_at regions key → region_at regions key ≡ None → ⊥
  used None some same none = absurd (cc)
  used (Some h) some same none = absurd (cc)

  unused : (o : Option Held) → is_some o ≡ false → option_map (held_region key) o ≡ region_at regions key → (o ≡ None) × (region_at regions key ≡ None)
  unused None some same = (refl, sym same)
  unused (Some h) some same = absurd (cc)

  -- a key of the map is in use, and another is free
  pub in_use_from : is_some (lookup (nat_eq key) es) ≡ true → region_at regions key ≡ None → ⊥
  in_use_from some = used (lookup (nat_eq key) es) some found_at

  pub free_from : is_some (lookup (nat_eq key) es) ≡ false → (lookup (nat_eq key) es ≡ None) × (region_at regions key ≡ None)
  free_from some = unused (lookup (nat_eq key) es) some found_at

-- ---- what `put` promises

pub record Puts (key at : ℕ) (src : List ℕ) (regions new : List Region) (result : Result (Unit {0}) Fault) : Type 0 where
  pub answer : MatchOption (region_at regions key) (result ≡ Err NoKey) (λ r. result ≡ (if reaches_past r at (length src) then Err Range else Ok tt))
  pub ok : OnOk result (new ≡ change_first (is_keyed key) (put_range at src) regions)
  pub err : OnErr result (new ≡ regions)
  pub written : OnOk result (region_at new key ≡ option_map (put_range at src) (region_at regions key))
  pub others : KeepsOthers key regions new

module _ (key at : ℕ) (src : List ℕ) (es : List (ℕ × Held)) (regions : List Region) (view : regions_of es ≡ regions) where
  pub puts_missing : (result : Result (Unit {0}) Fault) (new : List (ℕ × Held)) → lookup (nat_eq key) es ≡ None → result ≡ Err NoKey → new ≡ es → Puts key at src regions (regions_of new) result
  puts_missing result new none refused same =
      let still : regions_of new ≡ regions = ap regions_of same ∙ view in
      record {
        answer = rw (sym (found_at key es regions view), none) refused;
        ok = rw refused tt;
        err = rw refused still;
        written = rw refused tt;
        others = subst (KeepsOthers key regions) (sym still) (λ other apart. refl);
      }

  puts_step : (h w : Held) (result : Result (Unit {0}) Fault) (new : List (ℕ × Held)) (b : Bool) → nat_lt (length h.buf) (at + length src) ≡ b → lookup (nat_eq key) es ≡ Some h
      → result ≡ (if nat_lt (length h.buf) (at + length src) then Err Range else Ok tt) → OnOk result (w ≡ with_range at src h) → OnErr result (w ≡ h) → new ≡ set_value (nat_eq key) es w
      → Puts key at src regions (regions_of new) result
  puts_step h w result new true t there answer ok err entries =
      let refused : result ≡ Err Range = rw t at answer in
      let same : w ≡ h = rw refused at err in
      let still : regions_of new ≡ regions = ap regions_of (entries ∙ set_value_same (nat_eq key) es w (there ∙ ap (λ x. Some x) (sym same))) ∙ view in
      record {
        answer = rw (sym (found_at key es regions view), there) answer;
        ok = rw refused tt;
        err = rw refused still;
        written = rw refused tt;
        others = subst (KeepsOthers key regions) (sym still) (λ other apart. refl);
      }
  puts_step h w result new false t there answer ok err entries =
      let done : result ≡ Ok tt = rw t at answer in
      let changed : w ≡ with_range at src h = rw done at ok in
      let rest = put_rest key es regions view new at src h w there changed entries in
      record {
        answer = rw (sym (found_at key es regions view), there) answer;
        ok = rw done rest;
        err = rw done tt;
        written = rw done (ap (λ rs. region_at rs key) rest ∙ region_at-change_first key (put_range at src) (λ r. refl) regions);
        others = subst (KeepsOthers key regions) (sym rest) (KeepsOthers-change_first key (put_range at src) (λ r. refl) regions);
      }

  pub puts_found : (h w : Held) (result : Result (Unit {0}) Fault) (new : List (ℕ × Held)) → lookup (nat_eq key) es ≡ Some h
      → result ≡ (if nat_lt (length h.buf) (at + length src) then Err Range else Ok tt) → OnOk result (w ≡ with_range at src h) → OnErr result (w ≡ h) → new ≡ set_value (nat_eq key) es w
      → Puts key at src regions (regions_of new) result
  puts_found h w result new = puts_step h w result new (nat_lt (length h.buf) (at + length src)) refl

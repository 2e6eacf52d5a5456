-- A table is what its slab is, and what holds of it stays as values come and go.
use Rattle.std.proofs.Common.{◌≡◌, ◌≢◌, ℕ, ◌+◌, ◌<◌, ◌≤◌, ◌==◌, Bool, true, false, inl, inr, List, cond, ◌^◌, length, Option, Some, None, get_or, set, refl, sym, ap, subst, ◌∙◌, arith, length-set}
use Rattle.std.specs.Prelude.{IsSome, IsSomeAnd}
use Rattle.std.proofs.lemmas.Bool.{eq-eqb, eqb-true, eqb-false, ne_eqb, cases_lt as side}
use Rattle.std.proofs.lemmas.List.{ext_get_or, get_or-set_other, get_or-set_same, get_or_past, set-get_or, set-set}
use Rattle.std.proofs.lemmas.List.FromFn.{get_or-map-range_with_len, length-map-range_with_len}
use Rattle.slab.specs.Slab.{Slab, Updates, get, slab_len}
use Rattle.fab_rx.specs.Table.{Cells, IsTable, at, table_of}

pub some_and : {T : Type 0} (P : T → Type 0) (o : Option T) → IsSomeAnd o P → IsSome o
some_and P None none = absurd none
some_and P (Some x) there = refl

-- the ids stay as they are where a value comes or goes
pub same_ids : {T : Type 0} (old new : Cells T) (id : ℕ) (x : Option T) → new.cells ≡ set old.cells id x → length old.cells ≤ 2 ^ 32 → length new.cells ≤ 2 ^ 32
same_ids old new id x is few = rw (is, length-set) few

pub same_ids_if : {T : Type 0} (b : Bool) (old new : Cells T) (id : ℕ) (x : Option T) → new.cells ≡ cond b (set old.cells id x) old.cells → length old.cells ≤ 2 ^ 32 → length new.cells ≤ 2 ^ 32
same_ids_if true old new id x is few = same_ids old new id x is few
same_ids_if false old new id x is few = rw is few

-- a value that is put and taken out again leaves the cells as they were
pub undone : {T : Type 0} (old between new : Cells T) (id : ℕ) (x : T) → at old id ≡ None → between.cells ≡ set old.cells id (Some x) → new.cells ≡ set between.cells id None → new.cells ≡ old.cells
undone {T} old between new id x empty put took =
    took ∙ ap (λ (cs : List (Option T)). set cs id None) put ∙ set-set old.cells id (Some x) None ∙ ap (λ (o : Option T). set old.cells id o) (sym empty) ∙ set-get_or old.cells id None

module _ {T : Type 0} where
  pub cells_long : (s : Slab T) → length (table_of s).cells ≡ s.capacity
  cells_long s = length-map-range_with_len (get s) 0 s.capacity

  cell_below : (s : Slab T) (id : ℕ) → id < s.capacity → at (table_of s) id ≡ get s id
  cell_below s id below = get_or-map-range_with_len (get s) 0 s.capacity id id None below (omega arith)

  pub table_at : (s : Slab T) → IsTable s → (id : ℕ) → at (table_of s) id ≡ get s id
  table_at s table id = elim (side id s.capacity) [
    | inl below ↦ cell_below s id below
    | inr past ↦ get_or_past (table_of s).cells id None (rw (cells_long s) past) ∙ sym (table.beyond id past)
  ]

  -- an id that has a value is one for which there is memory
  pub used_within : (s : Slab T) → IsTable s → (id : ℕ) (x : T) → get s id ≡ Some x → id < s.capacity
  used_within s table id x e = elim (side id s.capacity) [
    | inl below ↦ below
    | inr past ↦ absurd (let no : None ≡ Some x = sym (table.beyond id past) ∙ e in cc)
  ]

  -- as many are stored as there is no room for
  pub counted : (s : Slab T) → IsTable s → slab_len s + (table_of s).spare ≡ length (table_of s).cells
  counted s table = let long = cells_long s in let within = table.within in omega arith

  pub empty_is : (s : Slab T) → IsTable s → (slab_len s == 0) ≡ ((table_of s).spare == length (table_of s).cells)
  empty_is s table = by (slab_len s == 0) refl
    where
      by : (b : Bool) → (slab_len s == 0) ≡ b → b ≡ ((table_of s).spare == length (table_of s).cells)
      by true e =
          let none : slab_len s ≡ 0 = eqb-true (slab_len s) 0 e in
          let all = counted s table in
          sym (eq-eqb (table_of s).spare (length (table_of s).cells) (omega arith))
      by false e =
          let all = counted s table in
          sym (ne_eqb (table_of s).spare (length (table_of s).cells) (λ same. eqb-false (slab_len s) 0 e (omega arith)))

  -- one id changes
  module _ (old new : Slab T) (id : ℕ) (slot : Option T) (updates : Updates old new id slot) (same : new.capacity ≡ old.capacity) where
    pub cells_updated : id < old.capacity → (table_of new).cells ≡ set (table_of old).cells id slot
    cells_updated below = ext_get_or None (table_of new).cells (set (table_of old).cells id slot) (cells_long new ∙ same ∙ sym (cells_long old) ∙ sym (length-set (table_of old).cells id slot))
        (λ i lt. by i (let is = cells_long new in omega arith) (i == id) refl)
      where
        by : (i : ℕ) → i < new.capacity → (b : Bool) → (i == id) ≡ b → get_or (table_of new).cells i None ≡ get_or (set (table_of old).cells id slot) i None
        by i lt true e =
            let is : i ≡ id = eqb-true i id e in
            cell_below new i lt ∙ ap (get new) is ∙ updates.changed ∙ sym (ap (λ k. get_or (set (table_of old).cells id slot) k None) is ∙ get_or-set_same (table_of old).cells id slot None (rw (cells_long old) below))
        by i lt false e =
            let other : i ≢ id = eqb-false i id e in
            cell_below new i lt ∙ updates.others i other ∙ sym (get_or-set_other (table_of old).cells id i slot None other ∙ cell_below old i (omega arith))

    pub beyond_updated : IsTable old → id < old.capacity → (k : ℕ) → new.capacity ≤ k → get new k ≡ None
    beyond_updated table below k past = updates.others k (λ e. absurd (omega arith)) ∙ table.beyond k (omega arith)

  -- a value is taken out, where there is one
  pub cells_emptied : (old new : Slab T) (id : ℕ) → IsTable old → Updates old new id None → new.capacity ≡ old.capacity → (get old id ≡ None → new ≡ old) → (table_of new).cells ≡ set (table_of old).cells id None
  cells_emptied old new id table updates same absent = by (get old id) refl
    where
      by : (o : Option T) → get old id ≡ o → (table_of new).cells ≡ set (table_of old).cells id None
      by None e =
          let none : at (table_of old) id ≡ None = table_at old table id ∙ e in
          ap (λ (s : Slab T). (table_of s).cells) (absent e) ∙ sym (ap (λ (o : Option T). set (table_of old).cells id o) (sym none) ∙ set-get_or (table_of old).cells id None)
      by (Some x) e = cells_updated old new id None updates same (used_within old table id x e)

  -- a value is taken out, and another one is put where it stood
  pub cells_replaced : (old between new : Slab T) (id key : ℕ) (x value : T) → IsTable old → get old id ≡ Some x → Updates old between id None → between.capacity ≡ old.capacity → key ≡ id → Updates between new key (Some value) → new.capacity ≡ between.capacity
      → (table_of new).cells ≡ set (table_of old).cells id (Some value)
  cells_replaced old between new id key x value table there out same_out is put same_put =
      let again : Updates between new id (Some value) = subst (λ (k : ℕ). Updates between new k (Some value)) is put in
      cells_updated old new id (Some value) (record { changed = again.changed; others = λ k other. again.others k other ∙ out.others k other }) (same_put ∙ same_out) (used_within old table id x there)

  pub few_ids : (s : Slab T) → s.capacity ≤ 2 ^ 32 → length (table_of s).cells ≤ 2 ^ 32
  few_ids s few = rw (cells_long s) few

  -- there is memory for more values
  module _ (old new : Slab T) (table : IsTable old) (longer : old.capacity ≤ new.capacity) (rest : new ≡ record old { capacity = new.capacity }) where
    pub more_room : length (table_of new).cells + (table_of old).spare ≡ length (table_of old).cells + (table_of new).spare
    more_room =
        let was = cells_long old in
        let is = cells_long new in
        let same : slab_len new ≡ slab_len old = ap slab_len rest in
        let within = table.within in
        omega arith

    wider : IsTable new
    wider = record {
      beyond = λ id past. ap (λ (s : Slab T). get s id) rest ∙ table.beyond id (omega arith);
      within = let same : slab_len new ≡ slab_len old = ap slab_len rest in let within = table.within in omega arith;
    }

    pub same_values : (id : ℕ) → at (table_of new) id ≡ at (table_of old) id
    same_values id = table_at new wider id ∙ ap (λ (s : Slab T). get s id) rest ∙ sym (table_at old table id)

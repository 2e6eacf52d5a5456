-- What stays of the cells of the next frames.
use Rattle.std.proofs.Common.{◌≡◌, ℕ, ◌%◌, ◌<◌, List, length, get_or, set, replicate, sym, ap, ◌∙◌, subst, length-set, get_or-set_same, get_or-set_other}
use lib.ListN.{length-replicate}
use mathlib.Core.Logic.{dite}
use native.Mathlib.Decide.{ℕ_discrete}
use Rattle.std.proofs.Math.Nat.{zero-mod}
use Rattle.std.proofs.lemmas.List.{get_or_default as get_any}
use Rattle.fab_table.proofs.Seating.{same_all}
use Rattle.fab_ring.specs.Hands.{Rounds}

-- a list of numbers and one of cells, with one more of each
next_cells : (peers room : ℕ) (ks cs : List ℕ) (d k m : ℕ) → d < length ks → d < length cs → m ≡ k % room → ((e : ℕ) → e < peers → get_or cs e 0 ≡ get_or ks e 0 % room)
    → (e : ℕ) → e < peers → get_or (set cs d m) e 0 ≡ get_or (set ks d k) e 0 % room
next_cells peers room ks cs d k m near near' is each e low = dite (ℕ_discrete e d)
    (λ same. subst (λ (z : ℕ). get_or (set cs d m) z 0 ≡ get_or (set ks d k) z 0 % room) (sym same) (get_or-set_same cs d m 0 near' ∙ is ∙ ap (λ (z : ℕ). z % room) (sym (get_or-set_same ks d k 0 near))))
    (λ ne. get_or-set_other cs d e m 0 ne ∙ each e low ∙ ap (λ (z : ℕ). z % room) (sym (get_or-set_other ks d e k 0 ne)))

module _ (peers room : ℕ) (puts gots pc gc : List ℕ) (r : Rounds peers room puts gots pc gc) where
  pub put_cell : (d k cell : ℕ) → d < peers → k ≡ get_or puts d 0 → cell ≡ get_or pc d cell → cell ≡ k % room
  put_cell d k cell low is at = at ∙ get_any pc d cell 0 (subst (λ (z : ℕ). d < z) (sym r.all_put_cells) low) ∙ r.each_put_cell d low ∙ ap (λ (z : ℕ). z % room) (sym is)

  pub got_cell : (s k cell : ℕ) → s < peers → k ≡ get_or gots s 0 → cell ≡ get_or gc s cell → cell ≡ k % room
  got_cell s k cell low is at = at ∙ get_any gc s cell 0 (subst (λ (z : ℕ). s < z) (sym r.all_got_cells) low) ∙ r.each_got_cell s low ∙ ap (λ (z : ℕ). z % room) (sym is)

  pub rounds_put : (d k m : ℕ) → d < peers → d < length puts → m ≡ k % room → Rounds peers room (set puts d k) gots (set pc d m) gc
  rounds_put d k m low near is = record {
    all_put_cells = length-set pc d m ∙ r.all_put_cells;
    all_got_cells = r.all_got_cells;
    each_put_cell = next_cells peers room puts pc d k m near (subst (λ (z : ℕ). d < z) (sym r.all_put_cells) low) is r.each_put_cell;
    each_got_cell = r.each_got_cell;
  }

  pub rounds_got : (s k m : ℕ) → s < peers → s < length gots → m ≡ k % room → Rounds peers room puts (set gots s k) pc (set gc s m)
  rounds_got s k m low near is = record {
    all_put_cells = r.all_put_cells;
    all_got_cells = length-set gc s m ∙ r.all_got_cells;
    each_put_cell = r.each_put_cell;
    each_got_cell = next_cells peers room gots gc s k m near (subst (λ (z : ℕ). s < z) (sym r.all_got_cells) low) is r.each_got_cell;
  }

-- nothing posted, and nothing taken
pub rounds_new : (peers room : ℕ) (puts gots pc gc : List ℕ) → puts ≡ replicate peers 0 → gots ≡ replicate peers 0 → pc ≡ replicate peers 0 → gc ≡ replicate peers 0 → Rounds peers room puts gots pc gc
rounds_new peers room puts gots pc gc is_p is_g is_pc is_gc = record {
  all_put_cells = ap length is_pc ∙ length-replicate peers 0;
  all_got_cells = ap length is_gc ∙ length-replicate peers 0;
  each_put_cell = λ d low. ap (λ (z : List ℕ). get_or z d 0) is_pc ∙ same_all peers d 0 ∙ sym (zero-mod room) ∙ ap (λ (z : ℕ). z % room) (sym (ap (λ (z : List ℕ). get_or z d 0) is_p ∙ same_all peers d 0));
  each_got_cell = λ s low. ap (λ (z : List ℕ). get_or z s 0) is_gc ∙ same_all peers s 0 ∙ sym (zero-mod room) ∙ ap (λ (z : ℕ). z % room) (sym (ap (λ (z : List ℕ). get_or z s 0) is_g ∙ same_all peers s 0));
}

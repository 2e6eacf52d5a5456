-- What stays of the counts of frames that were seen given back.
use Rattle.std.proofs.Common.{◌≡◌, ℕ, ◌<◌, ◌≤◌, List, length, get_or, set, replicate, sym, ap, ◌∙◌, subst, le_refl, length-set, get_or-set_same, get_or-set_other}
use lib.ListN.{length-replicate}
use Rattle.std.proofs.lemmas.List.{get_or-replicate, get_or_default as get_any}
use Rattle.fab_link.specs.declared.moves.Move.{Move}
use Rattle.fab_table.specs.declared.kinds.Out.{Out}
use Rattle.fab_table.specs.declared.kinds.In.{In}
use Rattle.fab_table.specs.declared.kinds.Part.{Part}
use Rattle.fab_table.specs.Views.{new_part, new_out, out_at, with_out, with_in}
use Rattle.fab_table.proofs.Rows.{each_set}
use Rattle.fab_table.proofs.Seating.{same_all}
use Rattle.fab_ring.specs.Hands.{Sees}

module _ (peers : ℕ) (seen : List ℕ) (p : Part) (k : Sees peers seen p) where
  pub seen_at : (d n : ℕ) → d < peers → n ≡ get_or seen d n → n ≡ (out_at p d).got_seen
  seen_at d n low at = at ∙ get_any seen d n 0 (subst (λ (z : ℕ). d < z) (sym k.all_seen) low) ∙ (k.each_seen d low).0

  -- after a call that saw r frames to d given back
  pub sees_out : (d r : ℕ) (o : Out) (ms : List Move) → d < peers → length p.outs ≡ peers → o.got_seen ≡ r → r ≤ length o.posted → Sees peers (set seen d r) (with_out p d o ms)
  sees_out d r o ms low all is small = record {
    all_seen = length-set seen d r ∙ k.all_seen;
    each_seen = λ e near. each_set (λ q (z : Out). q < peers → (get_or (set seen d r) q 0 ≡ z.got_seen) × (z.got_seen ≤ length z.posted)) p.outs d o (new_out 0)
        (λ _. (get_or-set_same seen d r 0 (subst (λ (z : ℕ). d < z) (sym k.all_seen) low) ∙ sym is, subst (λ (z : ℕ). z ≤ length o.posted) (sym is) small))
        (λ q ne _ inside. let f = k.each_seen q inside in (get_or-set_other seen d q r 0 ne ∙ f.0, f.1)) e (subst (λ (z : ℕ). e < z) (sym all) near) near;
  }

  pub sees_in : (s : ℕ) (u : In) (ms : List Move) → Sees peers seen (with_in p s u ms)
  sees_in s u ms = record { all_seen = k.all_seen; each_seen = k.each_seen }

-- nothing posted, and nothing seen given back
pub sees_new : (n room pool me : ℕ) (seen : List ℕ) → seen ≡ replicate n 0 → Sees n seen (new_part n room pool me)
sees_new n room pool me seen is = record {
  all_seen = ap length is ∙ length-replicate n 0;
  each_seen = λ d low. let here = sym (get_or-replicate n d (new_out pool) (new_out 0) low) in
      (ap (λ (z : List ℕ). get_or z d 0) is ∙ same_all n d 0 ∙ ap (λ (z : Out). z.got_seen) here, subst (λ (z : Out). z.got_seen ≤ length z.posted) here (le_refl 0));
}

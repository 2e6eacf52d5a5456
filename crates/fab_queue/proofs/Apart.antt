-- The ends of ports, taken apart port by port from the last one on.
use Rattle.std.proofs.Common.{◌≡◌, ℕ, ◌+◌, ◌<◌, List, [], ◌∷◌, ◌++◌, length, set, sym, ap, ◌∙◌, subst, arith, length-set, length-append, append_assoc}
use mathlib.Core.Logic.{dite}
use native.Mathlib.Decide.{ℕ_discrete}
use Rattle.std.specs.Prelude.{Some, slice_get, Vec}
use Rattle.std.specs.declared.alloc.Global.{Global}
use Rattle.std.proofs.lemmas.Option.{same_Some, slice_get_within}
use Rattle.fab_base.proofs.Lists.{get_seam as at_seam}
use Rattle.fab_queue.specs.Ends.{Out, In}
use Rattle.fab_queue.specs.Ports.{Queued}
use Rattle.fab_queue.specs.Laid.{row, column}
use Rattle.fab_queue.specs.Gather.{AreApart}
use Rattle.fab_queue.proofs.Members.{members_set_same, members_set_other}

pub apart_starts : (ports : List Queued) (outs : List (Vec Out Global)) (ins : List (Vec In Global)) → length outs ≡ length ports → length ins ≡ length ports → AreApart ports outs ins (length ports)
apart_starts ports outs ins co ci = record {
  outs_count = co;
  ins_count = ci;
  each = λ k p far at. absurd (let near = slice_get_within ports k p at in omega (arith, far, near));
}

-- the last port has its place
pub apart_near : (all before ports rest : List Queued) (outs : List (Vec Out Global)) (ins : List (Vec In Global)) (p : Queued) → before ≡ ports ++ p ∷ [] → all ≡ before ++ rest → AreApart all outs ins (length before) → (length ports < length outs) × (length ports < length ins)
apart_near all before ports rest outs ins p last front k =
    let long = ap length front ∙ length-append before rest in let more = ap length last ∙ length-append ports (p ∷ []) in let o = k.outs_count in let i = k.ins_count in
    (omega (arith, long, more, o), omega (arith, long, more, i))

-- one port more
pub apart_more : (all before ports rest : List Queued) (outs : List (Vec Out Global)) (ins : List (Vec In Global)) (p : Queued) (o : Vec Out Global) (i : Vec In Global)
    → before ≡ ports ++ p ∷ [] → all ≡ before ++ rest → o.items ≡ p.outs → i.items ≡ p.ins → AreApart all outs ins (length before) → AreApart all (set outs (length ports) o) (set ins (length ports) i) (length ports)
apart_more all before ports rest outs ins p o i last front eo ei k =
    let whole : all ≡ ports ++ p ∷ rest = front ∙ ap (λ (l : List Queued). l ++ rest) last ∙ append_assoc ports (p ∷ []) rest in
    let more : length before ≡ length ports + 1 = ap length last ∙ length-append ports (p ∷ []) in
    let here : slice_get all (length ports) ≡ Some p = ap (λ (l : List Queued). slice_get l (length ports)) whole ∙ at_seam ports p rest in
    let near : length ports < length all = slice_get_within all (length ports) p here in record {
      outs_count = length-set outs (length ports) o ∙ k.outs_count;
      ins_count = length-set ins (length ports) i ∙ k.ins_count;
      each = λ n q far at. dite (ℕ_discrete n (length ports))
          (λ is. let same : p ≡ q = same_Some p q (sym here ∙ ap (slice_get all) (sym is) ∙ at) in (
            ap (row (set outs (length ports) o)) is ∙ members_set_same outs (length ports) o (subst (λ (z : ℕ). length ports < z) (sym k.outs_count) near) ∙ eo ∙ ap (λ (z : Queued). z.outs) same,
            ap (column (set ins (length ports) i)) is ∙ members_set_same ins (length ports) i (subst (λ (z : ℕ). length ports < z) (sym k.ins_count) near) ∙ ei ∙ ap (λ (z : Queued). z.ins) same,
          ))
          (λ ne. let old = k.each n q (omega (arith, far, ne, more)) at in (members_set_other outs (length ports) n o ne ∙ old.0, members_set_other ins (length ports) n i ne ∙ old.1));
    }

-- The lanes between all peers, as they are made one by one.
use Rattle.std.proofs.Common.{◌≡◌, ℕ, ◌+◌, ◌<◌, List, [], ◌∷◌, ◌++◌, length, set, sym, ap, ◌∙◌, subst, arith, length-set}
use mathlib.Core.Logic.{dite}
use native.Mathlib.Decide.{ℕ_discrete}
use Rattle.std.specs.Prelude.{Vec}
use Rattle.std.specs.declared.alloc.Global.{Global}
use Rattle.std.proofs.lemmas.List.{get_or_push, get_or_append_left, length_push as length_more}
use Rattle.fab_queue.specs.Ends.{Out, In, new_out, new_in}
use Rattle.fab_queue.specs.Ports.{no_lane}
use Rattle.fab_queue.specs.Laid.{row, column, out_in, in_in, IsLaid, AreLaidFrom, AreLaid}
use Rattle.fab_queue.proofs.Members.{members_set_same, members_set_other, members_before, members_last}

-- one lane more
pub laid_more : (room n : ℕ) (old new : List (Vec In Global)) (outs : List Out) (o : Out) (i : In) (v : Vec In Global) → AreLaidFrom room old new outs n → n < length new → IsLaid room o i → v.items ≡ column new n ++ i ∷ []
    → AreLaidFrom room old (set new n v) (outs ++ o ∷ []) (n + 1)
laid_more room n old new outs o i v k near laid grew = record {
  count = length-set new n v ∙ k.count;
  outs_count = length_more outs o ∙ ap (λ (z : ℕ). z + 1) k.outs_count;
  each = λ d low. dite (ℕ_discrete d n)
      (λ is. (
        i,
        subst (λ (z : Out). IsLaid room z i) (sym (get_or_push outs o (new_out no_lane 0) d (k.outs_count ∙ sym is))) laid,
        subst (λ (z : ℕ). column (set new n v) z ≡ column old z ++ i ∷ []) (sym is) (members_set_same new n v near ∙ grew ∙ ap (λ (z : List In). z ++ i ∷ []) (k.rest n (omega arith))),
      ))
      (λ ne. let low' : d < n = omega (arith, low, ne) in let there = k.each d low' in (
        there.0,
        subst (λ (z : Out). IsLaid room z there.0) (sym (get_or_append_left outs (o ∷ []) (new_out no_lane 0) d (subst (λ (z : ℕ). d < z) (sym k.outs_count) low'))) there.1,
        members_set_other new n d v ne ∙ there.2,
      ));
  rest = λ d far. members_set_other new n d v (λ e. omega (arith, far, e)) ∙ k.rest d (omega arith);
}

-- the lanes from one peer more
pub laid_peer : (room peers m : ℕ) (outs : List (Vec Out Global)) (old new : List (Vec In Global)) (v : Vec Out Global) → AreLaid room peers m outs old → AreLaidFrom room old new v.items (length old) → AreLaid room peers (m + 1) (outs ++ v ∷ []) new
laid_peer room peers m outs old new v k more = record {
  rows = length_more outs v ∙ ap (λ (z : ℕ). z + 1) k.rows;
  columns = more.count ∙ k.columns;
  each_row = λ s low. dite (ℕ_discrete s m)
      (λ is. ap length (members_last outs v s (is ∙ sym k.rows)) ∙ more.outs_count ∙ k.columns)
      (λ ne. let low' : s < m = omega (arith, low, ne) in ap length (members_before outs v s (subst (λ (z : ℕ). s < z) (sym k.rows) low')) ∙ k.each_row s low');
  each_column = λ d near. let there = more.each d (subst (λ (z : ℕ). d < z) (sym k.columns) near) in ap length there.2 ∙ length_more (column old d) there.0 ∙ ap (λ (z : ℕ). z + 1) (k.each_column d near);
  each = λ s d low near. let there = more.each d (subst (λ (z : ℕ). d < z) (sym k.columns) near) in let long = k.each_column d near in dite (ℕ_discrete s m)
      (λ is. let mine : in_in (column new d) s ≡ there.0 = ap (λ (z : List In). in_in z s) there.2 ∙ get_or_push (column old d) there.0 (new_in no_lane) s (long ∙ sym is) in
      let own : row (outs ++ v ∷ []) s ≡ v.items = members_last outs v s (is ∙ sym k.rows) in
      subst (λ (z : Out × In). IsLaid room z.0 z.1) (λ j. (out_in (sym own j) d, sym mine j)) there.1)
      (λ ne. let low' : s < m = omega (arith, low, ne) in
      let mine : in_in (column new d) s ≡ in_in (column old d) s = ap (λ (z : List In). in_in z s) there.2 ∙ get_or_append_left (column old d) (there.0 ∷ []) (new_in no_lane) s (subst (λ (z : ℕ). s < z) (sym long) low') in
      let own : row (outs ++ v ∷ []) s ≡ row outs s = members_before outs v s (subst (λ (z : ℕ). s < z) (sym k.rows) low') in
      subst (λ (z : Out × In). IsLaid room z.0 z.1) (λ j. (out_in (sym own j) d, sym mine j)) (k.each s d low' near));
}

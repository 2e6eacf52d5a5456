-- What the parts hold after one item more.
use Rattle.std.proofs.Common.{◌≡◌, ℕ, ◌+◌, ◌-◌, ◌<◌, false, eqb, Vec, Global, vec_len, List, [], ◌∷◌, ◌++◌, length, map, get_or, set, Some, None, sym, ap, ◌∙◌, refl, arith}
use Rattle.std.specs.List.{list_any, last_or}
use Rattle.std.proofs.lemmas.List.{map-set, map-append, same_lists}
use Rattle.std.proofs.Math.ListN.{get_or-map}
use Rattle.std.proofs.lemmas.List.FromFn.{length-map-range_with_len, get_or-map-range_with_len, map-range_with_len_more}
use Rattle.fab_base.specs.declared.script.Line.{Line}
use Rattle.fab_grammar.specs.declared.items.Item.{Item}
use Rattle.fab_grammar.specs.declared.items.Item.TheVariants.{Peer, Does}
use Rattle.fab_script.specs.declared.parts.Parts.{Parts}
use Rattle.fab_grammar.specs.Lines.{op_size}
use Rattle.fab_grammar.specs.Before.{is_distinct, opened_by, part_of, parts_of}
use Rattle.fab_script.specs.Parts.{HoldsParts}
use Rattle.fab_grammar.proofs.PartLemmas.{opened_by-append, distinct_push}
use Rattle.fab_script.proofs.ItemLemmas.{sum_open, parts_of_open, parts_of_add, part_of_none, last_at, opened_add, sum_add}

pub holds_open : (n k : ℕ) (old new : Parts) (xs : List Item) → HoldsParts n old xs → new.lines ≡ old.lines → new.opened.items ≡ old.opened.items ++ k ∷ [] → new.size ≡ old.size → list_any (λ j. eqb j k) old.opened.items ≡ false → HoldsParts n new (xs ++ Peer k ∷ [])
holds_open n k old new xs h lines opened size fresh =
    let new_peer : list_any (λ j. eqb j k) (opened_by xs) ≡ false = ap (list_any (λ j. eqb j k)) (sym h.opened) ∙ fresh in
    record {
      count = ap vec_len lines ∙ h.count;
      lines = ap (λ v. map (λ part. part.items) v.items) lines ∙ (h.lines ∙ sym (parts_of_open n k xs));
      opened = opened ∙ (ap (λ ks. ks ++ k ∷ []) h.opened ∙ sym (opened_by-append xs (Peer k ∷ [])));
      size = size ∙ (h.size ∙ sym (sum_open xs k));
      distinct = ap is_distinct (opened_by-append xs (Peer k ∷ [])) ∙ distinct_push (opened_by xs) k h.distinct new_peer;
    }

pub holds_add : (n k : ℕ) (old new : Parts) (xs : List Item) (line : Line) (was part : Vec Line Global) → HoldsParts n old xs → k ≡ get_or old.opened.items (length old.opened.items - 1) k → 0 < length old.opened.items → k < vec_len old.lines → was ≡ get_or old.lines.items k was → part.items ≡ was.items ++ line ∷ [] → vec_len new.lines ≡ vec_len old.lines → new.lines.items ≡ set old.lines.items k part → new.opened ≡ old.opened → new.size ≡ old.size + op_size line.op → HoldsParts n new (xs ++ Does line ∷ [])
holds_add n k old new xs line was part h last some below read pushed count lines opened size =
    let last_peer : last_or None (opened_by xs) ≡ Some k = ap (last_or None) (sym h.opened) ∙ last_at old.opened.items k some last in
    let within : k < n = omega (arith, h.count) in
    let item : was.items ≡ part_of k xs =
    ap (λ part. part.items) read ∙ (sym (get_or-map (λ part. part.items) old.lines.items k was)
    ∙ (ap (λ parts. get_or parts k was.items) h.lines ∙ get_or-map-range_with_len (λ j. part_of j xs) 0 n k k was.items within (omega arith))) in
    record {
      count = count ∙ h.count;
      lines = ap (map (λ part. part.items)) lines ∙ (map-set (λ part. part.items) old.lines.items k part
          ∙ (ap (λ parts. set parts k part.items) h.lines ∙ (ap (set (parts_of n xs) k) (pushed ∙ ap (λ front. front ++ line ∷ []) item)
          ∙ sym (parts_of_add n k xs line within h.distinct last_peer))));
      opened = ap (λ v. v.items) opened ∙ (h.opened ∙ sym (opened_add xs line));
      size = size ∙ (ap (λ m. m + op_size line.op) h.size ∙ sym (sum_add xs line));
      distinct = ap is_distinct (opened_add xs line) ∙ h.distinct;
    }

-- Parts of which none is opened, one more.
pub record AreEmpty (n : ℕ) (parts : Vec (Vec Line Global) Global) : Type 0 where
  pub count : vec_len parts ≡ n
  pub lines : map (λ part. part.items) parts.items ≡ parts_of n []

pub empty_more : (n : ℕ) (old new : Vec (Vec Line Global) Global) (part : Vec Line Global) → AreEmpty n old → part.items ≡ [] → vec_len new ≡ vec_len old + 1 → new.items ≡ old.items ++ part ∷ [] → AreEmpty (n + 1) new
empty_more n old new part h none count items = record {
  count = omega (arith, h.count);
  lines = ap (map (λ part. part.items)) items ∙ (map-append (λ part. part.items) old.items (part ∷ [])
      ∙ (ap (λ front. front ++ part.items ∷ []) h.lines ∙ (ap (λ last. parts_of n [] ++ last ∷ []) none ∙ sym (map-range_with_len_more (λ k. part_of k []) 0 n n (omega arith)))));
}

pub empty_none : (parts : Vec (Vec Line Global) Global) → vec_len parts ≡ 0 → AreEmpty 0 parts
empty_none parts e = record { count = e; lines = ap (map (λ part. part.items)) (no_items parts.items (sym parts.ok.0 ∙ e)) }
  where
    no_items : (xs : List (Vec Line Global)) → length xs ≡ 0 → xs ≡ []
    no_items [] e = refl
    no_items (x ∷ xs) e = absurd (omega arith)

-- where no peer is opened, no part has lines
parts_of_none : (n : ℕ) (xs : List Item) → opened_by xs ≡ [] → parts_of n xs ≡ parts_of n []
parts_of_none n xs e = same_lists _ _ (length-map-range_with_len (λ j. part_of j xs) 0 n ∙ sym (length-map-range_with_len (λ j. part_of j []) 0 n)) (λ j d h.
    let below : j < n = omega (arith, length-map-range_with_len (λ j. part_of j xs) 0 n) in
    get_or-map-range_with_len (λ j. part_of j xs) 0 n j j d below (omega arith)
    ∙ (part_of_none xs j e ∙ sym (get_or-map-range_with_len (λ j. part_of j []) 0 n j j d below (omega arith))))

pub holds_grown : (n : ℕ) (old new : Parts) (xs : List Item) → HoldsParts 0 old xs → AreEmpty n new.lines → old.opened.items ≡ [] → new.opened ≡ old.opened → new.size ≡ old.size → HoldsParts n new xs
holds_grown n old new xs h e none opened size = record {
  count = e.count;
  lines = e.lines ∙ sym (parts_of_none n xs (sym h.opened ∙ none));
  opened = ap (λ v. v.items) opened ∙ h.opened;
  size = size ∙ h.size;
  distinct = h.distinct;
}

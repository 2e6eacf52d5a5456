-- Each call on a queue keeps the rule of its lane.
use Rattle.std.proofs.Common.{◌≡◌, ◌≢◌, ℕ, zero, suc, true, false, true≢false, List, [], ◌∷◌, ◌++◌, length, set, sym, refl, ap, ◌∙◌, subst, ⊎_elim, append_assoc}
use mathlib.Core.Option.{some, some-ne-none}
use mathlib.Core.List.{map-append}
use lib.ListN.{get_elem?}
use Rattle.std.specs.Prelude.{None}
use Rattle.crossbeam_queue.specs.Fifo.{Pushes, Pops, Forks, Merges, Learns}
use Rattle.crossbeam_queue.proofs.Lists.{at_set, at_snoc}
use Rattle.fab_link.specs.Frames.{last_head, IsLane}
use Rattle.fab_link.proofs.Lanes.{IsLane-push, lane_rest}
use Rattle.fab_queue.specs.declared.lane.Sent.{Sent}
use Rattle.fab_queue.specs.declared.lane.Log.{Log}
use Rattle.fab_queue.specs.Lanes.{frame_of, frames_of, log, Continues, Fits, Ordered, put_one, GotOne, EndsWith, Holds}

pub rest_of : (got items : List Sent) → IsLane None (frames_of (got ++ items)) → IsLane (last_head None (frames_of got)) (frames_of items)
rest_of got items k = lane_rest None (frames_of got) (frames_of items) (subst (IsLane None) (map-append frame_of got items) k)

at_end : (l : List Log) (a b : Log) (j : ℕ) → get_elem? l j ≢ some b → get_elem? (l ++ a ∷ []) j ≡ some b → j ≡ length l
at_end [] a b zero n e = refl
at_end [] a b (suc j) n e = absurd (some-ne-none b (sym e))
at_end (x ∷ xs) a b zero n e = absurd (n e)
at_end (x ∷ xs) a b (suc j) n e = ap suc (at_end xs a b j n e)

abbrev Each : (ℕ → Log → Type 0) → List Log → Type 0
Each F views = (pass : ℕ) (v : Log) → get_elem? views pass ≡ some v → F pass v

each_set : (F : ℕ → Log → Type 0) (views : List Log) (pass : ℕ) (w : Log) → F pass w → ((j : ℕ) (u : Log) → j ≢ pass → get_elem? views j ≡ some u → F j u) → Each F (set views pass w)
each_set F views pass w mine others j u e = ⊎_elim (λ (x : (j ≡ pass) × (w ≡ u)). subst (λ (y : ℕ × Log). F y.0 y.1) (λ i. (sym x.0 i, x.1 i)) mine)
    (λ (x : (j ≢ pass) × (get_elem? views j ≡ some u)). others j u x.0 x.1) (at_set views pass j w u e)

pub begins : Ordered [] (log true true [] [] ∷ [])
begins = record {
  writer = 0;
  reader = 0;
  put = [];
  got = [];
  whole = refl;
  cut = tt;
  each = each_set (Fits 0 0 [] []) (log true true [] [] ∷ []) 0 (log true true [] []) ((λ _. (refl, refl)), λ _. (refl, refl)) (λ j u other e. absurd (other (at_end [] _ u j (λ x. some-ne-none u (sym x)) e)));
}

pub puts : (n pass : ℕ) (v : Log) (x : Sent) → v.puts ≡ true → Continues v.put x → Pushes Ordered n pass v x (λ w. w ≡ put_one v x)
puts n pass v x may next items views _ h at = let w = put_one v x in let mine = h.each pass v at in let whose = mine.0 may in let put = h.put ++ x ∷ [] in (
  w,
  record {
    writer = h.writer;
    reader = h.reader;
    put = put;
    got = h.got;
    whole = ap (λ l. l ++ x ∷ []) h.whole ∙ append_assoc h.got items (x ∷ []);
    cut = subst (IsLane None) (sym (map-append frame_of h.put (x ∷ []))) (IsLane-push None (frames_of h.put) x.frame h.cut (subst (λ l. Continues l x) whose.1 next));
    each = each_set (Fits h.writer h.reader put h.got) views pass w ((λ _. (whose.0, ap (λ l. l ++ x ∷ []) whose.1)), mine.1)
        (λ j u other e. ((λ p. absurd (other (((h.each j u e).0 p).0 ∙ sym whose.0))), (h.each j u e).1));
  },
  refl,
)

pub last_inside : (pass : ℕ) (v : Log) → v.puts ≡ true → Learns Ordered pass v (λ items. EndsWith v.put items)
last_inside pass v may items views h at = (h.got, ((h.each pass v at).0 may).1 ∙ h.whole)

pub gets : (pass : ℕ) (v : Log) → v.gets ≡ true → Pops Ordered pass v (λ x w. GotOne v x w)
gets pass v may x items views h at = let w : Log = log v.puts v.gets v.put (v.got ++ x ∷ []) in let mine = h.each pass v at in let whose = mine.1 may in let got = h.got ++ x ∷ [] in
    let all : h.put ≡ got ++ items = h.whole ∙ sym (append_assoc h.got (x ∷ []) items) in (
      w,
      record {
        writer = h.writer;
        reader = h.reader;
        put = h.put;
        got = got;
        whole = all;
        cut = h.cut;
        each = each_set (Fits h.writer h.reader h.put got) views pass w (mine.0, λ _. (whose.0, ap (λ l. l ++ x ∷ []) whose.1))
            (λ j u other e. ((h.each j u e).0, λ p. absurd (other (((h.each j u e).1 p).0 ∙ sym whose.0))));
      },
      record {
        after = refl;
        next = subst (λ l. Continues l x) (sym whose.1) (rest_of h.got (x ∷ items) (subst (λ l. IsLane None (frames_of l)) h.whole h.cut)).0;
        first = λ p. (items, ap (λ l. (l ++ x ∷ []) ++ items) whose.1 ∙ sym all ∙ sym ((mine.0 p).1));
      },
    )

pub inside : (pass : ℕ) (v : Log) → v.gets ≡ true → Learns Ordered pass v (λ items. Holds v items)
inside pass v may items views h at p = let whose = h.each pass v at in
    ((whose.0 p).1 ∙ h.whole ∙ ap (λ l. l ++ items) (sym (whose.1 may).1), subst (λ l. IsLane None (frames_of l)) (sym (whose.0 p).1) h.cut)

pub forks : (pass : ℕ) (v : Log) → v.puts ≡ true → v.gets ≡ true → Forks Ordered pass v (log true false v.put []) (log false true [] v.got)
forks pass v a b items views h at = let l : Log = log true false v.put [] in let r : Log = log false true [] v.got in let mine = h.each pass v at in let vs : List Log = set views pass l in
    let Old : ℕ → Log → Type 0 = λ j u. (u.puts ≡ true → (j ≡ h.writer) × (u.put ≡ h.put)) × (u.gets ≢ true) in
    let old : Each Old vs = each_set Old views pass l ((λ _. mine.0 a), λ p. true≢false (sym p)) (λ j u other e. ((h.each j u e).0, λ p. other (((h.each j u e).1 p).0 ∙ sym (mine.1 b).0))) in record {
      writer = h.writer;
      reader = length vs;
      put = h.put;
      got = h.got;
      whole = h.whole;
      cut = h.cut;
      each = λ j u e. ⊎_elim (λ x. ((old j u x).0, λ p. absurd ((old j u x).1 p)))
          (λ (is : r ≡ u). ((λ p. absurd (true≢false (sym (ap (λ (y : Log). y.puts) is ∙ p)))), λ p. (at_end vs r u j (λ x. (old j u x).1 p) e, ap (λ (y : Log). y.got) (sym is) ∙ (mine.1 b).1))) (at_snoc vs r u j e);
    }

pub merges : (pass : ℕ) (v : Log) (other : ℕ) (u : Log) → v.puts ≡ true → u.gets ≡ true → Merges Ordered pass v other u (log true true v.put u.got) (log false false [] [])
merges pass v other u a b items views h at two at' = let both : Log = log true true v.put u.got in let mine = h.each pass v at in let vs : List Log = set views pass both in
    let was : get_elem? views other ≡ some u = ⊎_elim (λ x. absurd (two x.0)) (λ x. x.1) (at_set views pass other both u at') in let theirs = (h.each other u was).1 b in
    let Now : ℕ → Log → Type 0 = λ j y. j ≢ other → Fits h.writer pass h.put h.got j y in
    let now : Each Now vs = each_set Now views pass both (λ _. ((λ _. mine.0 a), λ _. (refl, theirs.1))) (λ j y _ e apart. ((h.each j y e).0, λ p. absurd (apart (((h.each j y e).1 p).0 ∙ sym theirs.0)))) in record {
      writer = h.writer;
      reader = pass;
      put = h.put;
      got = h.got;
      whole = h.whole;
      cut = h.cut;
      each = each_set (Fits h.writer pass h.put h.got) vs other (log false false [] []) ((λ p. absurd (true≢false (sym p))), λ p. absurd (true≢false (sym p))) (λ j y apart e. now j y e apart);
    }

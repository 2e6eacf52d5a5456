use Rattle.std.proofs.Common.{◌≡◌, ℕ, ◌+◌, ◌-◌, List, [], ◌∷◌, ◌++◌, map, ap, sym, ◌∙◌, arith, append_assoc}
use Rattle.std.specs.List.{range_with_len}
use Rattle.std.proofs.lemmas.List.FromFn.{map-range_with_len_more}
use Rattle.fab_collectives.specs.Routes.{share_of}
use Rattle.fab_collectives.proofs.Joining.{none_yet}
use Rattle.fab_collectives.proofs.shares.append_shares.Goals as goal

pub loop-s-init : goal.loop-s-init
loop-s-init c = record {
  appended = none_yet (λ s. share_of c.args.work c.args.len c.args.joined.now s) c.args.all.now.items c.args.from (c.args.from - c.args.from) (omega arith);
  upto = omega arith;
}

pub loop-s-preserved : goal.loop-s-preserved
loop-s-preserved c = let f : ℕ → List ℕ = λ s. share_of c.args.work c.args.len c.args.joined.now s in
    let old : List (List ℕ) = c.args.all.now.items in let from = c.args.from in let s = c.loop-s.s in let forth = c.loop-s.auto.s in let below = c.loop-s-test.true in
    let count : s - from + 1 ≡ s + 1 - from = omega arith in record {
      appended = c.in_ok-push.ensures.items
          ∙ ap (λ (x : List ℕ). c.loop-s.all.items ++ x ∷ []) c.in_ok-share_of.ensures
          ∙ ap (λ (xs : List (List ℕ)). xs ++ f s ∷ []) c.loop-s.invariant.appended
          ∙ append_assoc old (map f (range_with_len from (s - from))) (f s ∷ [])
          ∙ ap (λ (ys : List (List ℕ)). old ++ ys) (sym (map-range_with_len_more f from (s - from) s (omega arith)))
          ∙ ap (λ (n : ℕ). old ++ map f (range_with_len from n)) count;
      upto = omega arith;
    }

pub returns : goal.returns
returns c = let from = c.args.from in let s = c.loop-s.s in let forth = c.loop-s.auto.s in let over = c.loop-s-test.false in let upto = c.loop-s.invariant.upto in
    let count : s - from ≡ c.args.to - from = omega arith in
    c.loop-s.invariant.appended ∙ ap (λ (n : ℕ). c.args.all.now.items ++ map (λ s. share_of c.args.work c.args.len c.args.joined.now s) (range_with_len from n)) count

use Rattle.std.proofs.Common.{Bool, List, [], ◌∷◌, ◌++◌, ◌∙◌, ap, sym, arith}
use Rattle.std.proofs.lemmas.List.FromFn.{map-range_with_len_more}
use Rattle.fab_collectives.specs.Routes.{hears_in}
use Rattle.fab_collectives.proofs.collective.hearings.Goals as goal

pub loop-k-preserved : goal.loop-k-preserved
loop-k-preserved c =
    c.in_ok-push.ensures.items ∙ ap (λ (b : Bool). c.loop-k.all.items ++ b ∷ []) c.hears_in.ensures
    ∙ ap (λ (xs : List Bool). xs ++ hears_in c.args.work c.args.len c.loop-k.k ∷ []) c.loop-k.invariant
    ∙ sym (map-range_with_len_more (λ k. hears_in c.args.work c.args.len k) 0 c.loop-k.k c.loop-k.k (omega arith))

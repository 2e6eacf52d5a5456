use Rattle.std.proofs.Common.{List, ap, ap₂, append_assoc, get_or, sym, take, ℕ, ◌++◌, ◌∙◌}
use Rattle.std.specs.List.{concat}
use Rattle.fab_fold.proofs.Folding.{one_joined}
use Rattle.fab_collectives.proofs.shares.joined_with.Goals as goal

pub loop-message-preserved : goal.loop-message-preserved
loop-message-preserved c =
    c.in_ok-extend_from_slice.ensures.items
    ∙ ap₂ (λ (xs ys : List ℕ). xs ++ ys) c.loop-message.invariant (c.as_slice.ensures ∙ c.message-item.is)
    ∙ append_assoc c.args.first.now (concat (take c.loop-message.message-index c.args.received.now)) (get_or c.args.received.now c.loop-message.message-index c.message-item.result)
    ∙ ap (λ (xs : List ℕ). c.args.first.now ++ xs) (sym (one_joined c.args.received.now c.loop-message.message-index c.message-item.result c.loop-message-test.true))

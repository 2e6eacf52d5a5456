use Rattle.std.proofs.Common.{◌-◌, ◌≤◌, ◌<◌, length}
use Rattle.fab_match.specs.Chains.{IsChain, next_of}
use Rattle.fab_match.specs.Bucket.{held}
use Rattle.fab_match.proofs.Walking.{Walks}
use Rattle.fab_match.proofs.bucket.first_of.Given as goal

abbrev pub invariant-loop : goal.invariant-loop
invariant-loop g l = (l.head < l.chains.heads) × (l.counter ≤ l.end)
    × Walks l.chains.heads (length l.chains.links.items) (next_of l.chains.links.items) (held l.cards (λ card. g.T.Test.passes l.test card)) (λ xs. IsChain l.chains l.head xs) l.node (l.end - l.counter) l.head

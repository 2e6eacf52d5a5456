use Rattle.std.proofs.Common.{ℕ, ◌<◌, sym, subst}
use Rattle.fab_link.specs.Meaning.{Outgoing}
use Rattle.lane_bench.specs.Between.{AreBetween}
use Rattle.lane_bench.proofs.end.EndParty.take.Goals as goal

pub invariant_of-self : goal.invariant_of-self
invariant_of-self c = record { below = subst (λ (z : ℕ). c.args.self.now.other < z) (sym c.copy_next.ensures.peers) c.args.self.now.below; between = subst (λ (z : ℕ → Outgoing). AreBetween z) (sym c.copy_next.ensures.out) c.args.self.now.between }

use Rattle.std.proofs.Common.{ℕ, ◌<◌, sym, subst}
use Rattle.fab_ring.specs.Ports.{out_of}
use Rattle.lane_bench.proofs.Betweens.{to_items, to_heads}
use Rattle.lane_bench.proofs.end.EndParty.put.Goals as goal

pub post-requires-clause-between : goal.post-requires-clause-between
post-requires-clause-between c = to_items (out_of c.args.self.now.port) c.args.self.now.between

pub invariant_of-self : goal.invariant_of-self
invariant_of-self c = record { below = subst (λ (z : ℕ). c.args.self.now.other < z) (sym c.post.ensures.peers) c.args.self.now.below; between = to_heads (out_of c.post.new.port) c.post.ensures.between }

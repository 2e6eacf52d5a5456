use Rattle.std.proofs.Common.{rules, ◌≡◌, ℕ, ◌+◌, ◌*◌, ◌<◌, length, sym, subst, arith}
use Rattle.fab_table.specs.Views.{part_at, out_at, in_at}
use Rattle.fab_table.specs.Rule.{Owes}
use Rattle.fab_table.specs.Plays.{Sat}
use Rattle.fab_table.proofs.Rows.{pair_below}
use Rattle.fab_table.proofs.Seating.{learns}
use Rattle.fab_table.proofs.lane_table.LaneTable.learn.Goals as goal

pub load-requires : goal.load-requires
load-requires c = let f = c.args.self.now in let some = f.sized.5 in let words = f.words in let sq : ℕ = f.peers * f.peers in let first : 0 * f.peers + 0 < sq = pair_below f.peers f.peers 0 0 some some in let more : ℕ = f.peers * f.pool in
    let count : f.table.shared.table_id.words ≡ sq * 32 + more * 16 = words in (search rules, omega arith, learns _ _ _ _ _)

pub returns-clause-repaid : goal.returns-clause-repaid
returns-clause-repaid c a d op near = let told = c.load.ensures.2 in
    subst (λ (m : Sat). a < length m.0.parts → Owes (out_at (part_at m.0 a) d) (in_at (part_at m.0 a) d) op 0) (sym told.0) (λ within. (told.1 a within).repaid d op) near

use Rattle.std.proofs.Common.{rules, ◌≡◌, ℕ, ◌<◌, sym, ap, ◌∙◌, subst}
use Rattle.fab_table.specs.Views.{part_at, lane_of, put_word}
use Rattle.fab_table.specs.Plays.{out_lane}
use Rattle.fab_table.proofs.Sending.{posts_one}
use Rattle.fab_table.proofs.lane_table.LaneTable.publish.Goals as goal

pub store-requires : goal.store-requires
store-requires c = let at = c.requires.seat.1 in let low : c.args.dest < (part_at c.args.seat.now.seat.me.0 c.args.at).peers = subst (λ (z : ℕ). c.args.dest < z) (sym at.2) c.requires.seat.2 in
    let lane : lane_of c.args.self.now.peers c.args.me c.args.dest ≡ out_lane c.args.seat.now.seat.me.0 c.args.at c.args.dest = (λ i. lane_of (sym at.2 i) (sym at.1 i) c.args.dest) in
    (search rules, search rules, posts_one _ _ _ _ _ _ _ _ c.requires.cell.0 at.0 low (c.put_word-word.ensures.word ∙ ap put_word lane) c.requires.writing.0 (search rules) c.requires.cell.4 c.requires.writing.1 c.requires.cell.2 c.requires.cell.5 c.requires.cell.6 c.requires.cell.3 c.requires.cell.1)

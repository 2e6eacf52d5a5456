use Rattle.std.proofs.Common.{rules, ◌≡◌, ℕ, ◌<◌, sym, ap, ◌∙◌, subst}
use Rattle.fab_table.specs.Views.{part_at, lane_of, still_word}
use Rattle.fab_table.specs.Plays.{out_lane}
use Rattle.fab_table.proofs.Sending.{reserves_one}
use Rattle.fab_table.proofs.lane_table.LaneTable.reserve.Goals as goal

pub load-requires : goal.load-requires
load-requires c = let at = c.requires.seat.1 in let low : c.args.dest < (part_at c.args.seat.now.seat.me.0 c.args.at).peers = subst (λ (z : ℕ). c.args.dest < z) (sym at.2) c.requires.seat.2 in
    let lane : lane_of c.args.self.now.peers c.args.me c.args.dest ≡ out_lane c.args.seat.now.seat.me.0 c.args.at c.args.dest = (λ i. lane_of (sym at.2 i) (sym at.1 i) c.args.dest) in
    (search rules, search rules, reserves_one _ _ _ _ _ _ _ at.0 low (c.still_word-word.ensures.word ∙ ap still_word lane) c.requires.idle c.requires.room)

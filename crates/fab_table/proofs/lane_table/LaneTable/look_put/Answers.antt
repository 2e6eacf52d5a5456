use Rattle.std.proofs.Common.{rules, ◌≡◌, ℕ, ◌<◌, sym, ap, ◌∙◌, subst}
use Rattle.fab_table.specs.Views.{part_at, lane_of, put_word}
use Rattle.fab_table.specs.Plays.{in_lane}
use Rattle.fab_table.proofs.Receiving.{looks_put}
use Rattle.fab_table.proofs.lane_table.LaneTable.look_put.Goals as goal

pub load-requires : goal.load-requires
load-requires c = let at = c.requires.seat.1 in let low : c.args.src < (part_at c.args.seat.now.seat.me.0 c.args.at).peers = subst (λ (z : ℕ). c.args.src < z) (sym at.2) c.requires.seat.2 in
    let lane : lane_of c.args.self.now.peers c.args.src c.args.me ≡ in_lane c.args.seat.now.seat.me.0 c.args.at c.args.src = (λ i. lane_of (sym at.2 i) c.args.src (sym at.1 i)) in
    (search rules, search rules, looks_put _ _ _ _ _ _ _ at.0 low (c.put_word-word.ensures.word ∙ ap put_word lane) c.requires.closed)

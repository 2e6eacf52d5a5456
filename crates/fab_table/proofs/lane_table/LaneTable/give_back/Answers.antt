use Rattle.std.proofs.Common.{rules, ◌≡◌, ℕ, ◌<◌, sym, ap, ◌∙◌, subst}
use Rattle.fab_table.specs.Views.{part_at, lane_of, got_word}
use Rattle.fab_table.specs.Plays.{in_lane}
use Rattle.fab_table.proofs.Receiving.{takes_one}
use Rattle.fab_table.proofs.lane_table.LaneTable.give_back.Goals as goal

pub store-requires : goal.store-requires
store-requires c = let at = c.requires.seat.1 in let low : c.args.src < (part_at c.args.seat.now.seat.me.0 c.args.at).peers = subst (λ (z : ℕ). c.args.src < z) (sym at.2) c.requires.seat.2 in
    let lane : lane_of c.args.self.now.peers c.args.src c.args.me ≡ in_lane c.args.seat.now.seat.me.0 c.args.at c.args.src = (λ i. lane_of (sym at.2 i) c.args.src (sym at.1 i)) in
    (search rules, search rules, takes_one _ _ _ _ _ _ _ _ c.requires.opened.0 c.requires.cell.0 at.0 low (c.got_word-word.ensures.word ∙ ap got_word lane) c.requires.opened.1 c.requires.opened.2 (search rules) c.requires.cell.1)

use Rattle.std.proofs.Common.{rules, ◌≡◌, ℕ, ◌<◌, sym, ap, ◌∙◌, subst}
use Rattle.fab_table.specs.Views.{part_at, lane_of, put_word}
use Rattle.fab_table.specs.Plays.{out_lane}
use Rattle.fab_table.proofs.Sending.{posts_pooled_one}
use Rattle.fab_table.proofs.lane_table.LaneTable.publish_pooled.Goals as goal

pub store-requires : goal.store-requires
store-requires c = let at = c.requires.seat.1 in let low : c.args.dest < (part_at c.args.seat.now.seat.me.0 c.args.at).peers = subst (λ (z : ℕ). c.args.dest < z) (sym at.2) c.requires.seat.2 in
    let lane : lane_of c.args.self.now.peers c.args.me c.args.dest ≡ out_lane c.args.seat.now.seat.me.0 c.args.at c.args.dest = (λ i. lane_of (sym at.2 i) (sym at.1 i) c.args.dest) in
    let s = c.requires.slot in (search rules, search rules, posts_pooled_one _ _ _ _ _ _ _ _ s.0 s.1 s.2 _ at.0 low (c.put_word-word.ensures.word ∙ ap put_word lane) c.requires.writing (search rules) s.7 s.4 s.5 s.8 s.9 s.6 s.3)

pub returns-clause-view : goal.returns-clause-view
returns-clause-view c = let at = c.requires.seat.1 in let low : c.args.dest < (part_at c.args.seat.now.seat.me.0 c.args.at).peers = subst (λ (z : ℕ). c.args.dest < z) (sym at.2) c.requires.seat.2 in
    let lane : lane_of c.args.self.now.peers c.args.me c.args.dest ≡ out_lane c.args.seat.now.seat.me.0 c.args.at c.args.dest = (λ i. lane_of (sym at.2 i) (sym at.1 i) c.args.dest) in
    λ a k b hand. c.store.ensures.2 c.args.at c.args.dest k a b at.0 low (c.put_word-word.ensures.word ∙ ap put_word lane) hand

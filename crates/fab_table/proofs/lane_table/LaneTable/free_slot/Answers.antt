use Rattle.std.proofs.Common.{rules, ◌≡◌, ℕ, ◌<◌, sym, ◌∙◌, subst}
use Rattle.fab_table.specs.declared.kinds.Part.{Part}
use Rattle.fab_table.specs.Views.{part_at, pool_word}
use Rattle.fab_table.proofs.Receiving.{frees_play}
use Rattle.fab_table.proofs.lane_table.LaneTable.free_slot.Goals as goal

pub store-requires : goal.store-requires
store-requires c = let s = c.requires.seat in let f = c.args.self.now in let p : Part = part_at c.args.seat.now.seat.me.0 c.args.at in
    let low : c.args.src < p.peers = subst (λ (z : ℕ). c.args.src < z) (sym s.2) s.3 in let word : c.pool_word-word.result ≡ pool_word p.peers c.args.slot = c.pool_word-word.ensures.word ∙ (λ i. pool_word (sym s.2 i) c.args.slot) in
    (search rules, search rules, frees_play _ _ _ _ _ _ _ c.args.slot c.requires.opened.0 c.requires.hand.0 s.1 low word c.requires.opened.1 c.requires.opened.2 c.requires.opened.3 c.requires.hand.1 c.requires.hand.2)

pub returns-clause-view : goal.returns-clause-view
returns-clause-view c = let s = c.requires.seat in let f = c.args.self.now in let p : Part = part_at c.args.seat.now.seat.me.0 c.args.at in
    let low : c.args.src < p.peers = subst (λ (z : ℕ). c.args.src < z) (sym s.2) s.3 in let word : c.pool_word-word.result ≡ pool_word p.peers c.args.slot = c.pool_word-word.ensures.word ∙ (λ i. pool_word (sym s.2 i) c.args.slot) in
    c.store.ensures.2 c.args.at c.args.src c.args.slot c.requires.opened.0 s.1 low word c.requires.opened.1 c.requires.opened.2 c.requires.opened.3

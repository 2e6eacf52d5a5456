use Rattle.std.proofs.Common.{rules, ◌≡◌, ℕ, ◌+◌, ◌*◌, ◌<◌, sym, ap, ◌∙◌, subst}
use Rattle.fab_table.specs.declared.kinds.Part.{Part}
use Rattle.fab_table.specs.Views.{part_at, pool_word}
use Rattle.fab_table.specs.Plays.{ClaimsAt}
use Rattle.fab_table.specs.Seats.{sat}
use Rattle.fab_table.proofs.Rows.{pair_below}
use Rattle.fab_table.proofs.Sending.{claims_play}
use Rattle.fab_table.proofs.lane_table.LaneTable.claim.Goals as goal

pub pool_word-word-requires : goal.pool_word-word-requires
pool_word-word-requires c = pair_below _ _ _ _ c.requires.seat.2 c.requires.slot.0

pub compare_exchange-found-requires : goal.compare_exchange-found-requires
compare_exchange-found-requires c = let at = c.requires.seat.1 in let f = c.args.self.now in let p : Part = part_at c.args.seat.now.seat.me.0 c.args.at in let d : ℕ = c.args.dest in let j : ℕ = c.args.j in let same = c.requires.slot.1 in
    let low : d < p.peers = subst (λ (z : ℕ). d < z) (sym at.2) c.requires.seat.2 in let near_j : j < p.pool = subst (λ (z : ℕ). j < z) (sym same) c.requires.slot.0 in
    let word : c.pool_word-word.result ≡ pool_word p.peers (d * p.pool + j) = c.pool_word-word.ensures.word ∙ (λ i. pool_word (sym at.2 i) (d * sym same i + j)) in
    (search rules, search rules, claims_play _ _ _ _ _ _ d j _ at.0 low near_j (search rules) (search rules) (search rules) word c.requires.idle (ap (λ (z : ℕ). z + 1) (sym at.1)))

pub returns-clause-view : goal.returns-clause-view
returns-clause-view c = let at = c.requires.seat.1 in let f = c.args.self.now in let p : Part = part_at c.args.seat.now.seat.me.0 c.args.at in let d : ℕ = c.args.dest in let j : ℕ = c.args.j in let same = c.requires.slot.1 in
    let low : d < p.peers = subst (λ (z : ℕ). d < z) (sym at.2) c.requires.seat.2 in let near_j : j < p.pool = subst (λ (z : ℕ). j < z) (sym same) c.requires.slot.0 in
    let word : c.pool_word-word.result ≡ pool_word p.peers (d * p.pool + j) = c.pool_word-word.ensures.word ∙ (λ i. pool_word (sym at.2 i) (d * sym same i + j)) in (
      c.compare_exchange-found.result,
      ((λ e. search rules), (λ e. search rules)),
      let told : ClaimsAt (sat c.args.seat.now) c.compare_exchange-found.result c.compare_exchange-found.new.seat.me c.args.at d j (d * p.pool + j) = c.compare_exchange-found.ensures.2 c.args.at d j at.0 low near_j word (ap (λ (z : ℕ). z + 1) (sym at.1)) in
          subst (λ (z : ℕ). ClaimsAt (sat c.args.seat.now) c.compare_exchange-found.result c.compare_exchange-found.new.seat.me c.args.at d j (d * z + j)) same told,
    )

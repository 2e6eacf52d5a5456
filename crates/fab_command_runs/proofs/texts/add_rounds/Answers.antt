use Rattle.std.proofs.Common.{List, arith, drop, get_or, length, subst, sym, take, ℕ, ◌+◌, ◌<◌, ◌≡◌}
use Rattle.fab_workloads.specs.declared.round.Round.{Round}
use Rattle.fab_fold.specs.Shares.{AreReceived}
use Rattle.fab_workloads.specs.Rounds.{share_of}
use Rattle.fab_command_runs.proofs.Telling.{done_more, received_is, round_told, split, told_so}
use Rattle.fab_command_runs.proofs.texts.add_rounds.Goals as goal

pub add_round-requires : goal.add_round-requires
add_round-requires c =
    let rounds = c.args.script.now.rounds in
    let k = c.loop-round.round-index in
    let round = c.round-item.result in
    let same = c.as_slice-round-items.ensures in
    let below = subst (λ (rs : List Round). k < length rs) same c.loop-round-test.true in
    let is = subst (λ (rs : List Round). round ≡ get_or rs k round) same c.round-item.is in
    let cut = received_is rounds k round below is c.args.script.now.peers c.args.r c.args.results.now c.part.result.now c.loop-round.done c.lines_in-lines.result c.loop-round.invariant.1 c.lines_in-lines.ensures.value c.part.ensures in
    let fits = c.requires.folds (take k rounds) round (drop (k + 1) rounds) (split rounds k round below is) in
    subst (λ (shares : List (List ℕ)). AreReceived round.coll c.args.r (share_of round c.args.r) shares) (sym cut) fits.0

pub loop-round-preserved : goal.loop-round-preserved
loop-round-preserved c =
    let rounds = c.args.script.now.rounds in
    let peers = c.args.script.now.peers in
    let r = c.args.r in
    let k = c.loop-round.round-index in
    let round = c.round-item.result in
    let same = c.as_slice-round-items.ensures in
    let below = subst (λ (rs : List Round). k < length rs) same c.loop-round-test.true in
    let is = subst (λ (rs : List Round). round ≡ get_or rs k round) same c.round-item.is in
    let lines = c.lines_in-lines in
    let cut = received_is rounds k round below is peers r c.args.results.now c.part.result.now c.loop-round.done lines.result c.loop-round.invariant.1 lines.ensures.value c.part.ensures in
    let fits = c.requires.folds (take k rounds) round (drop (k + 1) rounds) (split rounds k round below is) in
    let writes = told_so round r c.part.result.now _ _ _ cut fits.1 c.in_ok-add_round.ensures in (
      round_told rounds k round below is _ _ _ c.loop-round.invariant.0 writes,
      done_more rounds k round below is peers r c.loop-round.done lines.result c.loop-round.invariant.1 lines.ensures.value,
      omega (arith, c.loop-round.invariant.2, lines.ensures.few),
    )

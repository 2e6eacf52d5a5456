use Rattle.fab_base.proofs.Options.{on_err}
use Rattle.fab_finish.specs.Wanting.{Leaves}
use Rattle.fab_finish.proofs.Wanting.{goes_ends, grows_then, leaves_after}
use Rattle.fab_finish.proofs.rounds.settle.Goals as goal

pub returns-in_err-go_on-clause-grows : goal.returns-in_err-go_on-clause-grows
returns-in_err-go_on-clause-grows g c = grows_then c.args.peers.now c.steps.peers c.go_on.new.peers c.steps.invariant.grows c.go_on.ensures.grows

pub returns-in_err-go_on-clause-leaves : goal.returns-in_err-go_on-clause-leaves
returns-in_err-go_on-clause-leaves g c =
    on_err c.from_residual.result (Leaves c.args.peers.now c.go_on.new.peers)
    (leaves_after c.args.peers.now c.steps.peers c.go_on.new.peers (goes_ends c.args.peers.now c.steps.peers c.steps.invariant.on) c.in_err-go_on.ensures.leaves)

pub steps-preserved : goal.steps-preserved
steps-preserved g c =
    let here = c.in_ok-go_on.ensures in
    let before = c.steps.invariant in
    record {
      joined = here.joined;
      grows = grows_then c.args.peers.now c.steps.peers c.go_on.new.peers before.grows c.go_on.ensures.grows;
      on = λ first reached. here.on first (before.on first reached);
    }

pub returns-clause-grows : goal.returns-clause-grows
returns-clause-grows g c = grows_then c.args.peers.now c.steps.peers c.go_on.new.peers c.steps.invariant.grows c.go_on.ensures.grows

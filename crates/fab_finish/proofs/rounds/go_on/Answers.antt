use Rattle.std.proofs.Common.{arith}
use Rattle.fab_base.proofs.Options.{on_err}
use Rattle.fab_finish.specs.Wanting.{Leaves}
use Rattle.fab_finish.proofs.Freight.{not_raised}
use Rattle.fab_finish.proofs.Wanting.{goes_ends, grows_then, leaves_after}
use Rattle.fab_finish.proofs.rounds.go_on.Goals as goal

pub returns-in_err-went-clause-grows : goal.returns-in_err-went-clause-grows
returns-in_err-went-clause-grows g c = grows_then c.args.peers.now c.rounds.peers c.round.new.peers c.rounds.invariant.grows c.round.ensures.grows

pub returns-in_err-went-clause-leaves : goal.returns-in_err-went-clause-leaves
returns-in_err-went-clause-leaves g c =
    on_err c.from_residual.result (Leaves c.args.peers.now c.round.new.peers)
    (leaves_after c.args.peers.now c.rounds.peers c.round.new.peers (goes_ends c.args.peers.now c.rounds.peers c.rounds.invariant.on) c.in_err-went.ensures.leaves)

pub returns-then-went-clause-grows : goal.returns-then-went-clause-grows
returns-then-went-clause-grows g c = grows_then c.args.peers.now c.rounds.peers c.round.new.peers c.rounds.invariant.grows c.round.ensures.grows

pub returns-then-not-went-clause-grows : goal.returns-then-not-went-clause-grows
returns-then-not-went-clause-grows g c = grows_then c.args.peers.now c.rounds.peers c.round.new.peers c.rounds.invariant.grows c.round.ensures.grows

pub rounds-preserved : goal.rounds-preserved
rounds-preserved g c =
    let here = c.in_ok-went.ensures in
    let before = c.rounds.invariant in
    record {
      joined = here.joined;
      grows = grows_then c.args.peers.now c.rounds.peers c.round.new.peers before.grows c.round.ensures.grows;
      on = λ first reached. here.on first (before.on first reached);
      most = (let now = not_raised c.in_ok-went.went.stepped c.in_ok-went.went.moved c.rounds.peers c.round.new.peers c.if-went.false here.lowers in let was = before.most in omega (arith, now, was));
    }

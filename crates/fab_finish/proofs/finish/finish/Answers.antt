use Rattle.fab_base.proofs.Options.{on_err}
use Rattle.fab_finish.specs.Joined.{opened, actors, schedules}
use Rattle.fab_finish.proofs.Resting.{rests, rest_is}
use Rattle.fab_finish.proofs.Clearing.{cleared, cancel_none, all_quiet}
use Rattle.fab_finish.specs.Wanting.{Leaves}
use Rattle.fab_finish.proofs.Wanting.{goes_ends, grows_then, leaves_after}
use Rattle.fab_finish.proofs.finish.finish.Goals as goal

pub returns-then-not-all_done-clause-rest : goal.returns-then-not-all_done-clause-rest
returns-then-not-all_done-clause-rest g c = rest_is (actors c.settle.new.peers) (rests c.settle.new.peers c.in_ok-settle.ensures.joined c.in_ok-settle.ensures.still)

pub cancel_all-requires-clause-quiet : goal.cancel_all-requires-clause-quiet
cancel_all-requires-clause-quiet g c = all_quiet c.settle.new.peers c.in_ok-settle.ensures.joined c.in_ok-settle.ensures.still

pub cancel_all-requires-clause-rest : goal.cancel_all-requires-clause-rest
cancel_all-requires-clause-rest g c = rests c.settle.new.peers c.in_ok-settle.ensures.joined c.in_ok-settle.ensures.still

pub returns-clause-rest : goal.returns-clause-rest
returns-clause-rest g c = rest_is (actors c.cancel_all.new.peers) c.in_ok-cancel_all.ensures.rest

pub returns-clause-cleared : goal.returns-clause-cleared
returns-clause-cleared g c e conf lists reached =
    let now = c.settle.new.peers in
    let last = c.cancel_all.new.peers in
    let ends = c.in_ok-cancel_all.ensures.ends conf lists (c.in_ok-settle.ensures.on (opened conf lists) reached) in
    cleared conf lists (schedules last) (actors last) ends c.in_ok-cancel_all.ensures.rest (cancel_none now last c.in_ok-cancel_all.ensures.cancelled)

pub returns-in_err-cancel_all-clause-grows : goal.returns-in_err-cancel_all-clause-grows
returns-in_err-cancel_all-clause-grows g c = grows_then c.args.peers.now c.settle.new.peers c.cancel_all.new.peers c.settle.ensures.grows c.cancel_all.ensures.grows

pub returns-in_err-cancel_all-clause-leaves : goal.returns-in_err-cancel_all-clause-leaves
returns-in_err-cancel_all-clause-leaves g c =
    on_err c.from_residual-in_err-cancel_all.result (Leaves c.args.peers.now c.cancel_all.new.peers)
    (leaves_after c.args.peers.now c.settle.new.peers c.cancel_all.new.peers (goes_ends c.args.peers.now c.settle.new.peers c.in_ok-settle.ensures.on) c.in_err-cancel_all.ensures.leaves)

pub returns-clause-grows : goal.returns-clause-grows
returns-clause-grows g c = grows_then c.args.peers.now c.settle.new.peers c.cancel_all.new.peers c.settle.ensures.grows c.cancel_all.ensures.grows

use Rattle.std.proofs.Common.{rules, arith, ◌≡◌, length}
use Rattle.fab_ep.specs.Value.{seen}
use Rattle.fab_peer.specs.Turns.{told}
use Rattle.fab_rounds.specs.Rounds.{between}
use Rattle.fab_rounds.proofs.Making.{one_ran}
use Rattle.fab_rounds.proofs.rounds.more_rounds.Goals as goal

pub returns-clause-ran : goal.returns-clause-ran
returns-clause-ran g c =
    let none : c.stay-stayed.result ≡ 0 = omega (arith, c.if-stayed-gt0.false) in
    let e = c.round.ensures in
    let long : length c.round.new.peers ≡ length c.stay-stayed.new.peers = search rules in
    one_ran (λ p. between (told (seen g.P.Port) p.peer) p.moved p.failed) c.stay-stayed.result c.args.peers.now c.stay-stayed.new.peers c.round.new.peers none c.stay-stayed.ensures.ran long e.rounded e.risen

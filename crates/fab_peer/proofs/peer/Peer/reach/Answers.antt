use Rattle.std.proofs.Common.{sym, refl}
use Rattle.fab_peer.specs.Turns.{told}
use Rattle.fab_peer.proofs.Alone.{reach_not, reach_done, noted_line}
use Rattle.fab_peer.proofs.Leaving.{none_left}
use Rattle.fab_peer.proofs.peer.Peer.reach.Goals as goal

pub returns-then-not-cntr_reached-clause-on : goal.returns-then-not-cntr_reached-clause-on
returns-then-not-cntr_reached-clause-on g c =
    let a = told g.E.Sees.seen c.args.self.now in
    reach_not a a c.args.class c.args.n c.requires.next (sym c.if-not-cntr_reached.ensures) c.requires.log refl

pub returns-clause-on : goal.returns-clause-on
returns-clause-on g c =
    let seen = g.E.Sees.seen in
    let a = told seen c.args.self.now in
    let went = reach_done a (told seen c.noted.new.self) c.args.class c.args.n c.requires.next (sym c.if-not-cntr_reached.ensures) c.requires.log in
    noted_line c.noted.result a (told seen c.noted.new.self) _ went c.noted.ensures.told c.noted.ensures.done

pub returns-clause-left : goal.returns-clause-left
returns-clause-left g c =
    let seen = g.E.Sees.seen in
    let a = told seen c.args.self.now in
    none_left c.noted.result a (told seen c.noted.new.self) c.noted.ensures.left

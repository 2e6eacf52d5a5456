use Rattle.std.proofs.Common.{refl}
use Rattle.fab_base.specs.declared.peers.LineResult.TheVariants.{Count as Counted}
use Rattle.fab_model.specs.Calls.{Count}
use Rattle.fab_peer.specs.Turns.{told}
use Rattle.fab_peer.proofs.Alone.{calls_count, count_final, counted, still_line, noted_line}
use Rattle.fab_peer.proofs.Leaving.{none_left}
use Rattle.fab_peer.proofs.peer.Peer.count.Goals as goal

pub returns-clause-on : goal.returns-clause-on
returns-clause-on g c =
    let seen = g.E.Sees.seen in
    let a = told seen c.args.self.now in
    let went = still_line a (told seen c.noted.new.self) (Count c.args.class) (Counted c.cntr_read-ok.result c.cntr_readerr-err.result) (λ ctx. refl) (calls_count a c.args.class c.requires.next) (count_final c.args.class) c.requires.log
    (counted a.seen.held.state c.args.class c.cntr_read-ok.result c.cntr_readerr-err.result c.cntr_read-ok.ensures c.cntr_readerr-err.ensures) in
    noted_line c.noted.result a (told seen c.noted.new.self) _ went c.noted.ensures.told c.noted.ensures.done

pub returns-clause-left : goal.returns-clause-left
returns-clause-left g c =
    let seen = g.E.Sees.seen in
    let a = told seen c.args.self.now in
    none_left c.noted.result a (told seen c.noted.new.self) c.noted.ensures.left

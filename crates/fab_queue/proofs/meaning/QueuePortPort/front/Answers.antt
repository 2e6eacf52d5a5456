use Rattle.std.proofs.Common.{Some, refl, ap}
use Rattle.fab_queue.proofs.Clauses.{fronts, always_some, always_none}
use Rattle.fab_queue.proofs.meaning.QueuePortPort.front.Goals as goal

pub returns : goal.returns
returns g c =
    let all = fronts c.args.self.now c.look.new.self c.args.src c.lent.result c.look.ensures.within c.look.ensures.one c.look.ensures.rest c.lent.ensures.lent c.lent.ensures.next in (
      (refl, λ _. tt, (all.one.fronted, all.others, all.outgoing, all.number, all.peers, all.home, ap Some all.moves, all.saw)),
      record { gives = all.one.gives; next = always_some c.lent.result; lent = all.one.lent; all_taken = always_none c.lent.result; after = tt },
    )

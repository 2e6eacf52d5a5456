use Rattle.std.proofs.Common.{refl}
use Rattle.fab_link.proofs.Looks.{fronts}
use Rattle.fab_link.proofs.plain.PlainPortPort.front.Goals as goal

pub returns : goal.returns
returns c =
    let all = fronts c.args.self.now c.look.new.self c.args.src c.lent.result c.requires.below c.look.ensures.looked c.look.ensures.stored c.lent.ensures.sound c.lent.ensures.lent in (
      (refl, λ _. tt, (all.fronted, all.others, all.outgoing, all.number, all.peers, all.home, refl, all.all_taken)),
      record { gives = all.gives; next = all.next; lent = all.lent; all_taken = all.all_taken; after = tt },
    )

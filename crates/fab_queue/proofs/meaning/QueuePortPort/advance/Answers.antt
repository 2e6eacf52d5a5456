use Rattle.fab_queue.proofs.Clauses.{steps}
use Rattle.fab_queue.proofs.meaning.QueuePortPort.advance.Goals as goal

pub returns : goal.returns
returns g c =
    let all = steps _ _ _ c.take.ensures.within c.requires.lent c.take.ensures.taken in
    record { taken = all.taken; moves = all.moves; others = all.others; outgoing = all.outgoing; number = all.number; peers = all.peers; home = all.home }

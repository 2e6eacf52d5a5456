use Rattle.std.proofs.Common.{refl, arith}
use Rattle.atomic_table.specs.Table.{keeps}
use Rattle.fab_record.proofs.record.Record.turn.Goals as goal

pub load-requires : goal.load-requires
load-requires g c =
    let one = c.self.invariant.1 in (
      c.self.invariant.0,
      omega arith,
      λ s rule slots at fits. (g.T.Turn.next c.self.inside.seat.me.0, keeps, tt, tt, refl),
    )

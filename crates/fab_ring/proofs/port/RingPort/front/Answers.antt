use Rattle.std.proofs.Common.{ℕ, ◌<◌, sym, refl, ap, subst}
use Rattle.fab_table.specs.declared.kinds.Part.{Part}
use Rattle.fab_table.specs.declared.lane_table.PeerSeat.{PeerSeat}
use Rattle.fab_table.specs.Views.{part_at}
use Rattle.fab_ring.proofs.Facts.{comes_now}
use Rattle.fab_ring.proofs.Clauses.{fronting, looking}
use Rattle.fab_ring.proofs.port.RingPort.front.Goals as goal

pub returns : goal.returns
returns c = let q = c.args.self.now in let n = c.look.new.self in let s : ℕ = c.args.src in let p : Part = part_at q.seat.seat.me.0 0 in
    let all = fronting p (part_at n.seat.seat.me.0 0) s c.lent.result (subst (λ (z : ℕ). s < z) (sym q.fits.all_ins) c.requires.below) (comes_now p q.comes) (λ l. ap (λ (t : PeerSeat). part_at t.seat.me.0 0) (c.look.ensures.again l)) c.look.ensures.looked c.lent.ensures.lent in (
      (refl, λ _. tt, looking q n s c.lent.result c.look.ensures.port c.look.ensures.again c.lent.ensures.lent c.look.ensures.saw all),
      record { gives = all.gives; lent = all.lent; after = tt },
    )

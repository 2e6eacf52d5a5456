use Rattle.fab_core.proofs.Lending.{is_sharing}
use Rattle.fab_core.proofs.receiving.CoreMultiReceiving.sharing.Goals as goal

pub returns : goal.returns
returns g c = rw (← c.self.view_is) (is_sharing (record { caps = c.self.inside.caps; selective = c.self.inside.selective; most_message = c.self.inside.most_message; av = c.self.inside.av; rx = c.self.inside.rx; tx = c.self.inside.tx; target = c.self.inside.target; cq = c.self.inside.cq; counters = c.self.inside.counters; calls = c.self.inside.calls; multis = c.self.inside.multis }) c.self.invariant.4)

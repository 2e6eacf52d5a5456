use Rattle.std.proofs.Common.{sym, ap, ◌∙◌}
use Rattle.fab_model.specs.State.{lookup}
use Rattle.fab_av.proofs.Tables.{position-table}
use Rattle.fab_av.proofs.addresses.Av.index_of.Goals as goal

pub returns : goal.returns
returns c =
    let inside = c.self.inside in
    let stands = position-table inside.peers inside.by_index.items inside.by_peer.items c.args.peer c.self.invariant in
    rw (← c.self.view_is) (c.entry_at.ensures ∙ (ap (λ list. lookup list c.args.peer) c.deref.ensures.value ∙ sym stands))

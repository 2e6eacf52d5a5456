use Rattle.std.proofs.Common.{sym, ap, ◌∙◌}
use Rattle.fab_model.specs.State.{lookup}
use Rattle.fab_av.proofs.Tables.{peer_below, position-table}
use Rattle.fab_av.proofs.addresses.Av.lookup.Goals as goal

pub returns-in-Some-clause-below : goal.returns-in-Some-clause-below
returns-in-Some-clause-below c =
    let inside = c.self.inside in
    rw (← c.self.view_is) (peer_below inside.peers inside.by_index.items inside.by_peer.items c.args.index c.in-Some.peer c.self.invariant (sym (c.in-Some.ensures ∙ ap (λ list. lookup list c.args.index) c.deref.ensures.value)))

pub returns-in-Some-clause-once : goal.returns-in-Some-clause-once
returns-in-Some-clause-once c =
    let inside = c.self.inside in
    let stands = position-table inside.peers inside.by_index.items inside.by_peer.items c.in-Some.peer c.self.invariant in
    let found = c.self.invariant.found c.args.index c.in-Some.peer (sym (c.in-Some.ensures ∙ ap (λ list. lookup list c.args.index) c.deref.ensures.value)) in
    rw (← c.self.view_is) (stands ∙ found)

use Rattle.std.proofs.Common.{None, slice_set, ap, ◌∙◌, sym}
use Rattle.std.proofs.lemmas.Result.{err_from_is_err_and}
use Rattle.fab_base.specs.declared.peers.LineResult.TheVariants.{Done}
use Rattle.fab_model.specs.State.{lookup}
use Rattle.fab_av.specs.Addresses.{Addresses}
use Rattle.fab_av.proofs.Machines.{remove-none, remove-some, same_addresses}
use Rattle.fab_av.proofs.addresses.Av.remove.Goals as goal

pub returns-in_err-peer-clause-machine : goal.returns-in_err-peer-clause-machine
returns-in_err-peer-clause-machine c s has =
    let p = err_from_is_err_and c.from_residual.result c.from_residual.ensures.1 in
    let none = remove-none s c.args.index (ap (λ list. lookup list c.args.index) has.indices ∙ c.in_err-peer.ensures.no_entry.1) in
    rw (p.1, p.2, c.in_err-peer.ensures.no_entry.0, same_addresses s c.args.self.now has) none

pub returns-clause-machine : goal.returns-clause-machine
returns-clause-machine c s has =
    let here = has.indices ∙ sym (ap (λ (av : Addresses). av.indices) c.self.view_is) in
    let some = remove-some s c.args.index c.in_ok-peer.peer (ap (λ list. lookup list c.args.index) has.indices ∙ c.in_ok-peer.ensures.found) in
    some ∙ ap (λ list. (Done, record s { av = slice_set list c.args.index None })) here

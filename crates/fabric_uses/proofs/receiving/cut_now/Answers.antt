use Rattle.std.proofs.Common.{◌≡◌, Some}
use Rattle.fabric.specs.Words.{ErrEntry, Failure}
use Rattle.fabric_uses.specs.declared.receiving.Cut.{Cut}
use Rattle.fabric_uses.specs.Uses.{IsCutBy, first_unread}
use Rattle.fabric_uses.proofs.Answering.{of_read}
use Rattle.fabric_uses.proofs.receiving.cut_now.Goals as goal

pub returns-in-Some : goal.returns-in-Some
returns-in-Some g c =
    let cq = (g.E.Sees.seen c.args.endpoint.now).held.state.cq in
    λ none. of_read (λ (e : ErrEntry). first_unread cq ≡ Some (Failure e)) (λ (e : ErrEntry) (cut : Cut). IsCutBy cut e) c.in-Some.error c.cut_by.result (c.in-Some.ensures none) c.cut_by.ensures

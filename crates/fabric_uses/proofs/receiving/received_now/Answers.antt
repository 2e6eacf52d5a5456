use Rattle.std.proofs.Common.{◌≡◌, Some}
use Rattle.fabric.specs.Words.{Entry, Success}
use Rattle.fabric_uses.specs.Uses.{IsReceived, first_unread}
use Rattle.fabric_uses.proofs.Answering.{of_read}
use Rattle.fabric_uses.proofs.receiving.received_now.Goals as goal

pub returns-in-Some : goal.returns-in-Some
returns-in-Some g c =
    let cq = (g.E.Sees.seen c.args.endpoint.now).held.state.cq in
    λ none. of_read (λ (e : Entry). first_unread cq ≡ Some (Success e)) IsReceived c.in-Some.entry c.received_by.result (c.in-Some.ensures none) c.received_by.ensures

use Rattle.std.proofs.Common.{◌≡◌, ℕ, List, Some}
use Rattle.fabric.specs.Words.{ErrEntry, Failure}
use Rattle.fabric_uses.specs.Uses.{first_unread}
use Rattle.fabric_uses.proofs.Answering.{of_read, same_some}
use Rattle.fabric_uses.proofs.receiving.back_now.Goals as goal

pub returns-in-Some : goal.returns-in-Some
returns-in-Some g c =
    let cq = (g.E.Sees.seen c.args.endpoint.now).held.state.cq in
    λ none. of_read (λ (e : ErrEntry). first_unread cq ≡ Some (Failure e)) (λ (e : ErrEntry) (buf : List ℕ). e.buf ≡ Some buf) c.in-Some.error c.in-Some.error.buf (c.in-Some.ensures none) (same_some c.in-Some.error.buf)

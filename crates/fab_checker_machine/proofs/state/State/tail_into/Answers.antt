use Rattle.std.proofs.Common.{◌≡◌, refl, ap, sym, ◌∙◌, Bool}
use Rattle.std.specs.Prelude.{is_some}
use Rattle.fab_model.specs.State.{State}
use Rattle.fab_model.specs.Complete.{book, release}
use Rattle.fab_base.specs.Replies.{at_either}
use Rattle.fab_model.specs.Arrivals.{tail_to}
use Rattle.fab_checker_machine.specs.Seen.{state_of}
use Rattle.fab_checker_machine.proofs.state.State.tail_into.Goals as goal

pub returns : goal.returns
unfolding tail_to
returns c =
    let r = c.args.receive in
    let head = c.args.head.now in
    let multi : is_some r.least ≡ c.is_some-is_multi.result = sym c.is_some-is_multi.ensures in
    let booked = c.in_ok-book.ensures ∙ ap (λ (due : Bool). book due c.args.source head (state_of c.fill.new.self)) c.at_either.ensures
    ∙ ap (λ (x : State). book (at_either head.ack) c.args.source head x) c.in_ok-fill.ensures in
    c.in_ok-release.ensures r refl multi ∙ ap (λ (x : State). release r x) booked

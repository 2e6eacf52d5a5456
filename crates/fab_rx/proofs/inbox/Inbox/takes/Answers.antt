use Rattle.std.proofs.Common.{◌∙◌, sym, ap}
use Rattle.std.specs.Prelude.{is_some}
use Rattle.fab_model.specs.Arrivals.{is_wanted}
use Rattle.fab_match.specs.Signs.{fits}
use Rattle.fab_rx.specs.Stored.{Sits}
use Rattle.fab_rx.proofs.Keeping.{sits_agrees}
use Rattle.fab_rx.proofs.Known.{none_takes}
use Rattle.fab_rx.proofs.Tying.{found_alike}
use Rattle.fab_rx.proofs.inbox.Inbox.takes.Goals as goal

pub returns-then-not-is_message : goal.returns-then-not-is_message
returns-then-not-is_message g c =
    sym (ap is_some (none_takes c.args.source c.args.head.now c.args.self.now.rx.posted (sym c.is_message.ensures ∙ c.if-not-is_message.true)))

pub returns : goal.returns
returns g c =
    rw (← c.self.view_is)
    (c.is_some.ensures ∙ ap is_some c.first_posted.ensures.first
    ∙ found_alike (Sits c.self.inside.seats) (λ want. fits want c.sign_of.result) (is_wanted c.args.source c.args.head.now) (sits_agrees c.self.inside.seats c.args.source c.args.head.now c.sign_of.result c.sign_of.ensures.fits) _ _ c.self.invariant.kept.receives)

use Rattle.std.proofs.Common.{◌≡◌, count_by, ap, ◌∙◌, arith}
use Rattle.fab_base.proofs.Lists.{count_others}
use Rattle.fab_model.specs.State.{awaits}
use Rattle.fab_tx.specs.Transit.{Transit}
use Rattle.fab_tx.proofs.outbox.Outbox.deferred.Goals as goal

pub returns : goal.returns
returns c =
    let tx = c.args.self.now.tx in
    let awaiting : c.self.inside.awaiting ≡ count_by (awaits tx) tx.live = c.self.invariant.0.awaiting ∙ ap (λ (v : Transit). count_by (awaits v.tx) v.tx.live) c.self.view_is in
    omega (arith, c.in_use.ensures, awaiting, count_others (awaits tx) tx.live)

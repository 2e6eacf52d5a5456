use Rattle.std.proofs.Common.{◌≡◌, Some, None, rules, ap, ◌∙◌}
use Rattle.std.specs.Prelude.{position}
use Rattle.fab_base.specs.declared.operations.Coming.TheVariants.{Into}
use Rattle.fab_model.specs.State.{Receiving}
use Rattle.fab_model.specs.Arrivals.{is_wanted}
use Rattle.fab_model.specs.Receiving.{goes}
use Rattle.fab_checker_halves.specs.Seen.{rx_of}
use Rattle.fab_checker_halves.proofs.Placing.{placed_none, placed_some}
use Rattle.fab_checker_halves.proofs.halves.Receiving.place_message.Goals as goal

pub returns-in_default : goal.returns-in_default
returns-in_default c =
    let none : position (is_wanted c.args.source c.args.head.now) c.args.self.now.posted.items ≡ None = search rules in
    c.in_ok-keep_newcomer.ensures ∙ placed_none c.args.source c.args.head.now (rx_of c.args.self.now) none

pub returns : goal.returns
returns c =
    let at : position (is_wanted c.args.source c.args.head.now) c.args.self.now.posted.items ≡ Some c.in-Some.at = search rules in
    let r = c.in_ok-receive.receive in
    c.send_to.ensures ∙ ap (λ (x : Receiving). goes c.args.source (Into r r.used) x) c.in_ok-receive.ensures.seated
    ∙ placed_some c.args.source c.args.head.now (rx_of c.args.self.now) c.in-Some.at r at c.in_ok-receive.ensures.was

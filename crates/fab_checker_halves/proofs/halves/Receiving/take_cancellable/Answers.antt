use Rattle.std.proofs.Common.{rules, Some, None, ◌≡◌, sym, ap, ◌∙◌}
use Rattle.std.specs.Prelude.{position}
use Rattle.fab_model.specs.Receiving.{may_leave}
use Rattle.fab_checker_halves.specs.Seen.{rx_of}
use Rattle.fab_checker_halves.specs.Places.{chosen}
use Rattle.fab_checker_halves.proofs.Parts.{with_posted}
use Rattle.fab_model.proofs.Firsts.{first_at, first_none}
use Rattle.fab_checker_halves.proofs.halves.Receiving.take_cancellable.Goals as goal

pub returns-in_default-clause-found : goal.returns-in_default-clause-found
returns-in_default-clause-found c =
    let none : position (may_leave (rx_of c.args.self.now) (chosen c.args.which)) c.args.self.now.posted.items ≡ None = search rules in
    sym ((first_none (may_leave (rx_of c.args.self.now) (chosen c.args.which)) c.args.self.now.posted.items none).0)

pub returns-in_default-clause-rest : goal.returns-in_default-clause-rest
returns-in_default-clause-rest c =
    let none : position (may_leave (rx_of c.args.self.now) (chosen c.args.which)) c.args.self.now.posted.items ≡ None = search rules in
    let same = (first_none (may_leave (rx_of c.args.self.now) (chosen c.args.which)) c.args.self.now.posted.items none).1 in
    ap (λ posted. with_posted posted (rx_of c.args.self.now)) (sym same)

pub returns-clause-found : goal.returns-clause-found
returns-clause-found c =
    let at : position (may_leave (rx_of c.args.self.now) (chosen c.args.which)) c.args.self.now.posted.items ≡ Some c.in-Some.at = search rules in
    let first = first_at (may_leave (rx_of c.args.self.now) (chosen c.args.which)) c.remove.result c.args.self.now.posted.items c.in-Some.at at in
    ap Some c.remove.ensures.value ∙ sym (first.found)

pub returns-clause-rest : goal.returns-clause-rest
returns-clause-rest c =
    let at : position (may_leave (rx_of c.args.self.now) (chosen c.args.which)) c.args.self.now.posted.items ≡ Some c.in-Some.at = search rules in
    let first = first_at (may_leave (rx_of c.args.self.now) (chosen c.args.which)) c.remove.result c.args.self.now.posted.items c.in-Some.at at in
    ap (λ posted. with_posted posted (rx_of c.args.self.now)) (c.remove.ensures.items ∙ sym (first.rest))

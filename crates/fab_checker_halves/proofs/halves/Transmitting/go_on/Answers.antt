use Rattle.std.proofs.Common.{◌≡◌, OnOk, subst}
use Rattle.fab_model.specs.State.{Transmitting}
use Rattle.fab_checker_halves.specs.Seen.{tx_of}
use Rattle.fab_checker_halves.proofs.LetOut.{went_on}
use Rattle.fab_checker_halves.proofs.halves.Transmitting.go_on.Goals as goal

pub returns : goal.returns
returns c =
    let tx = tx_of c.args.self.now in
    let is = went_on c.args.to c.take_held-held.result.items tx (tx_of c.take_held-held.new.self) c.take_held-held.ensures.held c.take_held-held.ensures.rest in
    subst (λ (u : Transmitting). OnOk c.let_out.result (tx_of c.let_out.new.self ≡ u)) is c.let_out.ensures

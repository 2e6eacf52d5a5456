use Rattle.std.proofs.Common.{◌≡◌, ℕ, [], ◌∷◌, ◌++◌, OnOk, ap, subst, ◌∙◌}
use Rattle.fab_model.specs.State.{Transmitting}
use Rattle.fab_checker_halves.specs.Seen.{tx_of}
use Rattle.fab_checker_halves.proofs.LetOut.{accepted}
use Rattle.fab_checker_halves.proofs.halves.Transmitting.accept.Goals as goal

pub returns : goal.returns
returns c =
    let tx = tx_of c.args.self.now in
    let next : ℕ → Transmitting = λ n. record tx { ops = n } in
    let is = accepted c.args.to c.push.new.self.items c.args.operation tx (next c.in_ok-self.field-0) (tx_of c.take_held-held.new.self) (ap next c.in_ok-self.ensures)
    (c.in_ok-push.ensures.items ∙ ap (λ hs. hs ++ c.args.operation ∷ []) c.take_held-held.ensures.held) c.take_held-held.ensures.rest in
    subst (λ (u : Transmitting). OnOk c.let_out.result (tx_of c.let_out.new.self ≡ u)) is c.let_out.ensures

use Rattle.std.proofs.Common.{◌≡◌, Some, true, false, ap, sym, ◌∙◌, rules}
use Rattle.std.specs.Prelude.{is_some}
use Rattle.fab_model.specs.Receiving.{cancellable}
use Rattle.fab_checker_halves.specs.Seen.{rx_of}
use Rattle.fab_checker_machine.specs.Seen.{state_of}
use Rattle.fab_checker_halves.specs.Places.{chosen}
use Rattle.fab_checker_machine.proofs.Answering.{cancel_fault_is}
use Rattle.fab_checker_machine.proofs.state.State.cancel_fault.Goals as goal

pub returns-then-lacks_room : goal.returns-then-lacks_room
returns-then-lacks_room c =
    let there : is_some (cancellable (chosen c.args.which) (rx_of c.args.self.now.rx)) ≡ true = search rules in
    ap Some c.full.ensures ∙ cancel_fault_is (state_of c.args.self.now) (chosen c.args.which) true there (sym c.lacks_room.ensures ∙ c.if-lacks_room.true)

pub returns : goal.returns
returns c =
    let there : is_some (cancellable (chosen c.args.which) (rx_of c.args.self.now.rx)) ≡ true = search rules in
    cancel_fault_is (state_of c.args.self.now) (chosen c.args.which) false there (sym c.lacks_room.ensures ∙ c.if-lacks_room.false)

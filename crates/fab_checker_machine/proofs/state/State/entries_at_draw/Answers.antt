use Rattle.std.proofs.Common.{arith, ◌≡◌, Some, None, sym, rules, refl}
use Rattle.std.specs.Prelude.{position, find}
use Rattle.fab_model.specs.Matching.{takes}
use Rattle.fab_model.specs.Receiving.{draws}
use Rattle.fab_model.proofs.Firsts.{first_none}
use Rattle.fab_checker_machine.specs.Seen.{state_of}
use Rattle.fab_checker_halves.proofs.Placing.{found_at}
use Rattle.fab_checker_machine.proofs.Answering.{drawn_none, drawn_untaken, drawn_some}
use Rattle.fab_checker_machine.proofs.state.State.entries_at_draw.Goals as goal
use Rattle.fab_checker_machine.proofs.state.State.entries_at_draw.Goals.{else-is_some-via-then-is_some+in_ok-is_let_go+else-branch, else-is_some-via-else-is_some}

pub returns-in_default : goal.returns-in_default
returns-in_default c =
    let none : position (draws c.args.self.now.rx.unexpected.items) c.args.self.now.rx.posted.items ≡ None = search rules in
    sym (drawn_none (state_of c.args.self.now) ((first_none (draws c.args.self.now.rx.unexpected.items) c.args.self.now.rx.posted.items none).0))

pub returns-in_default-first_taken : goal.returns-in_default-first_taken
returns-in_default-first_taken c =
    let at : position (draws c.args.self.now.rx.unexpected.items) c.args.self.now.rx.posted.items ≡ Some c.in-Some.at = search rules in
    let r = c.index-receive.result.now in
    let drawn = found_at (draws c.args.self.now.rx.unexpected.items) r c.args.self.now.rx.posted.items c.in-Some.at at c.index-receive.ensures in
    let none : find (takes r.want) c.args.self.now.rx.unexpected.items ≡ None = search rules in
    sym (drawn_untaken (state_of c.args.self.now) r drawn none)

pub returns-then-branch : goal.returns-then-branch
returns-then-branch c =
    let at : position (draws c.args.self.now.rx.unexpected.items) c.args.self.now.rx.posted.items ≡ Some c.in-Some.at = search rules in
    let r = c.index-receive.result.now in
    let a = c.in-Some-first_taken.arrival.now in
    let drawn = found_at (draws c.args.self.now.rx.unexpected.items) r c.args.self.now.rx.posted.items c.in-Some.at at c.index-receive.ensures in
    let some : find (takes r.want) c.args.self.now.rx.unexpected.items ≡ Some a = search rules in
    rw (drawn_some (state_of c.args.self.now) r a drawn some, ← c.is_some.ensures, c.if-is_some.true, ← c.in_ok-is_let_go.ensures, c.if-branch.true, ← c.entries_given-given.ensures) refl

pub returns : goal.returns
returns c =
    let at : position (draws c.args.self.now.rx.unexpected.items) c.args.self.now.rx.posted.items ≡ Some c.in-Some.at = search rules in
    let r = c.index-receive.result.now in
    let a = c.in-Some-first_taken.arrival.now in
    let drawn = found_at (draws c.args.self.now.rx.unexpected.items) r c.args.self.now.rx.posted.items c.in-Some.at at c.index-receive.ensures in
    let some : find (takes r.want) c.args.self.now.rx.unexpected.items ≡ Some a = search rules in
    let told = drawn_some (state_of c.args.self.now) r a drawn some in
    elim c.else-is_some.branch [
      | else-is_some-via-then-is_some+in_ok-is_let_go+else-branch w ↦ rw (told, ← w.in_ok-is_let_go.ensures, w.if-branch.false, ← c.is_some.ensures, w.if-is_some.true, ← c.entries_given-given.ensures) (omega arith)
      | else-is_some-via-else-is_some w ↦ rw (told, ← c.is_some.ensures, w.if-is_some.false, ← c.entries_given-given.ensures) (omega arith)
    ]

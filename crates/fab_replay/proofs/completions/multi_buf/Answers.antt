use Rattle.std.proofs.Common.{◌≡◌, Some, None, sym, ◌∙◌, rules}
use Rattle.std.specs.Prelude.{find}
use Rattle.fab_model.specs.Peers.{first_some, released_buf}
use Rattle.fab_checker_machine.specs.Seen.{state_of}
use Rattle.fab_replay.specs.Seen.{is_made}
use Rattle.fab_replay.proofs.Multis.{buf_posted, buf_closing, buf_written}
use Rattle.fab_replay.proofs.completions.multi_buf.Goals as goal

pub returns-in-Some : goal.returns-in-Some
returns-in-Some c =
    let found : find (is_made c.args.call) c.args.state.now.rx.posted.items ≡ Some c.in-Some.receive.now = search rules in
    c.as_slice-in-Some.ensures ∙ sym (buf_posted (state_of c.args.state.now) c.args.call c.in-Some.receive.now found)

pub returns-in-Some-made_by : goal.returns-in-Some-made_by
returns-in-Some-made_by c =
    let none : find (is_made c.args.call) c.args.state.now.rx.posted.items ≡ None = search rules in
    let found : find (is_made c.args.call) c.args.state.now.rx.closing.items ≡ Some c.in-Some-made_by.receive.now = search rules in
    c.as_slice-in-Some-made_by.ensures ∙ sym (buf_closing (state_of c.args.state.now) c.args.call c.in-Some-made_by.receive.now none found)

pub returns-in-Some-first_released : goal.returns-in-Some-first_released
returns-in-Some-first_released c =
    let none : find (is_made c.args.call) c.args.state.now.rx.posted.items ≡ None = search rules in
    let gone : find (is_made c.args.call) c.args.state.now.rx.closing.items ≡ None = search rules in
    let found : first_some (released_buf c.args.call) c.args.state.now.cq.written.items ≡ Some c.in-Some-first_released.buf.now = search rules in
    c.as_slice-in-Some-first_released.ensures ∙ sym (buf_written (state_of c.args.state.now) c.args.call (Some c.in-Some-first_released.buf.now) none gone found)

pub returns-in-None-first_released : goal.returns-in-None-first_released
returns-in-None-first_released c =
    let none : find (is_made c.args.call) c.args.state.now.rx.posted.items ≡ None = search rules in
    let gone : find (is_made c.args.call) c.args.state.now.rx.closing.items ≡ None = search rules in
    let found : first_some (released_buf c.args.call) c.args.state.now.cq.written.items ≡ None = search rules in
    sym (buf_written (state_of c.args.state.now) c.args.call None none gone found)

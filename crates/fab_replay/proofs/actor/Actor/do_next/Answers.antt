use Rattle.std.proofs.Common.{◌≡◌, Some, None, refl, sym, ap, ◌∙◌}
use Rattle.std.specs.Option.{option_copied, option_map}
use Rattle.fab_model.specs.Calls.{call_of}
use Rattle.fab_model.specs.Peers.{next_line, wait_line, call_line, do_next}
use Rattle.fab_model.specs.Replay.{bind_line, bind_op}
use Rattle.fab_checker_machine.specs.Seen.{seen_call}
use Rattle.fab_replay.specs.Seen.{actor_of}
use Rattle.fab_replay.proofs.Steps.{next_wait, next_none, next_call, carried}
use Rattle.fab_replay.proofs.actor.Actor.do_next.Goals as goal

pub returns-in-Wait : goal.returns-in-Wait
returns-in-Wait c =
    let bound = c.args.bound.now in
    let a = actor_of bound c.args.self.now in
    let next : next_line a ≡ Some (bind_line bound c.in-Some.line.now) = sym c.next_line.ensures ∙ ap (λ o. option_map (bind_line bound) (option_copied o)) c.in-Some.is in
    carried c.wait.result a (actor_of bound c.wait.new.self) (wait_line a c.in-Wait.ctx) (do_next a) (next_wait a bound c.in-Some.line.now c.in-Wait.ctx next c.in-Wait.is) (c.wait.ensures bound)

pub returns-in-None : goal.returns-in-None
returns-in-None c =
    let bound = c.args.bound.now in
    let a = actor_of bound c.args.self.now in
    let next : next_line a ≡ Some (bind_line bound c.in-Some.line.now) = sym c.next_line.ensures ∙ ap (λ o. option_map (bind_line bound) (option_copied o)) c.in-Some.is in
    let none : call_of (bind_op bound c.in-Some.line.now.op) ≡ None = sym c.in_ok-call_of-in_default-op.ensures ∙ ap (option_map seen_call) c.in-None.is in
    (next_none a bound c.in-Some.line.now next c.in_default-op.not-Wait c.in_default-op.not-Reach none, refl)

pub returns-in-Some-2 : goal.returns-in-Some-2
returns-in-Some-2 c =
    let bound = c.args.bound.now in
    let a = actor_of bound c.args.self.now in
    let next : next_line a ≡ Some (bind_line bound c.in-Some.line.now) = sym c.next_line.ensures ∙ ap (λ o. option_map (bind_line bound) (option_copied o)) c.in-Some.is in
    let some : call_of (bind_op bound c.in-Some.line.now.op) ≡ Some (seen_call c.in-Some-2.call) = sym c.in_ok-call_of-in_default-op.ensures ∙ ap (option_map seen_call) c.in-Some-2.is in
    carried c.call.result a (actor_of bound c.call.new.self) (call_line a (seen_call c.in-Some-2.call)) (do_next a) (next_call a bound c.in-Some.line.now (seen_call c.in-Some-2.call) next c.in_default-op.not-Wait c.in_default-op.not-Reach some) (c.call.ensures bound)

use Rattle.std.proofs.Common.{◌≡◌, false, subst, ◌∷◌, [], Some, ap, ◌∙◌, length, length-append, arith, rules}
use Rattle.fab_model.specs.Calls.{do_call}
use Rattle.fab_face.specs.Answers.{is_final}
use Rattle.fab_face.specs.Requesting.{requesting}
use Rattle.fab_face.specs.declared.events.Event.TheVariants.{Call as Called}
use Rattle.fab_ep.specs.Value.{seen}
use Rattle.fab_ep.proofs.Accepting.{only_after, sends_out, sends_later}
use Rattle.fab_ep.proofs.endpoint.Endpoint.ask_owned.Goals as goal

pub accept_owned-requires-clause-granted : goal.accept_owned-requires-clause-granted
accept_owned-requires-clause-granted g c =
    subst (λ bytes. is_final (do_call c.admit_request.new.self.held.state (requesting c.args.request.now bytes [] (Some c.args.buf))).0 ≡ false) c.as_slice.ensures (c.in_default.ensures.ok (Some c.args.buf)).granted

pub accept_owned-requires-clause-room : goal.accept_owned-requires-clause-room
accept_owned-requires-clause-room g c = (c.in_default.ensures.ok (Some c.args.buf)).room

pub accept_owned-requires-clause-place : goal.accept_owned-requires-clause-place
accept_owned-requires-clause-place g c = let left = (c.in_default.ensures.ok (Some c.args.buf)).left in omega (arith, left)

pub let_out-requires-clause-place : goal.let_out-requires-clause-place
let_out-requires-clause-place g c =
    let left = (c.in_default.ensures.ok (Some c.args.buf)).left in
    let log = ap length c.accept_owned.ensures.did.log ∙ length-append c.admit_request.new.self.log (Called ∷ []) in
    let size = c.accept_owned.ensures.did.size in
    omega (arith, left, log, size)

pub let_out-requires-clause-only : goal.let_out-requires-clause-only
let_out-requires-clause-only g c = only_after (seen g.P.Port c.admit_request.new.self) (seen g.P.Port c.accept_owned.new.self) _ c.args.request.now.dest c.in-Some.peer c.in-Some.ensures.some c.accept_owned.ensures.did

pub returns-in_default-free-clause-ok : goal.returns-in_default-free-clause-ok
returns-in_default-free-clause-ok g c =
    sends_later g.P.Port.FIXED _ (seen g.P.Port c.args.self.now) (seen g.P.Port c.admit_request.new.self) (seen g.P.Port c.accept_owned.new.self) c.args.request.now.dest (search rules) (search rules) c.accept_owned.ensures.did c.accept_owned.ensures.pushed c.accept_owned.ensures.ins c.accept_owned.ensures.next

pub returns-clause-ok : goal.returns-clause-ok
returns-clause-ok g c =
    sends_out g.P.Port.FIXED _ (seen g.P.Port c.args.self.now) (seen g.P.Port c.admit_request.new.self) (seen g.P.Port c.accept_owned.new.self) (seen g.P.Port c.let_out.new.self) c.args.request.now.dest c.in-Some.peer (search rules) c.in-Some.ensures.some c.accept_owned.ensures.did c.accept_owned.ensures.pushed c.accept_owned.ensures.ins c.accept_owned.ensures.next c.let_out.ensures.out c.let_out.ensures.ins c.let_out.ensures.next

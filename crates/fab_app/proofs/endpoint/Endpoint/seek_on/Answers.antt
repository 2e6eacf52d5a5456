use Rattle.std.proofs.Common.{refl, sym}
use Rattle.fab_app.specs.Late.{sought}
use Rattle.fab_app.proofs.Answering.{ok_by, err_map}
use Rattle.fab_app.proofs.Late.{late_again, late_ok, late_not}
use Rattle.fab_app.proofs.endpoint.Endpoint.seek_on.Goals as goal

pub returns-then-not-was_late-clause-ok : goal.returns-then-not-was_late-clause-ok
returns-then-not-was_late-clause-ok g c =
    let seen = g.E.Sees.seen in
    ok_by c.seek_once-answer.result c.seek_once-answer.result refl (λ r. late_ok (sought c.args.seek c.args.ctx) (seen c.args.self.now) (seen c.late.self-inside.inner) (seen c.log_clear.new.self) (seen c.seek_once-answer.new.endpoint) c.late.invariant c.log_clear.ensures r) c.seek_once-answer.ensures.ok

pub returns-then-not-was_late-clause-err : goal.returns-then-not-was_late-clause-err
returns-then-not-was_late-clause-err g c =
    let seen = g.E.Sees.seen in
    err_map c.seek_once-answer.result c.seek_once-answer.result refl (λ why r. late_not (sought c.args.seek c.args.ctx) (seen c.args.self.now) (seen c.late.self-inside.inner) (seen c.log_clear.new.self) (seen c.seek_once-answer.new.endpoint) why c.late.invariant c.log_clear.ensures r) c.seek_once-answer.ensures.err

pub late-smaller : goal.late-smaller
late-smaller g c =
    let seen = g.E.Sees.seen in
    (late_again (sought c.args.seek c.args.ctx) (seen c.args.self.now) (seen c.late.self-inside.inner) (seen c.log_clear.new.self) (seen c.seek_once-answer.new.endpoint) c.seek_once-answer.result c.late.invariant c.log_clear.ensures c.known.ensures (sym c.if-not-was_late.ensures) c.seek_once-answer.ensures.err).1

pub late-preserved : goal.late-preserved
late-preserved g c =
    let seen = g.E.Sees.seen in
    (late_again (sought c.args.seek c.args.ctx) (seen c.args.self.now) (seen c.late.self-inside.inner) (seen c.log_clear.new.self) (seen c.seek_once-answer.new.endpoint) c.seek_once-answer.result c.late.invariant c.log_clear.ensures c.known.ensures (sym c.if-not-was_late.ensures) c.seek_once-answer.ensures.err).0

use Rattle.std.proofs.Common.{refl}
use Rattle.fab_peer.specs.Turns.{told}
use Rattle.fab_peer.proofs.Ending.{cancelled, none_cancelled}
use Rattle.fab_peer.proofs.peer.Peer.cancel_first.Goals as goal

pub returns-in_ok-push-in-Ok-clause-ended : goal.returns-in_ok-push-in-Ok-clause-ended
returns-in_ok-push-in-Ok-clause-ended g c =
    let seen = g.E.Sees.seen in
    let a = told seen c.args.self.now in
    let e = seen c.cancel_first.new.self in
    (cancelled a _ e c.requires.quiet c.in-Ok.ensures.ok (λ i. record { seen = c.log_clear.ensures i; lines = a.lines; results = a.results; kept = a.kept; schedule = c.in_ok-push-in-Ok.ensures.items i })).0

pub returns-in_ok-push-in-Ok-clause-quiet : goal.returns-in_ok-push-in-Ok-clause-quiet
returns-in_ok-push-in-Ok-clause-quiet g c =
    let seen = g.E.Sees.seen in
    let a = told seen c.args.self.now in
    let e = seen c.cancel_first.new.self in
    (cancelled a _ e c.requires.quiet c.in-Ok.ensures.ok (λ i. record { seen = c.log_clear.ensures i; lines = a.lines; results = a.results; kept = a.kept; schedule = c.in_ok-push-in-Ok.ensures.items i })).1

pub returns-in_ok-push-in-Ok-clause-fewer : goal.returns-in_ok-push-in-Ok-clause-fewer
returns-in_ok-push-in-Ok-clause-fewer g c e_ok =
    let seen = g.E.Sees.seen in
    let a = told seen c.args.self.now in
    let e = seen c.cancel_first.new.self in
    (cancelled a _ e c.requires.quiet c.in-Ok.ensures.ok (λ i. record { seen = c.log_clear.ensures i; lines = a.lines; results = a.results; kept = a.kept; schedule = c.in_ok-push-in-Ok.ensures.items i })).2

pub returns-in-Err-clause-ended : goal.returns-in-Err-clause-ended
returns-in-Err-clause-ended g c =
    let seen = g.E.Sees.seen in
    let b = told seen (record c.args.self.now { endpoint = c.cancel_first.new.self }) in
    (none_cancelled (told seen c.args.self.now) b c.requires.quiet c.known.ensures c.requires.read _ c.in-Err.ensures.err refl).0

pub returns-in-Err-clause-quiet : goal.returns-in-Err-clause-quiet
returns-in-Err-clause-quiet g c =
    let seen = g.E.Sees.seen in
    let b = told seen (record c.args.self.now { endpoint = c.cancel_first.new.self }) in
    (none_cancelled (told seen c.args.self.now) b c.requires.quiet c.known.ensures c.requires.read _ c.in-Err.ensures.err refl).1

pub returns-in-Err-clause-none : goal.returns-in-Err-clause-none
returns-in-Err-clause-none g c e =
    let seen = g.E.Sees.seen in
    let b = told seen (record c.args.self.now { endpoint = c.cancel_first.new.self }) in
    (none_cancelled (told seen c.args.self.now) b c.requires.quiet c.known.ensures c.requires.read _ c.in-Err.ensures.err refl).2

pub returns-in-Err-clause-same : goal.returns-in-Err-clause-same
returns-in-Err-clause-same g c e =
    let seen = g.E.Sees.seen in
    let b = told seen (record c.args.self.now { endpoint = c.cancel_first.new.self }) in
    (none_cancelled (told seen c.args.self.now) b c.requires.quiet c.known.ensures c.requires.read _ c.in-Err.ensures.err refl).3

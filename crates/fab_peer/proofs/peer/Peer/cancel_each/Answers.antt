use Rattle.std.proofs.Common.{◌≡◌, length, Ok, ap, arith, subst, sym}
use Rattle.fab_face.specs.Held.{Held}
use Rattle.fab_peer.specs.Turns.{told}
use Rattle.fab_peer.proofs.Ending.{ended_then, read_ended, read_quiet, read_posted}
use Rattle.fab_peer.proofs.peer.Peer.cancel_each.Goals as goal

pub read_all-requires : goal.read_all-requires
read_all-requires g c = record { counted = c.requires.quiet.counted }

pub receives-init : goal.receives-init
receives-init g c =
    let seen = g.E.Sees.seen in
    let then = c.in_ok-read_all.ensures in
    let a = told seen c.args.self.now in
    let b = told seen c.read_all.new.self in
    record { ended = read_ended a b _ then.on; quiet = read_quiet a b _ then.on c.requires.quiet; read = then.read }

pub cancel_first-requires : goal.cancel_first-requires
cancel_first-requires g c = record { quiet = c.receives.invariant.quiet; read = c.receives.invariant.read }

pub receives-preserved : goal.receives-preserved
receives-preserved g c =
    let seen = g.E.Sees.seen in
    let inv = c.receives.invariant in
    let here = c.in_ok-cancel_first.ensures in
    let then = c.in_ok-read_all-2.ensures in
    let m = told seen c.cancel_first.new.self in
    let b = told seen c.read_all-in-receives.new.self in
    record {
      ended = ended_then _ m b (ended_then _ (told seen c.receives.self) m inv.ended here.ended) (read_ended m b _ then.on);
      quiet = read_quiet m b _ then.on here.quiet;
      read = then.read;
    }

pub receives-smaller : goal.receives-smaller
receives-smaller g c =
    let seen = g.E.Sees.seen in
    let fewer = c.in_ok-cancel_first.ensures.fewer (ap Ok c.if-branch.true) in
    let same = read_posted (told seen c.cancel_first.new.self) (told seen c.read_all-in-receives.new.self) _ c.in_ok-read_all-2.ensures.on in
    omega (arith, fewer, same)

pub returns-clause-ended : goal.returns-clause-ended
returns-clause-ended g c =
    let seen = g.E.Sees.seen in
    ended_then (told seen c.args.self.now) (told seen c.receives.self) (told seen c.cancel_first.new.self) c.receives.invariant.ended c.in_ok-cancel_first.ensures.ended

pub returns-clause-read : goal.returns-clause-read
returns-clause-read g c =
    let same = c.in_ok-cancel_first.ensures.same (ap Ok c.if-branch.false) in
    subst (λ (h : Held). h.state.cq.taken_out ≡ length h.state.cq.written) (sym same) c.receives.invariant.read

pub read_all-requires-in-receives : goal.read_all-requires-in-receives
read_all-requires-in-receives g c = record { counted = c.in_ok-cancel_first.ensures.quiet.counted }

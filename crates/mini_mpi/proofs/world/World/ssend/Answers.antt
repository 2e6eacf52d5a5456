use Rattle.std.proofs.Common.{ℕ, Ok, ap, refl, subst}
use Rattle.fabric.specs.Words.{Match}
use Rattle.mini_mpi.specs.Going.{rank_of}
use Rattle.mini_mpi.specs.Posting.{BeginsSend}
use Rattle.mini_mpi.specs.Waiting.{Awaits}
use Rattle.mini_mpi.proofs.Ending.{awaited}
use Rattle.mini_mpi.proofs.world.World.ssend.Goals as goal

pub returns-clause-ok : goal.returns-clause-ok
returns-clause-ok g c =
    let a = c.args in
    let old = rank_of (g.E.Sees.seen a.self.now.endpoint) a.self.now.begun in
    let mid = rank_of (g.E.Sees.seen c.send_at.new.self.endpoint) c.send_at.new.self.begun in
    let new = rank_of (g.E.Sees.seen c.wait.new.self.endpoint) c.wait.new.self.begun in
    let fresh = c.in_ok-request.ensures.fresh in
    record {
      begun = mid;
      end = c.in_ok-completed.completed;
      begins = subst (λ (id : ℕ). BeginsSend g.E.Sees.fixed (record { dest = a.dest; tag = a.tag; buf = a.buf; id = id; level = Match }) old.sends mid.sends old.seen mid.seen) fresh c.in_ok-request.ensures.ok;
      others = (ap (λ deque. deque.items) c.in_ok-request.ensures.others.0, ap (λ vec. vec.items) c.in_ok-request.ensures.others.1);
      awaits = subst (λ (id : ℕ). Awaits g.E.Sees.fixed id mid new (Ok c.in_ok-completed.completed)) fresh (awaited g.E.Sees.fixed _ mid new c.wait.new.self.begun (Ok c.in_ok-completed.completed) c.in_ok-completed.ensures.awaited);
      gives = refl;
    }

use Rattle.std.proofs.Common.{List, ◌++◌, ◌∙◌, ap, refl, sym}
use Rattle.std.proofs.lemmas.List.{append-nil}
use Rattle.mini_mpi.specs.Going.{rank_of}
use Rattle.mini_mpi.specs.Requests.{End}
use Rattle.mini_mpi_parts.specs.declared.ended.Ended.{Ended}
use Rattle.mini_mpi.proofs.Collecting.{kept_back, kept_none}
use Rattle.mini_mpi.proofs.world.World.progress_for.Goals as goal

pub returns-in-Some-clause-heard : goal.returns-in-Some-clause-heard
returns-in-Some-clause-heard g c = (
  c.in_ok-polled.polled,
  record {
    mid = rank_of (g.E.Sees.seen c.next.new.self.endpoint) c.next.new.self.begun;
    comes = c.in_ok-polled.ensures.ok;
    seen = refl;
    calls = (ap (λ deque. deque.items) c.keep.ensures.others.0, ap (λ deque. deque.items) c.keep.ensures.others.1);
    ended = c.keep.ensures.ended ∙ ap (λ (xs : List (Ended End)). c.next.new.self.begun.ended.items ++ xs)
        (kept_back c.args.collective.now.work c.in_ok-polled.polled c.in-Some.other c.in-Some.ensures.back c.in-Some.ensures.taken);
    offered = (c.offer.ensures.work, c.offer.ensures.own, c.offer.ensures.received, c.offer.ensures.awaited, c.offer.ensures.failed, c.offer.ensures.calls.0, c.offer.ensures.calls.1);
  },
)

pub returns-in-None-clause-heard : goal.returns-in-None-clause-heard
returns-in-None-clause-heard g c = (
  c.in_ok-polled.polled,
  record {
    mid = rank_of (g.E.Sees.seen c.next.new.self.endpoint) c.next.new.self.begun;
    comes = c.in_ok-polled.ensures.ok;
    seen = refl;
    calls = (refl, refl);
    ended = sym (append-nil c.next.new.self.begun.ended.items) ∙ ap (λ (xs : List (Ended End)). c.next.new.self.begun.ended.items ++ xs)
        (kept_none c.args.collective.now.work c.in_ok-polled.polled c.in-None.ensures.back);
    offered = (c.offer.ensures.work, c.offer.ensures.own, c.offer.ensures.received, c.offer.ensures.awaited, c.offer.ensures.failed, c.offer.ensures.calls.0, c.offer.ensures.calls.1);
  },
)

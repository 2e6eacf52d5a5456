use Rattle.std.proofs.Common.{List, ◌++◌, ◌∙◌, ap, inl, inr}
use Rattle.mini_mpi.specs.Going.{never_of}
use Rattle.mini_mpi.specs.Requests.{End}
use Rattle.mini_mpi_parts.specs.declared.ended.Ended.{Ended}
use Rattle.mini_mpi.proofs.Going.{goes_once}
use Rattle.mini_mpi.proofs.posting.post_send.Goals as goal

pub returns-clause-goes : goal.returns-clause-goes
returns-clause-goes g c = goes_once g.E.Sees.fixed _ _ (inr (inl (record {
  send = c.in-Some.send;
  behind = c.pop_front.new.self.items;
  tried = c.try_send-tried.result;
  first = c.in-Some.ensures.items;
  tries = c.try_send-tried.ensures;
  sends = c.put_send.ensures.sends;
  receives = ap (λ deque. deque.items) c.put_send.ensures.receives;
  ended = c.put_send.ensures.ended ∙ ap (λ (xs : List (Ended End)). xs ++ never_of c.in-Some.send.id c.try_send-tried.result) c.reserve.ensures.items;
})))

use Rattle.std.proofs.Common.{List, ◌++◌, ◌∙◌, ap, inl, inr}
use Rattle.mini_mpi.specs.Going.{never_of}
use Rattle.mini_mpi.specs.Requests.{End}
use Rattle.mini_mpi_parts.specs.declared.ended.Ended.{Ended}
use Rattle.mini_mpi.proofs.Going.{goes_once}
use Rattle.mini_mpi.proofs.posting.post_receive.Goals as goal

pub returns-clause-goes : goal.returns-clause-goes
returns-clause-goes g c = goes_once g.E.Sees.fixed _ _ (inr (inr (inl (record {
  receive = c.in-Some.receive;
  behind = c.pop_front.new.self.items;
  tried = c.try_receive-tried.result;
  first = c.in-Some.ensures.items;
  tries = c.try_receive-tried.ensures;
  sends = ap (λ deque. deque.items) c.put_receive.ensures.sends;
  receives = c.put_receive.ensures.receives;
  ended = c.put_receive.ensures.ended ∙ ap (λ (xs : List (Ended End)). xs ++ never_of c.in-Some.receive.id c.try_receive-tried.result) c.reserve.ensures.items;
}))))

use Rattle.std.proofs.Common.{◌+◌, ◌≤◌, vec_len, vec_capacity}
use Rattle.std.specs.VecDeque.{deque_len}
use Rattle.mini_mpi.specs.Going.{rank_of}
use Rattle.mini_mpi.proofs.Turns.{Turns}
use Rattle.mini_mpi.proofs.posting.post_each_receive.Given as goal

abbrev pub invariant-receives : goal.invariant-receives
invariant-receives g l = record {
  turns : Turns l._receive (rank_of (g.E.Sees.seen l.fn.endpoint) l.fn.begun) (rank_of (g.E.Sees.seen l.endpoint) l.begun);
  room : vec_len l.begun.ended + deque_len l.fn.begun.receives ≤ vec_capacity l.begun.ended + l._receive;
}

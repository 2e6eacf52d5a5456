use Rattle.std.proofs.Common.{◌≡◌, ◌+◌, ◌≤◌, List, ◌++◌, length, vec_capacity, None}
use Rattle.fab_link.specs.Frames.{last_head, IsLane}
use Rattle.fab_table.specs.declared.kinds.Sent.{Sent}
use Rattle.fab_table.specs.Views.{frames_of}
use Rattle.fab_table.specs.Seats.{IsSame, in_of, out_of}
use Rattle.fab_ring.specs.Gather.{IsJoined, Grew, AreSpare}
use Rattle.fab_ring.proofs.emptying.empty_lane.Given as goal

abbrev pub invariant-loop-spare : goal.invariant-loop-spare
invariant-loop-spare l = record {
  same : IsSame l.fn.seat l.seat;
  joined : IsJoined l.fabric l.seat;
  taken : l.taken ≡ length (in_of l.seat l.reader l.source).taken;
  left : l.taken + length l.spares.items ≡ length (out_of l.seat l.source l.reader).posted;
  sizes : AreSpare l.spares.items;
  space : length l.frames.items + length l.spares.items ≤ vec_capacity l.frames;
  took : (xs : List Sent) × Grew l.fn.seat l.seat l.reader l.source xs × (l.frames.items ≡ l.fn.inside.frames.items ++ frames_of xs) × IsLane (last_head None (frames_of (in_of l.fn.seat l.reader l.source).taken)) (frames_of xs);
}

abbrev pub decreases-loop-spare : goal.decreases-loop-spare
decreases-loop-spare l = length l.spares.items

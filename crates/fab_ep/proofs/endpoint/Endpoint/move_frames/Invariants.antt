use Rattle.std.proofs.Common.{Bool, ◌≡◌, ◌≤◌, ◌<◌, ◌+◌, ◌⊎◌}
use Rattle.fab_ep.specs.Value.{seen}
use Rattle.fab_ep.proofs.Turning.{Going}
use Rattle.fab_ep.proofs.endpoint.Endpoint.move_frames.Given as goal

abbrev pub invariant-loop-turn : goal.invariant-loop-turn
invariant-loop-turn g l = record {
  going : (turned : Bool) × Going turned (seen g.P.Port l.fn.self) (seen g.P.Port l.self) l.taken l.posted;
  most : l.taken + l.posted ≤ l.budget;
  turns : l._turn ≤ l.taken + l.posted;
  left : (l.taken + l.posted < l.budget) ⊎ (l.taken + l.posted ≡ 0);
  pushed : l.self.pushed ≡ l.fn.self.pushed;
  next : l.self.next ≡ l.fn.self.next;
  budget : l.budget ≡ l.fn.budget;
}

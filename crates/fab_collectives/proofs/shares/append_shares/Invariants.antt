use Rattle.std.proofs.Common.{◌≡◌, ◌++◌, ◌-◌, ◌≤◌, map, max}
use Rattle.std.specs.List.{range_with_len}
use Rattle.fab_collectives.specs.Routes.{share_of}
use Rattle.fab_collectives.proofs.shares.append_shares.Given as goal

abbrev pub invariant-loop-s : goal.invariant-loop-s
invariant-loop-s l = record {
  appended : l.all.items ≡ l.fn.all.items ++ map (λ s. share_of l.fn.work l.fn.len l.fn.joined s) (range_with_len l.fn.from (l.s - l.fn.from));
  upto : l.s ≤ max l.fn.from l.fn.to;
}

use Rattle.std.proofs.Common.{◌≡◌, ◌-◌, length, take, sum_by}
use Rattle.fab_checker_halves.proofs.halves.Transmitting.is_full.Given as goal

abbrev pub invariant-loop-held : goal.invariant-loop-held
invariant-loop-held l = l.left ≡ l.most - length l.self.live.items - sum_by length (take l.held-index l.held-items)

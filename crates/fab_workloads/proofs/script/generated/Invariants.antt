use Rattle.std.proofs.Common.{◌≡◌, ◌++◌, map}
use Rattle.fab_model.specs.Calls.{upto}
use Rattle.fab_workloads.specs.Generator.{receives, sends}
use Rattle.fab_workloads.proofs.script.generated.Given as goal

abbrev pub invariant-loop-p : goal.invariant-loop-p
invariant-loop-p l = map (λ ops. ops.items) l.lists.items ≡ map (λ p. sends l.number l.peers l.messages p ++ receives l.number l.peers l.messages p) (upto l.p)

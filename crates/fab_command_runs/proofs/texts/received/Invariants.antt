use Rattle.std.proofs.Common.{◌≡◌, ◌++◌, drop, filter_map}
use Rattle.fab_workload_laws.specs.CollLaws.{bytes_taken}
use Rattle.fab_command_runs.proofs.texts.received.Given as goal

abbrev pub invariant-loop-line : goal.invariant-loop-line
invariant-loop-line l = l.shares.items ++ filter_map bytes_taken (drop l.line-index l.results) ≡ filter_map bytes_taken l.results

use Rattle.std.proofs.Common.{◌≡◌, length}
use Rattle.report_chart.proofs.loading.load_payloads.Given as goal

abbrev pub invariant-loop-payload : goal.invariant-loop-payload
invariant-loop-payload g l = length l.files.items ≡ l.payload-index

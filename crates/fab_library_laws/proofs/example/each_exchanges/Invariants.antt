use Rattle.std.proofs.Common.{◌≡◌, length}
use Rattle.fab_library_laws.specs.Exchanging.{AreExchanged}
use Rattle.fab_library_laws.proofs.Leaving.{AreSame}
use Rattle.fab_library_laws.proofs.example.each_exchanges.Given as goal

abbrev pub invariant-loop-me : goal.invariant-loop-me
invariant-loop-me l = record {
  count : length l.endpoints.items ≡ length l.fn.endpoints.items;
  exchanged : AreExchanged l.fn.endpoints.items l.endpoints.items;
  same : AreSame l.me l.fn.endpoints.items l.endpoints.items;
}

use Rattle.std.proofs.Common.{◌≡◌, vec_len}
use Rattle.fab_script.proofs.HoldsLemmas.{AreEmpty}
use Rattle.fab_script.proofs.parts.Parts.grow.Given as goal

abbrev pub invariant-loop : goal.invariant-loop
invariant-loop l = record {
  lines : vec_len l.fn.self.lines ≡ 0 → AreEmpty l.counter l.self.lines;
  opened : l.self.opened ≡ l.fn.self.opened;
  size : l.self.size ≡ l.fn.self.size;
}

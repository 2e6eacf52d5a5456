use Rattle.std.proofs.Common.{◌≡◌, ◌+◌, ◌≤◌, length, drop, count_by}
use Rattle.std.specs.Prelude.{zip}
use Rattle.fab_model.specs.Peers.{is_multi_line}
use Rattle.fab_replay.proofs.completions.multis_made.Given as goal

-- those so far, and those among the rest, are all
abbrev pub invariant-loop-line : goal.invariant-loop-line
invariant-loop-line l = record {
  counted : l.made + count_by (is_multi_line l.ctx) (zip (drop (length l.yielded) l.lines) (drop (length l.yielded) l.results)) ≡ count_by (is_multi_line l.ctx) (zip l.lines l.results);
  few : l.made ≤ length l.yielded;
}

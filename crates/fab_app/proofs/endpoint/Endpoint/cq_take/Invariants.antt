use Rattle.std.proofs.Common.{◌≡◌, ◌≤◌, ◌+◌, ◌-◌, ◌++◌, List, length}
use Rattle.std.specs.Vec.{vec_len, vec_capacity}
use Rattle.fab_base.specs.declared.entries.Entry.{Entry}
use Rattle.fab_app.specs.Takes.{TakesAll}
use Rattle.fab_app.proofs.endpoint.Endpoint.cq_take.Given as goal

abbrev pub invariant-entries : goal.invariant-entries
invariant-entries g l = record {
  took : (entries : List Entry) × (l.into.items ≡ l.fn.into.items ++ entries) × (length entries ≡ l._took) × TakesAll entries (g.E.Sees.seen l.fn.self) (g.E.Sees.seen l.self-inside.inner);
  room : vec_len l.into + (l.most - l._took) ≤ vec_capacity l.into;
  most : l.most ≡ l.fn.most;
}

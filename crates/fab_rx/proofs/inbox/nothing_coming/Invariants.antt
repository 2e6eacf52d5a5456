use Rattle.std.proofs.Common.{◌≡◌, replicate, None}
use Rattle.fab_rx.proofs.inbox.nothing_coming.Given as goal

abbrev pub invariant-loop-peer : goal.invariant-loop-peer
invariant-loop-peer l = l.coming.items ≡ replicate l._peer None

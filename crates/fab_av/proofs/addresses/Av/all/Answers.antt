use Rattle.fab_av.proofs.Numbered.{table_of_all}
use Rattle.fab_av.proofs.addresses.Av.all.Goals as goal

pub invariant_of-result : goal.invariant_of-result
invariant_of-result c = rw (c.in_ok-by_index.ensures, c.in_ok-by_peer.ensures) (table_of_all c.args.peers (c.if-peers-gt-MOST_INDICES.false))

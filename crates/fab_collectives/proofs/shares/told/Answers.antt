use Rattle.std.proofs.Common.{◌≡◌, ℕ, ◌-◌, ◌++◌, length, ap, ap₂, ◌∙◌, arith}
use Rattle.fab_topology.specs.declared.kinds.Topology.{Topology}
use Rattle.fab_topology.specs.Rounds.{distance, waits_for, width}
use Rattle.fab_collectives.specs.Routes.{heard_within, topology_of}
use Rattle.fab_collectives.proofs.Joining.{told_more}
use Rattle.fab_collectives.proofs.shares.told.Goals as goal

pub loop-k-preserved : goal.loop-k-preserved
loop-k-preserved c = let peers = c.args.work.peers in let own = c.args.own.now in let topology = topology_of c.args.work (length own) in
    told_more topology (length own) c.args.received.now own (width topology peers c.args.round) c.loop-k.k c.saturating_sub-ahead.result c.loop-k.bytes.items c.append_first.new.bytes.items c.loop-k.invariant
    (c.saturating_sub-ahead.ensures ∙ ap₂ (λ (x y : ℕ). x - y) (c.width-width.ensures ∙ ap (λ (t : Topology). width t peers c.args.round) c.topology-topology.ensures)
    (c.distance.ensures ∙ ap (λ (t : Topology). distance t c.loop-k.k) c.topology-topology.ensures))
    c.in_ok-append_first.ensures

pub returns : goal.returns
returns c = let peers = c.args.work.peers in let own = c.args.own.now in let topology = topology_of c.args.work (length own) in
    let end : c.loop-k.k ≡ c.waits_for-k-end.result = let over = c.loop-k-test.false in let upto = c.loop-k.auto.k-end in omega arith in
    c.from_vec.ensures ∙ c.loop-k.invariant
    ∙ ap (λ (n : ℕ). own ++ heard_within topology (length own) c.args.received.now (width topology peers c.args.round) n)
    (end ∙ c.waits_for-k-end.ensures ∙ ap (λ (t : Topology). waits_for t c.args.round) c.topology-topology.ensures)

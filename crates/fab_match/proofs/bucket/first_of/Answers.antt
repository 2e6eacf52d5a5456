use Rattle.std.proofs.Common.{◌≡◌, ◌<◌, ◌≤◌, ◌-◌, ◌+◌, ◌∙◌, ℕ, List, true, false, length, ap, sym, arith, subst}
use Rattle.std.specs.Prelude.{find}
use Rattle.slab.specs.Slab.{slab_len}
use Rattle.fab_match.specs.declared.chains.Link.{Link}
use Rattle.fab_match.specs.Chains.{IsChain, next_of, prev_of}
use Rattle.fab_match.specs.Bucket.{held}
use Rattle.fab_match.proofs.Writes.{read}
use Rattle.fab_match.proofs.Walking.{Walks, Onward, Onward-leads, Leads-same, walks_end, walks_out, walks_first, walks_on, walks_within}
use Rattle.fab_match.proofs.bucket.first_of.Goals as goal

pub loop-init : goal.loop-init
loop-init g c =
    let h : (xs : List ℕ) × IsChain c.args.chains.now c.args.head xs × (length xs ≤ slab_len c.args.cards.now) = c.requires in
    let at : c.args.head < (length c.args.chains.now.links.items) = omega (arith, h.1.0, h.1.1) in
    let first : (next_of c.args.chains.now.links.items) c.args.head ≡ c.index.result.now.next = ap (λ (l : Link). l.next) (sym (read c.args.chains.now.links.items c.args.head c.index.result.now at c.index.ensures)) in
    let onward : Onward c.args.chains.now.heads (length c.args.chains.now.links.items) (next_of c.args.chains.now.links.items) ((next_of c.args.chains.now.links.items) c.args.head) h.0 c.args.head = Onward-leads c.args.chains.now.heads (length c.args.chains.now.links.items) (next_of c.args.chains.now.links.items) (prev_of c.args.chains.now.links.items) c.args.head h.0 c.args.head h.1.2 in (
      h.1.0,
      omega arith,
      record {
        rest = h.0;
        onward = subst (λ k. Onward c.args.chains.now.heads (length c.args.chains.now.links.items) (next_of c.args.chains.now.links.items) k h.0 c.args.head) first onward;
        short = omega (arith, h.2, c.len-end.ensures);
        found = λ xs is. ap (find (held c.args.cards.now (λ card. g.T.Test.passes c.args.test.now card))) (Leads-same c.args.chains.now.heads (length c.args.chains.now.links.items) (next_of c.args.chains.now.links.items) (prev_of c.args.chains.now.links.items) c.args.head c.args.head xs h.0 h.1.0 is.2 h.1.2);
      },
    )

pub returns-then-node-chains : goal.returns-then-node-chains
returns-then-node-chains g c = λ xs is. sym (walks_end c.args.chains.now.heads (length c.args.chains.now.links.items) (next_of c.args.chains.now.links.items) (held c.args.cards.now (λ card. g.T.Test.passes c.args.test.now card)) (λ xs. IsChain c.args.chains.now c.args.head xs) c.args.head c.loop.invariant.0 c.loop.node (c.len-end.result - c.loop.counter) c.loop.invariant.2 c.if-node-chains.true xs is)

pub returns-then-passes_at : goal.returns-then-passes_at
returns-then-passes_at g c = λ xs is.
    let passes : (held c.args.cards.now (λ card. g.T.Test.passes c.args.test.now card)) (c.loop.node - c.args.chains.now.heads) ≡ true = sym c.passes_at.ensures ∙ c.if-passes_at.true in
    sym (walks_first c.args.chains.now.heads (length c.args.chains.now.links.items) (next_of c.args.chains.now.links.items) (held c.args.cards.now (λ card. g.T.Test.passes c.args.test.now card)) (λ xs. IsChain c.args.chains.now c.args.head xs) c.args.head c.loop.invariant.0 c.loop.node (c.len-end.result - c.loop.counter) c.loop.invariant.2 c.if-node-chains.false passes xs is)

pub index-requires-in-loop : goal.index-requires-in-loop
index-requires-in-loop g c =
    let within : c.loop.node < (length c.args.chains.now.links.items) = walks_within c.args.chains.now.heads (length c.args.chains.now.links.items) (next_of c.args.chains.now.links.items) (held c.args.cards.now (λ card. g.T.Test.passes c.args.test.now card)) (λ xs. IsChain c.args.chains.now c.args.head xs) c.args.head c.loop.invariant.0 c.loop.node (c.len-end.result - c.loop.counter) c.loop.invariant.2 c.if-node-chains.false in
    omega (arith, within, c.args.chains.now.links.ok)

pub loop-preserved : goal.loop-preserved
loop-preserved g c =
    let within : c.loop.node < (length c.args.chains.now.links.items) = walks_within c.args.chains.now.heads (length c.args.chains.now.links.items) (next_of c.args.chains.now.links.items) (held c.args.cards.now (λ card. g.T.Test.passes c.args.test.now card)) (λ xs. IsChain c.args.chains.now c.args.head xs) c.args.head c.loop.invariant.0 c.loop.node (c.len-end.result - c.loop.counter) c.loop.invariant.2 c.if-node-chains.false in
    let fails : (held c.args.cards.now (λ card. g.T.Test.passes c.args.test.now card)) (c.loop.node - c.args.chains.now.heads) ≡ false = sym c.passes_at.ensures ∙ c.if-passes_at.false in
    let before : c.loop.counter < c.len-end.result = c.loop-test.true in
    let left : c.len-end.result - c.loop.counter ≡ (c.len-end.result - (c.loop.counter + 1)) + 1 = omega arith in
    let on = walks_on c.args.chains.now.heads (length c.args.chains.now.links.items) (next_of c.args.chains.now.links.items) (held c.args.cards.now (λ card. g.T.Test.passes c.args.test.now card)) (λ xs. IsChain c.args.chains.now c.args.head xs) c.args.head c.loop.invariant.0 c.loop.node (c.len-end.result - (c.loop.counter + 1))
    (subst (λ n. Walks c.args.chains.now.heads (length c.args.chains.now.links.items) (next_of c.args.chains.now.links.items) (held c.args.cards.now (λ card. g.T.Test.passes c.args.test.now card)) (λ xs. IsChain c.args.chains.now c.args.head xs) c.loop.node n c.args.head) left c.loop.invariant.2) c.if-node-chains.false fails in
    let next : (next_of c.args.chains.now.links.items) c.loop.node ≡ c.index-in-loop.result.now.next = ap (λ (l : Link). l.next) (sym (read c.args.chains.now.links.items c.loop.node c.index-in-loop.result.now within c.index-in-loop.ensures)) in
    (c.loop.invariant.0, omega arith, subst (λ k. Walks c.args.chains.now.heads (length c.args.chains.now.links.items) (next_of c.args.chains.now.links.items) (held c.args.cards.now (λ card. g.T.Test.passes c.args.test.now card)) (λ xs. IsChain c.args.chains.now c.args.head xs) k (c.len-end.result - (c.loop.counter + 1)) c.args.head) next on)

pub returns : goal.returns
returns g c = λ xs is.
    let none : c.len-end.result - c.loop.counter ≡ 0 = omega (arith, c.loop-test.false) in
    sym (walks_out c.args.chains.now.heads (length c.args.chains.now.links.items) (next_of c.args.chains.now.links.items) (held c.args.cards.now (λ card. g.T.Test.passes c.args.test.now card)) (λ xs. IsChain c.args.chains.now c.args.head xs) c.args.head c.loop.invariant.0 c.loop.node (c.len-end.result - c.loop.counter) c.loop.invariant.2 none xs is)

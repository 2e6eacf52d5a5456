use Rattle.std.proofs.Common.{arith, ◌≡◌, ◌+◌, ◌∙◌, ap, sym, subst, ◌<◌, length}
use Rattle.fab_match.specs.declared.chains.Link.{Link}
use Rattle.fab_match.specs.Chains.{IsLinked, next_of, prev_of}
use Rattle.fab_match.proofs.Writes.{read, passes, Chain-passed}
use Rattle.fab_match.proofs.chains.Chains.unlink.Goals as goal

pub returns-clause-chains : goal.returns-clause-chains
returns-clause-chains c =
    let linked : IsLinked c.args.self.now c.args.place = c.requires (omega (arith, c.if-self-eq0.false)) in
    let ls = c.args.self.now.links.items in
    let node = c.args.self.now.heads + c.args.place in
    let x = c.index-link.result.now in
    let same = read ls node x linked.0 c.index-link.ensures in
    let before : prev_of ls node ≡ x.prev = ap (λ (l : Link). l.prev) (sym same) in
    let after : next_of ls node ≡ x.next = ap (λ (l : Link). l.next) (sym same) in
    Chain-passed c.args.self.now.heads ls c.args.place x c.index_mut.result.now c.index_mut-2.result.now
    (passes ls node x c.index_mut.result.now c.index_mut-2.result.now linked.0 c.index-link.ensures
    (subst (λ k. k < length ls) before linked.2) (subst (λ k. k < length ls) after linked.1)
    (ap (next_of ls) (sym before) ∙ linked.3) (ap (prev_of ls) (sym after) ∙ linked.4)
    c.index_mut.ensures.value c.index_mut-2.ensures.value)

use Rattle.fab_core.proofs.Lasting.{arrives_lent}
use Rattle.std.proofs.Common.{◌≡◌, ◌∙◌, ◌<◌, length, sym, subst}
use Rattle.fab_rx.specs.Arriving.{begun_of}
use Rattle.fab_core.specs.Parts.{Parts}
use Rattle.fab_core.specs.Doing.{}
use Rattle.fab_core.proofs.Beginning.{arrives_plain, most_same, arrives_served}
use Rattle.fab_core.proofs.parts.Core.begin.Goals as goal

pub invariant_of-self-then-not-asks : goal.invariant_of-self-then-not-asks
invariant_of-self-then-not-asks g c =
    let within : c.args.source < length c.self.inside.rx.begun = subst (λ (p : Parts). c.args.source < length p.rx.begun) (sym c.self.view_is) c.requires.source in
    let nothing = subst (λ (p : Parts). begun_of p.rx c.args.source ≡ _) (sym c.self.view_is) c.requires.nothing in
    let other = sym c.is_request.ensures ∙ c.if-is_request.false in
    let silent = sym c.asks.ensures ∙ c.if-not-asks.true in (
      c.self.invariant.0,
      c.self.invariant.1 ∙ most_same _ c.self.invariant.2 c.known.ensures c.args.source c.args.head.now within nothing c.arrive.result c.arrive.new.self c.arrive.ensures.ok c.arrive.ensures.err,
      arrives_plain _ c.self.invariant.2 c.known.ensures c.args.source c.args.head.now within nothing c.arrive.result c.arrive.new.self c.arrive.ensures.ok c.arrive.ensures.err silent,
      arrives_served _ c.self.invariant.2 c.known.ensures c.args.source c.args.head.now within nothing c.arrive.result c.arrive.new.self c.arrive.ensures.ok c.arrive.ensures.err c.self.inside.target c.self.invariant.3 (λ request. absurd (cc)),
      arrives_lent (record { caps = c.self.inside.caps; selective = c.self.inside.selective; most_message = c.self.inside.most_message; av = c.self.inside.av; rx = c.self.inside.rx; tx = c.self.inside.tx; target = c.self.inside.target; cq = c.self.inside.cq; counters = c.self.inside.counters; calls = c.self.inside.calls; multis = c.self.inside.multis }) c.self.invariant.4 c.opened.ensures c.self.invariant.2.earlier c.args.source c.args.head.now c.arrive.result c.arrive.new.self c.arrive.ensures.ok c.arrive.ensures.err,
      c.self.invariant.5,
    )

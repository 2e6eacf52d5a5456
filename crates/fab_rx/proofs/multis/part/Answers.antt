use Rattle.std.proofs.Common.{◌≡◌, ◌∙◌, Some, length, ap, arith}
use Rattle.fab_rx.specs.declared.stored.Waiting.{Waiting}
use Rattle.fab_rx.proofs.Completing.{part_short, part_well}
use Rattle.fab_rx.proofs.multis.part.Goals as goal

pub returns-then-head-space : goal.returns-then-head-space
returns-then-head-space c w r bytes there multi ctx long =
    let both : Some c.in-Some.waiting.now ≡ Some w = c.in-Some.ensures ∙ there in
    let same : c.in-Some.waiting.now ≡ w = cc in
    let len = ap length c.as_slice.ensures in
    let room = c.saturating_sub-space.ensures in
    let le = c.if-head-space.true in
    part_well r c.args.start c.args.source c.args.head.now bytes c.in-Some.waiting.now.seat.ctx (length c.in-Some.waiting.now.seat.buf) (ap (λ (x : Waiting). x.seat.ctx) same ∙ ctx) (ap (λ (x : Waiting). length x.seat.buf) same ∙ long) multi (omega arith)

pub returns : goal.returns
returns c w r bytes there multi ctx long =
    let both : Some c.in-Some.waiting.now ≡ Some w = c.in-Some.ensures ∙ there in
    let same : c.in-Some.waiting.now ≡ w = cc in
    let len = ap length c.as_slice.ensures in
    let room = c.saturating_sub-space.ensures in
    let lt = c.if-head-space.false in
    part_short r c.args.start c.args.source c.args.head.now bytes c.in-Some.waiting.now.seat.ctx (length c.in-Some.waiting.now.seat.buf) (ap (λ (x : Waiting). x.seat.ctx) same ∙ ctx) (ap (λ (x : Waiting). length x.seat.buf) same ∙ long) multi c.tag_of.result c.tag_of.ensures c.saturating_sub-space.result (omega arith) lt

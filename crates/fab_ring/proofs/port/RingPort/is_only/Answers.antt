use Rattle.std.proofs.Common.{ℕ, ◌<◌, cond, length, sym, ap, ◌∙◌, subst}
use Rattle.std.proofs.lemmas.Bool.{eqb-true}
use Rattle.fab_ring.proofs.Hold.{flag_at}
use Rattle.fab_ring.proofs.Counting.{only_up}
use Rattle.fab_ring.proofs.port.RingPort.is_only.Goals as goal

pub returns-then-index : goal.returns-then-index
returns-then-index c = let q = c.args.self.now in let s : ℕ = c.args.src in let near : s < length q.opened.items = subst (λ (z : ℕ). s < z) (sym q.fits.all_open) c.requires in let up = flag_at q.opened.items s c.index.result.now near c.index.ensures ∙ c.if-index.true in
    λ one. only_up q.opened.items s near (sym q.counted ∙ eqb-true q.open_count 1 one ∙ ap (λ b. cond b 1 0) (sym up))

pub returns : goal.returns
returns c = let q = c.args.self.now in let s : ℕ = c.args.src in let near : s < length q.opened.items = subst (λ (z : ℕ). s < z) (sym q.fits.all_open) c.requires in let down = flag_at q.opened.items s c.index.result.now near c.index.ensures ∙ c.if-index.false in
    λ none. only_up q.opened.items s near (sym q.counted ∙ eqb-true q.open_count 0 none ∙ ap (λ b. cond b 1 0) (sym down))

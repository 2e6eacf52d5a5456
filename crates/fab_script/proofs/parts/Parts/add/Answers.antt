use Rattle.std.proofs.Common.{◌≡◌, ◌+◌, ◌-◌, ◌<◌, ℕ, vec_len, length, get_or, refl, arith, ap, sym, ◌∙◌, subst}
use Rattle.fab_script.proofs.HoldsLemmas.{holds_add}
use Rattle.fab_script.proofs.parts.Parts.add.Goals as goal

pub returns : goal.returns
returns c = λ n items h.
    let old = c.args.self.now in
    let k = c.index-peer.result.now in
    let opened = old.opened.items in
    let filled : 0 < length opened = subst (λ (m : ℕ). 0 < m) old.opened.ok.0 c.requires.some in
    let last : k ≡ get_or opened (length opened - 1) k = c.index-peer.ensures ∙ ap (λ m. get_or opened (m - 1) k) (c.len.ensures ∙ old.opened.ok.0) in
    let below : k < vec_len old.lines = subst (λ (j : ℕ). j < vec_len old.lines) (sym last) (old.in_range (length opened - 1) k (omega arith)) in
    holds_add n k old _ items c.args.line c.index_mut.result.now c.push.new.self h last filled below c.index_mut.ensures.value c.in_ok-push.ensures.items refl refl refl
    (ap (λ m. old.size + m) c.size_of-size.ensures)

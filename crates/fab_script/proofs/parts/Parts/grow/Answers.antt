use Rattle.std.proofs.Common.{◌≡◌, ℕ, arith, subst, refl}
use Rattle.fab_script.proofs.HoldsLemmas.{AreEmpty, empty_none, empty_more, holds_grown}
use Rattle.fab_script.proofs.parts.Parts.grow.Goals as goal

pub loop-init : goal.loop-init
loop-init c = record { lines = empty_none c.args.self.now.lines; opened = refl; size = refl }

pub loop-preserved : goal.loop-preserved
loop-preserved c = record {
  lines = λ none. empty_more _ c.loop.self.lines _ _ (c.loop.invariant.lines none) c.new.ensures.items c.in_ok-push.ensures.len c.in_ok-push.ensures.items;
  opened = c.loop.invariant.opened;
  size = c.loop.invariant.size;
}

pub returns : goal.returns
returns c = λ items h.
    let same : c.loop.counter ≡ c.args.peers = omega arith in
    let Whole : ℕ → Type 0 = λ n. AreEmpty n c.loop.self.lines in
    holds_grown c.args.peers c.args.self.now c.loop.self items h (subst Whole same (c.loop.invariant.lines h.count)) c.requires c.loop.invariant.opened c.loop.invariant.size

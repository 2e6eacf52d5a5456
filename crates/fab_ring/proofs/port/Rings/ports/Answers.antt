use Rattle.std.proofs.Common.{rules, ◌≡◌, ℕ, suc, ◌+◌, ◌-◌, ◌<◌, List, drop, [], ◌∷◌, ◌++◌, sym, ap, ◌∙◌, subst, arith}
use Rattle.std.specs.Prelude.{slice_get}
use Rattle.std.specs.Arc.{arc_value}
use Rattle.fab_table.specs.Views.{view_of, parts_from}
use Rattle.fab_ring.specs.declared.port.RingPort.{RingPort}
use Rattle.fab_ring.specs.Made.{IsMade}
use Rattle.fab_ring.proofs.Making.{made_all, get_push}
use Rattle.fab_ring.proofs.port.Rings.ports.Goals as goal

pub loop-me-preserved : goal.loop-me-preserved
loop-me-preserved c = let i = c.loop-me.invariant in let f = arc_value c.args.self.fabric in let n : ℕ = c.peers-peers.result in let me : ℕ = c.loop-me.me in let left = c.split-own.ensures.left in let before : me < n = c.loop-me-test.true in
    let one : n - me ≡ suc (n - (me + 1)) = omega arith in let up : suc me ≡ me + 1 = omega arith in
    let same : arc_value c.in_ok-try_clone.field-0 ≡ f = search rules in let grown : c.push.new.self.items ≡ c.loop-me.all.items ++ c.in_ok-port.port ∷ [] = search rules in
    let made : IsMade f me c.in_ok-port.port = subst (λ t. IsMade t me c.in_ok-port.port) same (c.in_ok-port.ensures {u = tt}) in (
      omega arith,
      search rules,
      left.0.0 ∙ i.2,
      ap (λ m. m.1) left.1 ∙ i.3,
      ap (λ m. m.0) left.1 ∙ ap (λ v. view_of (drop 1 v.parts)) i.4 ∙ (λ j. view_of (drop 1 (parts_from f.peers f.room f.pool me (one j)))) ∙ (λ j. view_of (parts_from f.peers f.room f.pool (up j) (n - (me + 1)))),
      λ k p e. get_push c.loop-me.all.items c.in_ok-port.port p k (IsMade f) i.5 (subst (λ (z : ℕ). IsMade f z c.in_ok-port.port) (sym i.1) made) (ap (λ (z : List RingPort). slice_get z k) (sym grown) ∙ e),
    )

pub returns : goal.returns
returns c = let i = c.loop-me.invariant in let f = arc_value c.args.self.fabric in let all = c.peers-peers.ensures ∙ ap (λ z. z.peers) c.deref.ensures in
    made_all f c.loop-me.all.items (i.1 ∙ (let t = c.loop-me-test.false in let le = i.0 in let e : c.loop-me.me ≡ c.peers-peers.result = omega arith in e) ∙ all) i.5

use Rattle.std.proofs.Common.{rules, ◌≡◌, ℕ, ◌<◌, List, [], ◌∷◌, ◌++◌, length, set, sym, ap, ◌∙◌, subst, arith, append-nil, append_assoc}
use Rattle.fab_queue.specs.Ports.{Queued}
use Rattle.fab_queue.specs.Gather.{AreApart}
use Rattle.fab_queue.proofs.Apart.{apart_starts, apart_more, apart_near}
use Rattle.fab_queue.proofs.gathering.take_apart.Goals as goal

pub loop-port-init : goal.loop-port-init
loop-port-init g c = (([], sym (append-nil c.args.ports.items)), apart_starts c.args.ports.items _ _ c.requires.0 c.requires.1)

pub bounds-outs-place : goal.bounds-outs-place
bounds-outs-place g c =
    let at : c.len-place.result ≡ length c.pop.new.self.items = search rules in let i = c.loop-port.invariant in
    subst (λ (n : ℕ). n < length c.loop-port.outs) (sym at) (apart_near _ _ _ _ _ _ _ c.in-Some.ensures.items i.0.1 i.1).0

pub bounds-ins-place : goal.bounds-ins-place
bounds-ins-place g c =
    let at : c.len-place.result ≡ length c.pop.new.self.items = search rules in let i = c.loop-port.invariant in
    subst (λ (n : ℕ). n < length c.loop-port.ins) (sym at) (apart_near _ _ _ _ _ _ _ c.in-Some.ensures.items i.0.1 i.1).1

pub loop-port-preserved : goal.loop-port-preserved
loop-port-preserved g c =
    let at : c.len-place.result ≡ length c.pop.new.self.items = search rules in let i = c.loop-port.invariant in let ports : List Queued = c.pop.new.self.items in let p : Queued = c.in-Some.port in
    let last : c.loop-port.ports.items ≡ ports ++ p ∷ [] = c.in-Some.ensures.items in (
      (p ∷ i.0.0, i.0.1 ∙ ap (λ (l : List Queued). l ++ i.0.0) last ∙ append_assoc ports (p ∷ []) i.0.0),
      subst (λ (n : ℕ). AreApart c.args.ports.items (set c.loop-port.outs n c.port.inside.outs) (set c.loop-port.ins n c.port.inside.ins) (length ports)) (sym at)
          (apart_more c.args.ports.items c.loop-port.ports.items ports i.0.0 c.loop-port.outs c.loop-port.ins p c.port.inside.outs c.port.inside.ins last i.0.1
          (ap (λ (z : Queued). z.outs) c.port.view_is) (ap (λ (z : Queued). z.ins) c.port.view_is) i.1),
    )

pub returns : goal.returns
returns g c =
    let none : length c.loop-port.ports.items ≡ 0 = (let e = (c.in_default.ensures {u = tt}).cases in let o = c.loop-port.ports.ok in omega arith) in
    subst (λ (n : ℕ). AreApart c.args.ports.items c.loop-port.outs c.loop-port.ins n) none c.loop-port.invariant.1

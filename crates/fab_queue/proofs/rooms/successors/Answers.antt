use Rattle.std.proofs.Common.{rules, ◌≡◌, ◌+◌, ℕ, [], ◌∷◌, ◌++◌, ap, ◌∙◌, length-append}
use Rattle.fab_link.specs.Plain.{Plain}
use Rattle.fab_queue.specs.Ports.{Queued, IsSound}
use Rattle.fab_queue.specs.Gather.{Succeeds}
use Rattle.fab_queue.proofs.Rooming.{pairs_more}
use Rattle.fab_queue.proofs.rooms.successors.Goals as goal

pub loop-port-preserved : goal.loop-port-preserved
loop-port-preserved g c = let i = c.loop-port.invariant in let grown : c.push.new.self.items ≡ c.loop-port.all.items ++ c.in_ok-plain.plain ∷ [] = search rules in
    rw grown (
      length-append c.loop-port.all.items (c.in_ok-plain.plain ∷ []) ∙ ap (λ (n : ℕ). n + 1) i.0,
      pairs_more (λ (p : Queued) (q : Plain). Succeeds p q × IsSound p) c.args.ports.now c.loop-port.all.items c.loop-port.port-index c.port-item.result c.in_ok-plain.plain i.0 i.1 c.port-item.is (c.in_ok-plain.ensures {u = tt}),
    )

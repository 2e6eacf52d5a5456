use Rattle.std.proofs.Common.{rules, ◌≡◌, ◌+◌, [], ◌∷◌, ◌++◌, length, refl, ap, ◌∙◌, length-append}
use Rattle.std.proofs.lemmas.Option.{slice_get_read}
use Rattle.fab_ring.specs.Gather.{Succeeds}
use Rattle.fab_ring.proofs.Making.{paired_more}
use Rattle.fab_ring.proofs.rooms.successors.Goals as goal

pub loop-port-preserved : goal.loop-port-preserved
loop-port-preserved c = let i = c.loop-port.invariant in let grown : c.push.new.self.items ≡ c.loop-port.all.items ++ c.in_ok-plain.plain ∷ [] = search rules in
    let there = slice_get_read c.args.ports.now (length c.args.ports.now) c.loop-port.port-index c.port-item.result refl c.loop-port-test.true c.port-item.is in record {
      count = ap length grown ∙ length-append c.loop-port.all.items (c.in_ok-plain.plain ∷ []) ∙ ap (λ n. n + 1) i.count;
      each = paired_more c.args.ports.now c.loop-port.all.items c.push.new.self.items c.loop-port.port-index c.port-item.result c.in_ok-plain.plain Succeeds i.count there grown (c.in_ok-plain.ensures {u = tt}) i.each;
    }

use Rattle.std.proofs.Common.{rules, ◌≡◌, ◌+◌, Vec, Global, [], ◌∷◌, ◌++◌, length, refl, ap, ◌∙◌, length-append}
use Rattle.std.proofs.lemmas.Option.{slice_get_read}
use Rattle.fab_ring.specs.declared.port.RingPort.{RingPort}
use Rattle.fab_ring.specs.declared.rooms.Inside.{Inside}
use Rattle.fab_ring.specs.Gather.{AreRooms}
use Rattle.fab_ring.proofs.Making.{paired_more}
use Rattle.fab_ring.proofs.rooms.rooms.Goals as goal

pub loop-reader-preserved : goal.loop-reader-preserved
loop-reader-preserved c = let i = c.loop-reader.invariant in let grown : c.push.new.self.items ≡ c.loop-reader.all.items ++ c.in_ok-rooms.rooms ∷ [] = search rules in
    let there = slice_get_read c.args.ports.now (length c.args.ports.now) c.loop-reader.reader-index c.reader-item.result refl c.loop-reader-test.true c.reader-item.is in record {
      count = ap length grown ∙ length-append c.loop-reader.all.items (c.in_ok-rooms.rooms ∷ []) ∙ ap (λ n. n + 1) i.count;
      each = paired_more c.args.ports.now c.loop-reader.all.items c.push.new.self.items c.loop-reader.reader-index c.reader-item.result c.in_ok-rooms.rooms (λ (p : RingPort) (w : Vec Inside Global). AreRooms c.args.ports.now p w.items) i.count there grown (c.in_ok-rooms.ensures {u = tt}) i.each;
    }

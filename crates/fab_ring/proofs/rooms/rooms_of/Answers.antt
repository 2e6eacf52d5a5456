use Rattle.std.proofs.Common.{rules, ◌≡◌, ◌+◌, [], ◌∷◌, ◌++◌, length, refl, ap, ◌∙◌, length-append}
use Rattle.std.proofs.lemmas.Option.{slice_get_read}
use Rattle.fab_ring.specs.Gather.{IsRoom}
use Rattle.fab_ring.proofs.Making.{paired_more}
use Rattle.fab_ring.proofs.rooms.rooms_of.Goals as goal

pub loop-source-preserved : goal.loop-source-preserved
loop-source-preserved c = let i = c.loop-source.invariant in let grown : c.push.new.self.items ≡ c.loop-source.rooms.items ++ c.in_ok-room.room ∷ [] = search rules in
    let there = slice_get_read c.args.ports.now (length c.args.ports.now) c.loop-source.source-index c.source-item.result refl c.loop-source-test.true c.source-item.is in record {
      count = ap length grown ∙ length-append c.loop-source.rooms.items (c.in_ok-room.room ∷ []) ∙ ap (λ n. n + 1) i.count;
      each = paired_more c.args.ports.now c.loop-source.rooms.items c.push.new.self.items c.loop-source.source-index c.source-item.result c.in_ok-room.room (IsRoom c.args.reader.now) i.count there grown (c.in_ok-room.ensures {u = tt}) i.each;
    }

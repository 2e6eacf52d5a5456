use Rattle.std.proofs.Common.{rules, ◌≡◌, ◌+◌, ℕ, [], ◌∷◌, ◌++◌, length, ap, refl, ◌∙◌, length-append}
use Rattle.std.specs.Prelude.{Vec}
use Rattle.std.specs.declared.alloc.Global.{Global}
use Rattle.std.proofs.lemmas.Option.{slice_get_read}
use Rattle.fab_base.specs.declared.frames.Frame.{Frame}
use Rattle.fab_queue.specs.Ports.{Queued}
use Rattle.fab_queue.specs.Gather.{IsRoom}
use Rattle.fab_queue.proofs.Rooming.{pairs_more}
use Rattle.fab_queue.proofs.rooms.rooms_to.Goals as goal

pub room_to-requires : goal.room_to-requires
room_to-requires g c = c.requires c.loop-source.source-index c.source-item.result (slice_get_read c.args.ports.now (length c.args.ports.now) c.loop-source.source-index c.source-item.result refl c.loop-source-test.true c.source-item.is)

pub loop-source-preserved : goal.loop-source-preserved
loop-source-preserved g c = let i = c.loop-source.invariant in let grown : c.push.new.self.items ≡ c.loop-source.rooms.items ++ c.in_ok-room.room ∷ [] = search rules in
    rw grown (
      length-append c.loop-source.rooms.items (c.in_ok-room.room ∷ []) ∙ ap (λ (n : ℕ). n + 1) i.0,
      pairs_more (λ (p : Queued) (w : Vec Frame Global). IsRoom p c.args.reader w) c.args.ports.now c.loop-source.rooms.items c.loop-source.source-index c.source-item.result c.in_ok-room.room i.0 i.1 c.source-item.is (c.in_ok-room.ensures {u = tt}),
    )

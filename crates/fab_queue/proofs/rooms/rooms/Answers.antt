use Rattle.std.proofs.Common.{rules, ◌≡◌, ◌+◌, ◌<◌, ℕ, [], ◌∷◌, ◌++◌, length, ap, sym, refl, subst, ◌∙◌, length-append}
use Rattle.std.specs.Prelude.{Vec}
use Rattle.std.specs.declared.alloc.Global.{Global}
use Rattle.std.proofs.lemmas.Option.{slice_get_read}
use Rattle.fab_base.specs.declared.frames.Frame.{Frame}
use Rattle.fab_queue.specs.Ports.{Queued, number_of}
use Rattle.fab_queue.specs.Gather.{AreRooms}
use Rattle.fab_queue.proofs.Rooming.{pairs_more}
use Rattle.fab_queue.proofs.rooms.rooms.Goals as goal

pub rooms_to-requires : goal.rooms_to-requires
rooms_to-requires g c =
    let here = slice_get_read c.args.ports.now (length c.args.ports.now) c.loop-reader.reader-index c.reader-item.result refl c.loop-reader-test.true c.reader-item.is in
    λ s p at. subst (λ (z : ℕ × ℕ). z.0 < z.1) (λ i. (sym (c.number.ensures ∙ c.requires.numbers c.loop-reader.reader-index c.reader-item.result here) i, sym (c.requires.sizes s p at) i)) c.loop-reader-test.true

pub loop-reader-preserved : goal.loop-reader-preserved
loop-reader-preserved g c = let i = c.loop-reader.invariant in let grown : c.push.new.self.items ≡ c.loop-reader.all.items ++ c.in_ok-rooms.rooms ∷ [] = search rules in
    let fits = subst (λ (n : ℕ). AreRooms c.args.ports.now n c.in_ok-rooms.rooms.items) c.number.ensures (c.in_ok-rooms.ensures {u = tt}) in
    rw grown (
      length-append c.loop-reader.all.items (c.in_ok-rooms.rooms ∷ []) ∙ ap (λ (n : ℕ). n + 1) i.0,
      pairs_more (λ (p : Queued) (w : Vec (Vec Frame Global) Global). AreRooms c.args.ports.now (number_of p) w.items) c.args.ports.now c.loop-reader.all.items c.loop-reader.reader-index c.reader-item.result c.in_ok-rooms.rooms i.0 i.1 c.reader-item.is fits,
    )

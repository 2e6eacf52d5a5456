use Rattle.std.proofs.Common.{ℕ, ◌+◌, ◌<◌, sym, subst}
use Rattle.std.specs.Arc.{arc_value}
use Rattle.fab_table.specs.declared.kinds.Part.{Part}
use Rattle.fab_table.specs.Views.{part_at, out_at}
use Rattle.fab_ring.proofs.Clauses.{posting, frames_length}
use Rattle.fab_ring.proofs.meaning.RingPortPort.post.Goals as goal

pub returns-clause-ok : goal.returns-clause-ok
returns-clause-ok c = let q = c.args.self.now in let f = arc_value q.fabric in let n = c.send.new.self in let d : ℕ = c.args.dest in let p : Part = part_at q.seat.seat.me.0 0 in
    let all = posting p (part_at n.seat.seat.me.0 0) d f.room f.pool c.args.head c.args.bytes.now (subst (λ (z : ℕ). d < z) (sym q.fits.all_outs) c.requires.below) (q.fits.each_put d c.requires.below).4 f.sized.7 c.send.result c.send.ensures.sent c.send.ensures.lane_full c.send.ensures.pool_full c.send.ensures.memory in
    all.ok

pub returns-clause-err : goal.returns-clause-err
returns-clause-err c = let q = c.args.self.now in let f = arc_value q.fabric in let n = c.send.new.self in let d : ℕ = c.args.dest in let p : Part = part_at q.seat.seat.me.0 0 in
    let all = posting p (part_at n.seat.seat.me.0 0) d f.room f.pool c.args.head c.args.bytes.now (subst (λ (z : ℕ). d < z) (sym q.fits.all_outs) c.requires.below) (q.fits.each_put d c.requires.below).4 f.sized.7 c.send.result c.send.ensures.sent c.send.ensures.lane_full c.send.ensures.pool_full c.send.ensures.memory in
    all.err

pub returns-clause-lane_full : goal.returns-clause-lane_full
returns-clause-lane_full c = let q = c.args.self.now in let f = arc_value q.fabric in let n = c.send.new.self in let d : ℕ = c.args.dest in let p : Part = part_at q.seat.seat.me.0 0 in
    let all = posting p (part_at n.seat.seat.me.0 0) d f.room f.pool c.args.head c.args.bytes.now (subst (λ (z : ℕ). d < z) (sym q.fits.all_outs) c.requires.below) (q.fits.each_put d c.requires.below).4 f.sized.7 c.send.result c.send.ensures.sent c.send.ensures.lane_full c.send.ensures.pool_full c.send.ensures.memory in
    all.lane_full

pub returns-clause-pool_full : goal.returns-clause-pool_full
returns-clause-pool_full c = let q = c.args.self.now in let f = arc_value q.fabric in let n = c.send.new.self in let d : ℕ = c.args.dest in let p : Part = part_at q.seat.seat.me.0 0 in
    let all = posting p (part_at n.seat.seat.me.0 0) d f.room f.pool c.args.head c.args.bytes.now (subst (λ (z : ℕ). d < z) (sym q.fits.all_outs) c.requires.below) (q.fits.each_put d c.requires.below).4 f.sized.7 c.send.result c.send.ensures.sent c.send.ensures.lane_full c.send.ensures.pool_full c.send.ensures.memory in
    all.pool_full

pub returns-clause-no_memory : goal.returns-clause-no_memory
returns-clause-no_memory c = let q = c.args.self.now in let f = arc_value q.fabric in let n = c.send.new.self in let d : ℕ = c.args.dest in let p : Part = part_at q.seat.seat.me.0 0 in
    let all = posting p (part_at n.seat.seat.me.0 0) d f.room f.pool c.args.head c.args.bytes.now (subst (λ (z : ℕ). d < z) (sym q.fits.all_outs) c.requires.below) (q.fits.each_put d c.requires.below).4 f.sized.7 c.send.result c.send.ensures.sent c.send.ensures.lane_full c.send.ensures.pool_full c.send.ensures.memory in
    all.no_memory

pub returns-clause-noticed : goal.returns-clause-noticed
returns-clause-noticed c = let q = c.args.self.now in let f = arc_value q.fabric in let n = c.send.new.self in let d : ℕ = c.args.dest in let p : Part = part_at q.seat.seat.me.0 0 in
    let all = posting p (part_at n.seat.seat.me.0 0) d f.room f.pool c.args.head c.args.bytes.now (subst (λ (z : ℕ). d < z) (sym q.fits.all_outs) c.requires.below) (q.fits.each_put d c.requires.below).4 f.sized.7 c.send.result c.send.ensures.sent c.send.ensures.lane_full c.send.ensures.pool_full c.send.ensures.memory in
    all.noticed

pub returns-clause-moves : goal.returns-clause-moves
returns-clause-moves c = let q = c.args.self.now in let f = arc_value q.fabric in let n = c.send.new.self in let d : ℕ = c.args.dest in let p : Part = part_at q.seat.seat.me.0 0 in
    let all = posting p (part_at n.seat.seat.me.0 0) d f.room f.pool c.args.head c.args.bytes.now (subst (λ (z : ℕ). d < z) (sym q.fits.all_outs) c.requires.below) (q.fits.each_put d c.requires.below).4 f.sized.7 c.send.result c.send.ensures.sent c.send.ensures.lane_full c.send.ensures.pool_full c.send.ensures.memory in
    all.moves

pub returns-clause-unmoved : goal.returns-clause-unmoved
returns-clause-unmoved c = let q = c.args.self.now in let f = arc_value q.fabric in let n = c.send.new.self in let d : ℕ = c.args.dest in let p : Part = part_at q.seat.seat.me.0 0 in
    let all = posting p (part_at n.seat.seat.me.0 0) d f.room f.pool c.args.head c.args.bytes.now (subst (λ (z : ℕ). d < z) (sym q.fits.all_outs) c.requires.below) (q.fits.each_put d c.requires.below).4 f.sized.7 c.send.result c.send.ensures.sent c.send.ensures.lane_full c.send.ensures.pool_full c.send.ensures.memory in
    all.unmoved

pub returns-clause-others : goal.returns-clause-others
returns-clause-others c = let q = c.args.self.now in let f = arc_value q.fabric in let n = c.send.new.self in let d : ℕ = c.args.dest in let p : Part = part_at q.seat.seat.me.0 0 in
    let all = posting p (part_at n.seat.seat.me.0 0) d f.room f.pool c.args.head c.args.bytes.now (subst (λ (z : ℕ). d < z) (sym q.fits.all_outs) c.requires.below) (q.fits.each_put d c.requires.below).4 f.sized.7 c.send.result c.send.ensures.sent c.send.ensures.lane_full c.send.ensures.pool_full c.send.ensures.memory in
    all.others

pub returns-clause-incoming : goal.returns-clause-incoming
returns-clause-incoming c = let q = c.args.self.now in let f = arc_value q.fabric in let n = c.send.new.self in let d : ℕ = c.args.dest in let p : Part = part_at q.seat.seat.me.0 0 in
    let all = posting p (part_at n.seat.seat.me.0 0) d f.room f.pool c.args.head c.args.bytes.now (subst (λ (z : ℕ). d < z) (sym q.fits.all_outs) c.requires.below) (q.fits.each_put d c.requires.below).4 f.sized.7 c.send.result c.send.ensures.sent c.send.ensures.lane_full c.send.ensures.pool_full c.send.ensures.memory in
    all.into

pub returns-clause-full : goal.returns-clause-full
returns-clause-full c = let q = c.args.self.now in let f = arc_value q.fabric in let n = c.send.new.self in let d : ℕ = c.args.dest in let p : Part = part_at q.seat.seat.me.0 0 in
    let all = posting p (part_at n.seat.seat.me.0 0) d f.room f.pool c.args.head c.args.bytes.now (subst (λ (z : ℕ). d < z) (sym q.fits.all_outs) c.requires.below) (q.fits.each_put d c.requires.below).4 f.sized.7 c.send.result c.send.ensures.sent c.send.ensures.lane_full c.send.ensures.pool_full c.send.ensures.memory in
    all.full

pub returns-clause-room : goal.returns-clause-room
returns-clause-room c = let q = c.args.self.now in let f = arc_value q.fabric in let n = c.send.new.self in let d : ℕ = c.args.dest in let p : Part = part_at q.seat.seat.me.0 0 in
    let all = posting p (part_at n.seat.seat.me.0 0) d f.room f.pool c.args.head c.args.bytes.now (subst (λ (z : ℕ). d < z) (sym q.fits.all_outs) c.requires.below) (q.fits.each_put d c.requires.below).4 f.sized.7 c.send.result c.send.ensures.sent c.send.ensures.lane_full c.send.ensures.pool_full c.send.ensures.memory in
    all.room_is

pub returns-clause-each_slot : goal.returns-clause-each_slot
returns-clause-each_slot c = let q = c.args.self.now in let f = arc_value q.fabric in let n = c.send.new.self in let d : ℕ = c.args.dest in let p : Part = part_at q.seat.seat.me.0 0 in
    let all = posting p (part_at n.seat.seat.me.0 0) d f.room f.pool c.args.head c.args.bytes.now (subst (λ (z : ℕ). d < z) (sym q.fits.all_outs) c.requires.below) (q.fits.each_put d c.requires.below).4 f.sized.7 c.send.result c.send.ensures.sent c.send.ensures.lane_full c.send.ensures.pool_full c.send.ensures.memory in
    all.each_slot

pub returns-clause-some_slot : goal.returns-clause-some_slot
returns-clause-some_slot c = let q = c.args.self.now in let f = arc_value q.fabric in let n = c.send.new.self in let d : ℕ = c.args.dest in let p : Part = part_at q.seat.seat.me.0 0 in
    let all = posting p (part_at n.seat.seat.me.0 0) d f.room f.pool c.args.head c.args.bytes.now (subst (λ (z : ℕ). d < z) (sym q.fits.all_outs) c.requires.below) (q.fits.each_put d c.requires.below).4 f.sized.7 c.send.result c.send.ensures.sent c.send.ensures.lane_full c.send.ensures.pool_full c.send.ensures.memory in
    all.some_slot

pub returns-clause-no_slot : goal.returns-clause-no_slot
returns-clause-no_slot c = let q = c.args.self.now in let f = arc_value q.fabric in let n = c.send.new.self in let d : ℕ = c.args.dest in let p : Part = part_at q.seat.seat.me.0 0 in
    let all = posting p (part_at n.seat.seat.me.0 0) d f.room f.pool c.args.head c.args.bytes.now (subst (λ (z : ℕ). d < z) (sym q.fits.all_outs) c.requires.below) (q.fits.each_put d c.requires.below).4 f.sized.7 c.send.result c.send.ensures.sent c.send.ensures.lane_full c.send.ensures.pool_full c.send.ensures.memory in
    all.no_slot

pub returns-clause-one_look : goal.returns-clause-one_look
returns-clause-one_look c = let q = c.args.self.now in let f = arc_value q.fabric in let n = c.send.new.self in let d : ℕ = c.args.dest in let p : Part = part_at q.seat.seat.me.0 0 in
    let all = posting p (part_at n.seat.seat.me.0 0) d f.room f.pool c.args.head c.args.bytes.now (subst (λ (z : ℕ). d < z) (sym q.fits.all_outs) c.requires.below) (q.fits.each_put d c.requires.below).4 f.sized.7 c.send.result c.send.ensures.sent c.send.ensures.lane_full c.send.ensures.pool_full c.send.ensures.memory in
    all.one_look

pub returns-clause-no_look : goal.returns-clause-no_look
returns-clause-no_look c = let q = c.args.self.now in let f = arc_value q.fabric in let n = c.send.new.self in let d : ℕ = c.args.dest in let p : Part = part_at q.seat.seat.me.0 0 in
    let all = posting p (part_at n.seat.seat.me.0 0) d f.room f.pool c.args.head c.args.bytes.now (subst (λ (z : ℕ). d < z) (sym q.fits.all_outs) c.requires.below) (q.fits.each_put d c.requires.below).4 f.sized.7 c.send.result c.send.ensures.sent c.send.ensures.lane_full c.send.ensures.pool_full c.send.ensures.memory in
    all.no_look

pub returns-clause-one_round : goal.returns-clause-one_round
returns-clause-one_round c = let q = c.args.self.now in let f = arc_value q.fabric in let n = c.send.new.self in let d : ℕ = c.args.dest in let p : Part = part_at q.seat.seat.me.0 0 in
    let all = posting p (part_at n.seat.seat.me.0 0) d f.room f.pool c.args.head c.args.bytes.now (subst (λ (z : ℕ). d < z) (sym q.fits.all_outs) c.requires.below) (q.fits.each_put d c.requires.below).4 f.sized.7 c.send.result c.send.ensures.sent c.send.ensures.lane_full c.send.ensures.pool_full c.send.ensures.memory in
    all.one_round

pub returns-clause-one_try : goal.returns-clause-one_try
returns-clause-one_try c = let q = c.args.self.now in let f = arc_value q.fabric in let n = c.send.new.self in let d : ℕ = c.args.dest in let p : Part = part_at q.seat.seat.me.0 0 in
    let all = posting p (part_at n.seat.seat.me.0 0) d f.room f.pool c.args.head c.args.bytes.now (subst (λ (z : ℕ). d < z) (sym q.fits.all_outs) c.requires.below) (q.fits.each_put d c.requires.below).4 f.sized.7 c.send.result c.send.ensures.sent c.send.ensures.lane_full c.send.ensures.pool_full c.send.ensures.memory in
    all.one_try

pub returns-clause-next_number : goal.returns-clause-next_number
returns-clause-next_number c = let q = c.args.self.now in let f = arc_value q.fabric in let n = c.send.new.self in let d : ℕ = c.args.dest in let p : Part = part_at q.seat.seat.me.0 0 in
    let all = posting p (part_at n.seat.seat.me.0 0) d f.room f.pool c.args.head c.args.bytes.now (subst (λ (z : ℕ). d < z) (sym q.fits.all_outs) c.requires.below) (q.fits.each_put d c.requires.below).4 f.sized.7 c.send.result c.send.ensures.sent c.send.ensures.lane_full c.send.ensures.pool_full c.send.ensures.memory in
    all.next_number

pub returns-clause-others_known : goal.returns-clause-others_known
returns-clause-others_known c = let q = c.args.self.now in let f = arc_value q.fabric in let n = c.send.new.self in let d : ℕ = c.args.dest in let p : Part = part_at q.seat.seat.me.0 0 in
    let all = posting p (part_at n.seat.seat.me.0 0) d f.room f.pool c.args.head c.args.bytes.now (subst (λ (z : ℕ). d < z) (sym q.fits.all_outs) c.requires.below) (q.fits.each_put d c.requires.below).4 f.sized.7 c.send.result c.send.ensures.sent c.send.ensures.lane_full c.send.ensures.pool_full c.send.ensures.memory in
    all.others_known

pub returns-clause-incoming_known : goal.returns-clause-incoming_known
returns-clause-incoming_known c = let q = c.args.self.now in let f = arc_value q.fabric in let n = c.send.new.self in let d : ℕ = c.args.dest in let p : Part = part_at q.seat.seat.me.0 0 in
    let all = posting p (part_at n.seat.seat.me.0 0) d f.room f.pool c.args.head c.args.bytes.now (subst (λ (z : ℕ). d < z) (sym q.fits.all_outs) c.requires.below) (q.fits.each_put d c.requires.below).4 f.sized.7 c.send.result c.send.ensures.sent c.send.ensures.lane_full c.send.ensures.pool_full c.send.ensures.memory in
    all.incoming_known

pub returns-clause-unlooked : goal.returns-clause-unlooked
returns-clause-unlooked c = let q = c.args.self.now in let d : ℕ = c.args.dest in let p : Part = part_at q.seat.seat.me.0 0 in
    λ space few. c.send.ensures.unlooked (subst (λ (z : ℕ). z < (out_at p d).got_seen + (arc_value q.fabric).room) (sym (frames_length (out_at p d).posted)) space) few

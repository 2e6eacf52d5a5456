use Rattle.std.proofs.Common.{◌≡◌, ℕ, ◌<◌, ◌++◌, List, length, take, drop, sym, ap, ◌∙◌, subst, arith}
use Rattle.fab_link.specs.Plain.{Plain}
use Rattle.fab_table.specs.declared.lane_table.LaneTable.{LaneTable}
use Rattle.fab_table.specs.Seats.{sat}
use Rattle.fab_ring.specs.declared.port.RingPort.{RingPort}
use Rattle.fab_ring.specs.Gather.{AreAll, IsJoined, AreSuccessors, AreAllRooms, AwaitsAll, ReceivedAll, Gathered}
use Rattle.fab_ring.proofs.Wholes.{fed, fed_same, whole_same, all_await, all_gathered, all_merge, all_owed, seam}
use Rattle.fab_ring.proofs.gathering.gather.Goals as goal

pub rooms-requires : goal.rooms-requires
rooms-requires c =
    (c.requires.0, subst (AreAll c.requires.0) (sym c.as_slice-2.ensures.value) c.requires.1)

pub learn-requires : goal.learn-requires
learn-requires c =
    let f = c.requires.0 in let all = c.requires.1 in let t = c.join_all-fabric.result.1 in let whole = c.join_all-fabric.ensures.whole f all in let table = c.join_all-fabric.ensures.table f all in
    whole.joined.of ∙ ap (λ z. z.table.shared.table_id) (sym (c.deref.ensures ∙ table))

pub receive_all-requires-clause-joined : goal.receive_all-requires-clause-joined
receive_all-requires-clause-joined c =
    let f = c.requires.0 in let all = c.requires.1 in let t = c.join_all-fabric.result.1 in let whole = c.join_all-fabric.ensures.whole f all in let table = c.join_all-fabric.ensures.table f all in
    let u = c.learn.new.seat in let is : sat u ≡ sat t = c.learn.ensures.learned.0 in let there = whole_same f c.args.ports.items t u c.learn.ensures.seat.0 is whole in let feeds = fed_same f t u is (fed f t u whole.joined c.learn.ensures.learned) in
    let succ = subst (λ (z : List RingPort). AreSuccessors z c.in-Ok.plain.items) c.as_slice.ensures.value c.in-Ok.ensures in let room = subst (λ (z : List RingPort). AreAllRooms z c.in-Ok-rooms.rooms.items) c.as_slice-2.ensures.value c.in-Ok-rooms.ensures in
    subst (λ (z : LaneTable). IsJoined z u) (sym (c.deref-2.ensures ∙ table)) there.joined

pub receive_all-requires-clause-awaits : goal.receive_all-requires-clause-awaits
receive_all-requires-clause-awaits c =
    let f = c.requires.0 in let all = c.requires.1 in let t = c.join_all-fabric.result.1 in let whole = c.join_all-fabric.ensures.whole f all in let table = c.join_all-fabric.ensures.table f all in
    let u = c.learn.new.seat in let is : sat u ≡ sat t = c.learn.ensures.learned.0 in let there = whole_same f c.args.ports.items t u c.learn.ensures.seat.0 is whole in let feeds = fed_same f t u is (fed f t u whole.joined c.learn.ensures.learned) in
    let succ = subst (λ (z : List RingPort). AreSuccessors z c.in-Ok.plain.items) c.as_slice.ensures.value c.in-Ok.ensures in let room = subst (λ (z : List RingPort). AreAllRooms z c.in-Ok-rooms.rooms.items) c.as_slice-2.ensures.value c.in-Ok-rooms.ensures in
    subst (λ (z : LaneTable × List Plain). AwaitsAll z.0 u z.1 c.in-Ok-rooms.rooms.items) (λ i. (sym (c.deref-2.ensures ∙ table) i, sym c.as_mut_slice.ensures.value i)) (all_await f c.args.ports.items u c.in-Ok.plain.items c.in-Ok-rooms.rooms.items all there feeds succ room)

pub returns-clause-gathered : goal.returns-clause-gathered
returns-clause-gathered c =
    let f = c.requires.0 in let all = c.requires.1 in let t = c.join_all-fabric.result.1 in let whole = c.join_all-fabric.ensures.whole f all in let table = c.join_all-fabric.ensures.table f all in
    let u = c.learn.new.seat in let is : sat u ≡ sat t = c.learn.ensures.learned.0 in let there = whole_same f c.args.ports.items t u c.learn.ensures.seat.0 is whole in let feeds = fed_same f t u is (fed f t u whole.joined c.learn.ensures.learned) in
    let succ = subst (λ (z : List RingPort). AreSuccessors z c.in-Ok.plain.items) c.as_slice.ensures.value c.in-Ok.ensures in let room = subst (λ (z : List RingPort). AreAllRooms z c.in-Ok-rooms.rooms.items) c.as_slice-2.ensures.value c.in-Ok-rooms.ensures in
    let v = c.receive_all.new.seat in let qs : List Plain = c.receive_all.new.ports in let joined = subst (λ (z : LaneTable). IsJoined z v) (c.deref-2.ensures ∙ table) c.receive_all.ensures.joined in let feeds' = fed f v c.learn-2.new.seat joined c.learn-2.ensures.learned in
    let got = subst (λ (z : List Plain). ReceivedAll u v z qs c.in-Ok-rooms.rooms.items) c.as_mut_slice.ensures.value c.receive_all.ensures.received in
    let same : length qs ≡ length c.in-Ok.plain.items = got.count in let len : c.in-Ok.plain.len ≡ length c.in-Ok.plain.items = (let o = c.in-Ok.plain.ok in omega arith) in
    subst (Gathered c.args.ports.items) (sym ((λ i. take (len i) (qs ++ drop (length qs) c.in-Ok.plain.items)) ∙ seam qs c.in-Ok.plain.items same)) (all_gathered f c.args.ports.items u v c.in-Ok.plain.items qs c.in-Ok-rooms.rooms.items all there feeds feeds' succ room got)

pub returns-clause-merged : goal.returns-clause-merged
returns-clause-merged c =
    let f = c.requires.0 in let all = c.requires.1 in let t = c.join_all-fabric.result.1 in let whole = c.join_all-fabric.ensures.whole f all in let table = c.join_all-fabric.ensures.table f all in
    let u = c.learn.new.seat in let is : sat u ≡ sat t = c.learn.ensures.learned.0 in let there = whole_same f c.args.ports.items t u c.learn.ensures.seat.0 is whole in let feeds = fed_same f t u is (fed f t u whole.joined c.learn.ensures.learned) in
    let succ = subst (λ (z : List RingPort). AreSuccessors z c.in-Ok.plain.items) c.as_slice.ensures.value c.in-Ok.ensures in let room = subst (λ (z : List RingPort). AreAllRooms z c.in-Ok-rooms.rooms.items) c.as_slice-2.ensures.value c.in-Ok-rooms.ensures in
    all_merge f c.args.ports.items t all whole (fed f t u whole.joined c.learn.ensures.learned) (λ k low. c.learn.ensures.learned.1 k (subst (λ (z : ℕ). k < z) (sym whole.joined.count) low))

pub returns-clause-repaid : goal.returns-clause-repaid
returns-clause-repaid c =
    let f = c.requires.0 in let all = c.requires.1 in let t = c.join_all-fabric.result.1 in let whole = c.join_all-fabric.ensures.whole f all in let table = c.join_all-fabric.ensures.table f all in
    let u = c.learn.new.seat in let is : sat u ≡ sat t = c.learn.ensures.learned.0 in let there = whole_same f c.args.ports.items t u c.learn.ensures.seat.0 is whole in let feeds = fed_same f t u is (fed f t u whole.joined c.learn.ensures.learned) in
    let succ = subst (λ (z : List RingPort). AreSuccessors z c.in-Ok.plain.items) c.as_slice.ensures.value c.in-Ok.ensures in let room = subst (λ (z : List RingPort). AreAllRooms z c.in-Ok-rooms.rooms.items) c.as_slice-2.ensures.value c.in-Ok-rooms.ensures in
    all_owed f c.args.ports.items t all whole (fed f t u whole.joined c.learn.ensures.learned) (λ k low. c.learn.ensures.learned.1 k (subst (λ (z : ℕ). k < z) (sym whole.joined.count) low))

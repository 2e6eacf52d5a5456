use Rattle.std.proofs.Common.{◌≡◌, ◌<◌, ◌∷◌, [], length, length-append, length-drop, map, arith, ap, refl, Some}
use Rattle.std.specs.Prelude.{slice_get}
use Rattle.fab_ring.proofs.Making.{paired_more}
use Rattle.fab_finish.proofs.Starting.{drop_more}
use Rattle.fab_rounds.specs.Phases.{Seated, living_with}
use Rattle.fab_rounds.proofs.PhaseLists.{first_left, taken_more, taken_all, map_more}
use Rattle.fab_rounds.proofs.crossing.seat_all.Goals as goal

pub remove-one-requires : goal.remove-one-requires
remove-one-requires g c =
    let rest = ap length c.loop-peer.invariant.rest in
    let long = length-drop c.loop-peer._peer c.args.parted.items in
    let test = c.loop-peer-test.true in
    let end = c.len-peer-end.ensures in
    let o = c.args.parted.ok in
    let p = c.loop-peer.parted.ok in
    omega (arith, rest, long, test, end, o, p)

pub remove-port-requires : goal.remove-port-requires
remove-port-requires g c =
    let rest = ap length c.loop-peer.invariant.left in
    let long = length-drop c.loop-peer._peer c.args.ports.items in
    let test = c.loop-peer-test.true in
    let end = c.len-peer-end.ensures in
    let count = c.requires.count in
    let o = c.args.parted.ok in
    let p = c.loop-peer.ports.ok in
    omega (arith, rest, long, test, end, count, o, p)

pub seat-requires-clause-tied : goal.seat-requires-clause-tied
seat-requires-clause-tied g c =
    let inv = c.loop-peer.invariant in
    let n = c.loop-peer._peer in
    let below : n < length c.args.parted.items = (let test = c.loop-peer-test.true in let end = c.len-peer-end.ensures in let o = c.args.parted.ok in omega (arith, test, end, o)) in
    let within : n < length c.args.ports.items = (let count = c.requires.count in omega (arith, below, count)) in
    c.requires.tied n c.remove-port.result c.remove-one.result (first_left c.args.ports.items c.loop-peer.ports.items n c.remove-port.result inv.left within c.remove-port.ensures.value)
    (first_left c.args.parted.items c.loop-peer.parted.items n c.remove-one.result inv.rest below c.remove-one.ensures.value)

pub loop-peer-preserved : goal.loop-peer-preserved
loop-peer-preserved g c =
    let inv = c.loop-peer.invariant in
    let n = c.loop-peer._peer in
    let ws = c.args.parted.items in
    let qs = c.args.ports.items in
    let w = c.remove-one.result in
    let q = c.remove-port.result in
    let p = c.in_ok-peer.peer in
    let old = c.loop-peer.peers.items in
    let grown = c.in_ok-push.ensures.items in
    let below : n < length ws = (let test = c.loop-peer-test.true in let end = c.len-peer-end.ensures in let o = c.args.parted.ok in omega (arith, test, end, o)) in
    let within : n < length qs = (let count = c.requires.count in omega (arith, below, count)) in
    let here : slice_get ws n ≡ Some w = first_left ws c.loop-peer.parted.items n w inv.rest below c.remove-one.ensures.value in
    let there : slice_get qs n ≡ Some q = first_left qs c.loop-peer.ports.items n q inv.left within c.remove-port.ensures.value in
    record {
      rest = drop_more n ws c.loop-peer.parted.items _ inv.rest c.remove-one.ensures.items;
      left = drop_more n qs c.loop-peer.ports.items _ inv.left c.remove-port.ensures.items;
      count = (let long = ap length grown in let one = length-append old (p ∷ []) in let count = inv.count in omega (arith, long, one, count));
      placed = taken_more qs (map (λ x. x.endpoint.port) old) (map (λ x. x.endpoint.port) c.push.new.self.items) n q inv.placed
          (map_more (λ x. x.endpoint.port) old c.push.new.self.items p (map (λ x. x.endpoint.port) old) q grown refl c.in_ok-peer.ensures.port) there;
      each = paired_more ws old c.push.new.self.items n w p (λ x y. Seated (living_with (g.C.Machine.held x.machine) x.peer) x.peer.schedule.items y) inv.count here grown c.in_ok-peer.ensures.seated inv.each;
    }

pub returns-clause-ports : goal.returns-clause-ports
returns-clause-ports g c =
    let end = c.len-peer-end.ensures in
    let o = c.args.parted.ok in
    let count = c.requires.count in
    taken_all c.args.ports.items (map (λ x. x.endpoint.port) c.loop-peer.peers.items) c.loop-peer._peer c.loop-peer.invariant.placed (omega (arith, c.loop-peer-test.false, c.loop-peer.auto._peer-end, end, o, count))

pub returns-clause-each : goal.returns-clause-each
returns-clause-each g c = c.loop-peer.invariant.each

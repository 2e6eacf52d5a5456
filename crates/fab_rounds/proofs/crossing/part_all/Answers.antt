use Rattle.std.proofs.Common.{◌≡◌, ◌<◌, ◌∷◌, [], ◌∙◌, length, length-append, length-drop, map, arith, ap, sym, subst, Some}
use Rattle.std.specs.Prelude.{slice_get}
use Rattle.std.specs.Option.{option_map}
use Rattle.std.proofs.lemmas.List.{length-map}
use Rattle.std.proofs.lemmas.Option.{slice_get-map}
use Rattle.fab_face.specs.Held.{IsOpen}
use Rattle.fab_ring.specs.declared.port.RingPort.{RingPort}
use Rattle.fab_ring.proofs.Making.{paired_more}
use Rattle.fab_finish.proofs.Starting.{drop_more}
use Rattle.fab_peer.specs.Turns.{IsCounted}
use Rattle.fab_rounds.specs.Phases.{seen_ring, past_at, past_with, living_with}
use Rattle.fab_rounds.proofs.PhaseLists.{first_left, taken_more, taken_all, none_at}
use Rattle.fab_rounds.proofs.crossing.part_all.Goals as goal

pub remove-requires : goal.remove-requires
remove-requires g c =
    let rest = ap length c.loop-peer.invariant.rest in
    let long = length-drop c.loop-peer._peer c.args.runners.items in
    let test = c.loop-peer-test.true in
    let end = c.len-peer-end.ensures in
    let o = c.args.runners.ok in
    let p = c.loop-peer.runners.ok in
    omega (arith, rest, long, test, end, o, p)

pub loop-peer-preserved : goal.loop-peer-preserved
loop-peer-preserved g c =
    let inv = c.loop-peer.invariant in
    let n = c.loop-peer._peer in
    let rs = c.args.runners.items in
    let r = c.remove.result in
    let w = c.part-one.result.0 in
    let e = c.part-one.ensures in
    let below : n < length rs = (let test = c.loop-peer-test.true in let end = c.len-peer-end.ensures in let o = c.args.runners.ok in omega (arith, test, end, o)) in
    let there : slice_get rs n ≡ Some r = first_left rs c.loop-peer.runners.items n r inv.rest below c.remove.ensures.value in
    record {
      rest = drop_more n rs c.loop-peer.runners.items _ inv.rest c.remove.ensures.items;
      count = (let grown = ap length c.in_ok-push.ensures.items in let one = length-append c.loop-peer.parted.items (w ∷ []) in let count = inv.count in omega (arith, grown, one, count));
      ports = taken_more (map (λ x. x.peer.endpoint.port) rs) c.loop-peer.ports.items c.push-in-loop-peer.new.self.items n c.part-one.result.1 inv.ports c.in_ok-push-2.ensures.items
          (slice_get-map (λ x. x.peer.endpoint.port) rs n ∙ ap (option_map (λ x. x.peer.endpoint.port)) there ∙ ap Some (sym e.port));
      each = paired_more rs c.loop-peer.parted.items c.push.new.self.items n r w
          (λ x y. (past_with (g.C.Machine.held y.machine) y.peer x.peer.endpoint.port ≡ past_at x.peer) × IsOpen (seen_ring x.peer.endpoint) × IsCounted (living_with (g.C.Machine.held y.machine) y.peer)) inv.count there c.in_ok-push.ensures.items
          (subst (λ (p : RingPort). past_with (g.C.Machine.held w.machine) w.peer p ≡ past_at r.peer) e.port e.past, e.open, e.counted (none_at (λ x. x.failed) rs n r c.requires.well there)) inv.each;
    }

pub returns-clause-count : goal.returns-clause-count
returns-clause-count g c =
    let end = c.len-peer-end.ensures in
    let o = c.args.runners.ok in
    let count = c.loop-peer.invariant.count in
    omega (arith, c.loop-peer-test.false, c.loop-peer.auto._peer-end, end, o, count)

pub returns-clause-ports : goal.returns-clause-ports
returns-clause-ports g c =
    let end = c.len-peer-end.ensures in
    let o = c.args.runners.ok in
    let long = length-map c.args.runners.items (λ x. x.peer.endpoint.port) in
    taken_all (map (λ x. x.peer.endpoint.port) c.args.runners.items) c.loop-peer.ports.items c.loop-peer._peer c.loop-peer.invariant.ports (omega (arith, c.loop-peer-test.false, c.loop-peer.auto._peer-end, end, o, long))

pub returns-clause-each : goal.returns-clause-each
returns-clause-each g c = c.loop-peer.invariant.each

use Rattle.std.proofs.Common.{◌≡◌, List, map, true, sym, subst}
use Rattle.fab_link.specs.Merged.{merges}
use Rattle.fab_merging.specs.Law.{actors as actors_in, schedules as schedules_in}
use Rattle.fab_ring.specs.declared.port.RingPort.{RingPort}
use Rattle.fab_ring.specs.Ports.{moves_of}
use Rattle.fab_ring.specs.Gather.{AreAll, Gathered}
use Rattle.fab_rounds.specs.Opened.{AreGathered}
use Rattle.fab_finish.specs.Joined.{actors, schedules, IsJoined}
use Rattle.fab_rounds.specs.Phases.{past_at}
use Rattle.fab_rounds.proofs.PhaseLists.{ok_both, ok_always}
use Rattle.fab_rounds.proofs.Changing.{gathered_here, tied_here, joined_here, actors_here, schedules_here}
use Rattle.fab_rounds.proofs.crossing.cross.Goals as goal

pub gather-requires : goal.gather-requires
gather-requires g c = (c.requires.all.0, subst (AreAll c.requires.all.0) (sym c.in_ok-parted.ensures.ports) c.requires.all.1)

pub seat_all-requires-clause-tied : goal.seat_all-requires-clause-tied
seat_all-requires-clause-tied g c =
    let e = c.in_ok-parted.ensures in
    let plains = c.in-Ok.plain.items in
    let gathered = subst (λ (zs : List RingPort). Gathered zs plains) e.ports c.in-Ok.ensures.gathered in
    let merged = subst (λ (zs : List RingPort). merges (map moves_of zs) ≡ true) e.ports c.in-Ok.ensures.merged in
    tied_here (λ r. r.peer) (λ w. g.C.Machine.held w.machine) (λ w. w.peer) c.requires.all.0 c.args.runners.items c.in_ok-parted.parted.items plains c.requires.few c.requires.all.1 e.count e.each gathered merged c.requires.together
    c.args.log_size c.requires.log

pub returns-clause-gathered : goal.returns-clause-gathered
returns-clause-gathered g c =
    let e = c.in_ok-parted.ensures in
    let plains = c.in-Ok.plain.items in
    let gathered = subst (λ (zs : List RingPort). Gathered zs plains) e.ports c.in-Ok.ensures.gathered in
    let merged = subst (λ (zs : List RingPort). merges (map moves_of zs) ≡ true) e.ports c.in-Ok.ensures.merged in
    ok_always (AreGathered (map (λ r. past_at r.peer) c.args.runners.items))
    (gathered_here (λ r. r.peer) (λ w. g.C.Machine.held w.machine) (λ w. w.peer) c.requires.all.0 c.args.runners.items c.in_ok-parted.parted.items plains c.requires.few c.requires.all.1 e.count e.each gathered merged c.requires.together)
    c.seat_all.result

pub returns-clause-joined : goal.returns-clause-joined
returns-clause-joined g c =
    let e = c.in_ok-parted.ensures in
    let plains = c.in-Ok.plain.items in
    let gathered = subst (λ (zs : List RingPort). Gathered zs plains) e.ports c.in-Ok.ensures.gathered in
    let merged = subst (λ (zs : List RingPort). merges (map moves_of zs) ≡ true) e.ports c.in-Ok.ensures.merged in
    ok_both _ _ (λ ps. IsJoined ps.items)
    (λ ps placed each. joined_here (λ r. r.peer) (λ w. g.C.Machine.held w.machine) (λ w. w.peer) c.requires.all.0 c.args.runners.items c.in_ok-parted.parted.items plains c.requires.few c.requires.all.1 e.count e.each gathered merged c.requires.together ps.items placed each)
    c.seat_all.result c.seat_all.ensures.ports c.seat_all.ensures.each

pub returns-clause-actors : goal.returns-clause-actors
returns-clause-actors g c =
    let e = c.in_ok-parted.ensures in
    let plains = c.in-Ok.plain.items in
    let gathered = subst (λ (zs : List RingPort). Gathered zs plains) e.ports c.in-Ok.ensures.gathered in
    let merged = subst (λ (zs : List RingPort). merges (map moves_of zs) ≡ true) e.ports c.in-Ok.ensures.merged in
    ok_both _ _ (λ ps. actors ps.items ≡ actors_in (map (λ r. past_at r.peer) c.args.runners.items))
    (λ ps placed each. actors_here (λ r. r.peer) (λ w. g.C.Machine.held w.machine) (λ w. w.peer) c.requires.all.0 c.args.runners.items c.in_ok-parted.parted.items plains c.requires.few c.requires.all.1 e.count e.each gathered merged c.requires.together ps.items placed each)
    c.seat_all.result c.seat_all.ensures.ports c.seat_all.ensures.each

pub returns-clause-schedules : goal.returns-clause-schedules
returns-clause-schedules g c =
    let e = c.in_ok-parted.ensures in
    let plains = c.in-Ok.plain.items in
    let gathered = subst (λ (zs : List RingPort). Gathered zs plains) e.ports c.in-Ok.ensures.gathered in
    let merged = subst (λ (zs : List RingPort). merges (map moves_of zs) ≡ true) e.ports c.in-Ok.ensures.merged in
    ok_both _ _ (λ ps. schedules ps.items ≡ schedules_in (map (λ r. past_at r.peer) c.args.runners.items))
    (λ ps placed each. schedules_here (λ r. r.peer) (λ w. g.C.Machine.held w.machine) (λ w. w.peer) c.requires.all.0 c.args.runners.items c.in_ok-parted.parted.items plains c.requires.few c.requires.all.1 e.count e.each gathered merged c.requires.together ps.items placed each)
    c.seat_all.result c.seat_all.ensures.ports c.seat_all.ensures.each

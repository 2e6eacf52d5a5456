use Rattle.std.proofs.Common.{◌≡◌, ◌<◌, ◌∷◌, [], length, length-append, arith, ap, sym, subst}
use Rattle.std.proofs.lemmas.List.Elements.{All-drop, All-get_or, All-same}
use Rattle.fab_finish.specs.Joined.{start}
use Rattle.fab_rounds_tests.specs.Opening.{Begins}
use Rattle.fab_rounds_tests.proofs.opening.open.Goals as goal

pub open_one-requires-clause-start : goal.open_one-requires-clause-start
open_one-requires-clause-start g c =
    let inv = c.loop-peer.invariant in
    let conf = c.args.bound.now.script.conf in
    let xs = c.loop-peer.machines.items in
    let some : 0 < length xs = (let test = c.loop-peer-test.true in let left = inv.machines in omega (arith, test, left)) in
    subst (λ m. g.C.Machine.held m ≡ start conf) (sym c.remove-machine.ensures.value) (All-get_or (λ m. g.C.Machine.held m ≡ start conf) xs 0 c.remove-machine.result some inv.start)

pub open_one-requires-clause-port : goal.open_one-requires-clause-port
open_one-requires-clause-port g c =
    let inv = c.loop-peer.invariant in
    let n = c.args.bound.now.script.conf.peers in
    let xs = c.loop-peer.ports.items in
    let some : 0 < length xs = (let test = c.loop-peer-test.true in let left = inv.ports in omega (arith, test, left)) in
    subst (λ p. Begins n (g.P.Port.peer_count p) (g.P.Port.outs p) (g.P.Port.ins p)) (sym c.remove-port.ensures.value) (All-get_or (λ p. Begins n (g.P.Port.peer_count p) (g.P.Port.outs p) (g.P.Port.ins p)) xs 0 c.remove-port.result some inv.begins)

pub loop-peer-preserved : goal.loop-peer-preserved
loop-peer-preserved g c =
    let inv = c.loop-peer.invariant in
    let conf = c.args.bound.now.script.conf in
    let n = conf.peers in
    let machine = c.remove-machine.ensures in
    let port = c.remove-port.ensures in
    record {
      machines = (let was = c.loop-peer.machines.ok in let now = c.remove-machine.new.self.ok in let len = machine.len in let left = inv.machines in omega (arith, was, now, len, left));
      start = All-same (λ m. g.C.Machine.held m ≡ start conf) _ _ machine.items (All-drop (λ m. g.C.Machine.held m ≡ start conf) 1 c.loop-peer.machines.items inv.start);
      ports = (let was = c.loop-peer.ports.ok in let now = c.remove-port.new.self.ok in let len = port.len in let left = inv.ports in omega (arith, was, now, len, left));
      begins = All-same (λ p. Begins n (g.P.Port.peer_count p) (g.P.Port.outs p) (g.P.Port.ins p)) _ _ port.items (All-drop (λ p. Begins n (g.P.Port.peer_count p) (g.P.Port.outs p) (g.P.Port.ins p)) 1 c.loop-peer.ports.items inv.begins);
      count = (let grown = ap length c.in_ok-push.ensures.items in let one = length-append c.loop-peer.runners.items (c.in_ok-runner.runner ∷ []) in let count = inv.count in omega (arith, grown, one, count));
    }

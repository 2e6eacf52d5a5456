use Rattle.std.proofs.Common.{◌≡◌, ◌∷◌, [], length-append, arith}
use Rattle.std.proofs.lemmas.List.Elements.{All-push}
use Rattle.fab_open.specs.Machine.{machine_held}
use Rattle.fab_open.specs.declared.machine.BinMachine.{BinMachine}
use Rattle.fab_finish.specs.Joined.{start}
use Rattle.fab_command_runs.proofs.peers.machines.Goals as goal

pub loop-peer-preserved : goal.loop-peer-preserved
loop-peer-preserved c =
    let count = c.loop-peer.invariant.0 in
    rw c.in_ok-push.ensures.items (
      (let l = length-append c.loop-peer.all.items (c.in_ok-one.one ∷ []) in omega (arith, l, count)),
      All-push (λ (machine : BinMachine). machine_held machine ≡ start c.args.conf.now) c.loop-peer.all.items c.in_ok-one.one c.loop-peer.invariant.1 c.in_ok-one.ensures,
    )

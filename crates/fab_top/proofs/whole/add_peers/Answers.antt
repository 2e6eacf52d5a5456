use Rattle.std.proofs.Common.{◌≡◌, ◌++◌, ap, ◌∙◌, arith, get_or, string_bytes}
use Rattle.fab_model.specs.Report.{actor_lines}
use Rattle.fab_model.specs.Words.{text_of}
use Rattle.fab_finish.specs.Joined.{member_actor, member_steps}
use Rattle.fab_top.proofs.Parts.{part_of, part_written, parts_end}
use Rattle.fab_top.proofs.whole.add_peers.Goals as goal

pub loop-number-preserved : goal.loop-number-preserved
loop-number-preserved g c =
    let x = c.index-peers-number.result in
    let is : x ≡ get_or c.args.peers.now c.loop-number.number x = c.index-peers-number.is in
    let writes : string_bytes c.add_peer.new.out ≡ string_bytes c.loop-number.out ++ text_of (actor_lines c.loop-number.number (member_actor x) (member_steps x)) =
    c.in_ok-add_peer.ensures ∙ ap (λ text. string_bytes c.loop-number.out ++ text) (part_of c.loop-number.number x _ _ _ _ _ _ c.lines.ensures c.results.ensures c.kept.ensures (c.from.ensures ∙ c.awaiting.ensures) (c.from-in-loop-number.ensures ∙ c.deferred.ensures) c.schedule.ensures) in
    part_written c.loop-number.number c.args.peers.now x _ _ _ c.loop-number-test.true is c.loop-number.invariant writes

pub returns : goal.returns
returns g c = parts_end c.loop-number.number c.args.peers.now _ _ (omega (arith, c.loop-number-test.false, c.loop-number.auto.number-end)) c.loop-number.invariant

use Rattle.std.proofs.Common.{◌≡◌, ◌++◌, refl, ap, ◌∙◌, arith, get_or, string_bytes}
use Rattle.fab_model.specs.Report.{actor_lines}
use Rattle.fab_model.specs.Words.{text_of}
use Rattle.fab_replay.specs.Seen.{actor_of}
use Rattle.fab_replay.proofs.Parts.{part_of, part_written, parts_end}
use Rattle.fab_replay.proofs.writing.add_peers.Goals as goal

pub loop-number-preserved : goal.loop-number-preserved
loop-number-preserved c =
    let bound = c.args.bound.now in
    let x = c.index-peers-number.result in
    let is : x ≡ get_or c.args.peers.now c.loop-number.number x = c.index-peers-number.is in
    let writes : string_bytes c.add_peer.new.out ≡ string_bytes c.loop-number.out ++ text_of (actor_lines c.loop-number.number (actor_of bound x.actor) x.steps) =
    c.in_ok-add_peer.ensures ∙ ap (λ text. string_bytes c.loop-number.out ++ text) (part_of bound c.loop-number.number x _ _ _ _ _ _ c.lines_in.ensures c.as_slice.ensures.value refl (c.pending.ensures bound) (c.in_ok-deferred.ensures bound) c.as_slice-in-loop-number.ensures) in
    part_written bound c.loop-number.number c.args.peers.now x _ _ _ c.loop-number-test.true is c.loop-number.invariant writes

pub returns : goal.returns
returns c = parts_end c.args.bound.now c.loop-number.number c.args.peers.now _ _ (omega (arith, c.loop-number-test.false, c.loop-number.auto.number-end)) c.loop-number.invariant

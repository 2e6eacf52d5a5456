use Rattle.std.proofs.Common.{rules, ◌≡◌, ap, ◌∙◌}
use Rattle.std.specs.Prelude.{count_by}
use Rattle.fab_kept.specs.Places.{passes}
use Rattle.fab_kept.proofs.Places.{count_somes}
use Rattle.fab_peer.specs.Turns.{hands_back}
use Rattle.fab_peer.proofs.reading.count_kept.Goals as goal

pub returns : goal.returns
returns c =
    let counted : c.count.result ≡ count_by (passes (hands_back c.args.ctx)) c.places.result.now = search rules in
    counted ∙ count_somes (hands_back c.args.ctx) c.places.result.now ∙ ap (count_by (hands_back c.args.ctx)) c.places.ensures

use Rattle.std.proofs.Common.{refl, arith}
use Rattle.std.specs.Prelude.{option_to_list}
use Rattle.fab_kept.specs.Places.{somes}
use Rattle.fab_report.specs.Texts.{left_text}
use Rattle.fab_report.proofs.Blanks.{left_more}
use Rattle.fab_report.proofs.Pieces.{piece_more, pieces_all}
use Rattle.fab_report.proofs.report.add_places.Goals as goal

pub loop-place-preserved : goal.loop-place-preserved
loop-place-preserved c =
    piece_more (λ places. left_text (somes places)) (λ place. left_text (option_to_list place)) left_more c.args.places.now c.loop-place.place-index c.place-item.result
    _ _ _ (omega arith) c.place-item.is c.loop-place.invariant c.in_ok-add_place.ensures

pub returns : goal.returns
returns c = pieces_all (λ places. left_text (somes places)) refl c.args.places.now c.loop-place.place-index _ _ (omega arith) c.loop-place.invariant

use Rattle.std.proofs.Common.{◌++◌, string_bytes, ap, ◌∙◌}
use Rattle.fab_spell.specs.Print.{items_text, part_items}
use Rattle.fab_spell.proofs.Texts.{part_more}
use Rattle.fab_spell.proofs.writing.add_parts.Goals as goal

pub loop-number-preserved : goal.loop-number-preserved
loop-number-preserved c =
    let wrote = c.in_ok-add_part.ensures ∙ ap (λ part. string_bytes c.loop-number.out ++ items_text (part_items c.loop-number.number part)) c.as_slice.ensures in
    part_more c.args.parts.now c.loop-number.number c.index-parts-number.result (string_bytes c.loop-number.out) (string_bytes c.add_part.new.out) _ c.loop-number-test.true c.index-parts-number.is c.loop-number.invariant wrote

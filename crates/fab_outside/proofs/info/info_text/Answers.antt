use Rattle.std.proofs.Common.{◌++◌, ap, ◌∙◌}
use Rattle.fab_base.specs.declared.caps.Info.{Info}
use Rattle.fab_model.specs.Words.{text_of}
use Rattle.fab_outside.specs.Info.{info_lines, info_text}
use Rattle.fab_outside.proofs.info.info_text.Goals as goal

pub returns-clause-text : goal.returns-clause-text
unfolding info_text
returns-clause-text c =
    c.in_ok-add_info.ensures
    ∙ ap (λ text. text ++ text_of (info_lines c.offer.result)) c.new-out.ensures.bytes
    ∙ ap (λ (info : Info). text_of (info_lines info)) c.offer.ensures.offer

use Rattle.std.proofs.Common.{◌≡◌, suc, length}
use Rattle.std.specs.Option.{option_copied, option_map_or}
use Rattle.fab_model.specs.Words.{pieces_at}
use Rattle.fab_report.specs.Reading.{steps_told, pieces_left, behind_all}
use Rattle.fab_report.proofs.reading.steps_in.Given as goal

-- the steps so far, and those of the rest, are those of all words
abbrev pub invariant-words : goal.invariant-words
invariant-words l = steps_told l.peers (pieces_at 32 l.words) ≡ behind_all l.steps.items (steps_told l.peers (pieces_left 32 (option_copied l.left)))

abbrev pub decreases-words : goal.decreases-words
decreases-words l = option_map_or (λ text. suc (length text)) (option_copied l.left) 0

use Rattle.std.proofs.Common.{◌≡◌, suc, length}
use Rattle.std.specs.Option.{option_copied, option_map_or}
use Rattle.fab_model.specs.Words.{pieces_at}
use Rattle.fab_report.specs.Reading.{lists_told, pieces_left, behind_all}
use Rattle.fab_report.proofs.reading.lists_in.Given as goal

-- the lists so far, and those of the rest, are those of all lines
abbrev pub invariant-lines : goal.invariant-lines
invariant-lines l = lists_told l.peers (pieces_at 10 l.text) ≡ behind_all l.lists.items (lists_told l.peers (pieces_left 10 (option_copied l.left)))

abbrev pub decreases-lines : goal.decreases-lines
decreases-lines l = option_map_or (λ text. suc (length text)) (option_copied l.left) 0

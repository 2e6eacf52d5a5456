use Rattle.fab_link.proofs.Parts.{lane_items}
use Rattle.fab_link.proofs.laws.law_cut_is_lane.Goals as goal

pub returns : goal.returns
returns c = λ before b items all sound. lane_items items before b all sound

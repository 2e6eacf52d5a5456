use Rattle.std.proofs.Common.{rules}
use Rattle.fab_table.proofs.Seating.{cuts}
use Rattle.fab_table.proofs.lane_table.LaneTable.split.Goals as goal

pub split_seat-requires : goal.split_seat-requires
split_seat-requires c = (search rules, search rules, cuts _ _ _)
